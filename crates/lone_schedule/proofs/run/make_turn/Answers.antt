use Rattle.std.proofs.Common.{◌≡◌, inl, inr, Some, subst}
use Rattle.std.proofs.lemmas.Bool.{both_ways}
use Rattle.guest_words.specs.Act.{act_of}
use Rattle.machine_core.specs.QuietSteps.{stepped_of, Steps}
use Rattle.run_history.specs.Legal.{is_ready_at}
use Rattle.lone_schedule.proofs.Answering.{arrived_is, idle_is, moved_is, over_is, unstuck}
use Rattle.lone_schedule.proofs.Picking.{chosen_ready}
use Rattle.lone_schedule.proofs.Still.{still_call}
use Rattle.lone_schedule.proofs.Taking.{call_turn, ended_turn, moved_turn}
use Rattle.lone_schedule.proofs.run.make_turn.Goals as goal

pub returns-in-Ok-Moved : goal.returns-in-Ok-Moved
returns-in-Ok-Moved g c =
    let m = c.args.machine in
    let n = c.step.new.self in
    let h = c.pick-hart.result in
    let e = c.in-Ok-Moved.ensures in
    let due = moved_is m.state h (subst (λ x. stepped_of m.state h ≡ Some x) c.in-Ok-Moved.field-0-is e.value) in
    let chosen = c.pick-hart.ensures.value (unstuck m.state due).1 in
    record {
      turn = inr (moved_turn g.K.Origin.state c.args.word h m n (act_of m.state h) c.requires.can due chosen
          (subst (λ x. Steps h 64 m x n) c.in-Ok-Moved.field-0-is e.steps));
    }

pub unreachable-requires : goal.unreachable-requires
unreachable-requires g c =
    let s = c.args.machine.state in
    let h = c.pick-hart.result in
    let t = c.in-Ok-Idle.field-0-0 in
    let idle = idle_is s h t (subst (λ x. stepped_of s h ≡ Some x) c.in-Ok-Idle.field-0-is c.in-Ok-Idle.ensures.value) in
    both_ways (is_ready_at s h) idle.1 (chosen_ready s c.args.word h (c.pick-hart.ensures.value (unstuck s idle.0).1))

pub returns-in-Ok-Arrived : goal.returns-in-Ok-Arrived
returns-in-Ok-Arrived g c =
    let m = c.args.machine in
    let n = c.step.new.self in
    let h = c.pick-hart.result in
    let p = c.in-Ok-Arrived.field-0-0 in
    let e = c.in-Ok-Arrived.ensures in
    let due = arrived_is m.state h p (subst (λ x. stepped_of m.state h ≡ Some x) c.in-Ok-Arrived.field-0-is e.value) in
    let chosen = c.pick-hart.ensures.value (unstuck m.state due).1 in
    let same = subst (λ x. Steps h 64 m x n) c.in-Ok-Arrived.field-0-is e.steps in
    record {
      turn = elim (still_call h m n c.make_call.result same c.make_call.ensures.call) [
        | inl given ↦ inl given
        | inr turn ↦ inr (call_turn c.args.word h m c.make_call.result due chosen turn)
      ];
    }

pub returns-in-Ok-Ended : goal.returns-in-Ok-Ended
returns-in-Ok-Ended g c =
    let m = c.args.machine in
    let n = c.step.new.self in
    let h = c.pick-hart.result in
    let x = c.in-Ok-Ended.field-0-0 in
    let e = c.in-Ok-Ended.ensures in
    let answer = over_is m.state h x (subst (λ y. stepped_of m.state h ≡ Some y) c.in-Ok-Ended.field-0-is e.value) in
    record { turn = inr (ended_turn c.args.word h x m n c.pick-hart.ensures.value answer (subst (λ y. Steps h 64 m y n) c.in-Ok-Ended.field-0-is e.steps)) }
