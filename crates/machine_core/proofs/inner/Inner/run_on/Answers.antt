use Rattle.std.proofs.Common.{◌≡◌, ◌+◌, ◌-◌, ◌∷◌, ◌++◌, [], ℕ, true, false, not, refl, ap, sym, ◌∙◌, subst, arith}
use Rattle.std.proofs.lemmas.Bool.{and_from}
use Rattle.guest_words.specs.Act.{act_of}
use Rattle.guest_words.specs.Endings.{is_budget_spent}
use Rattle.guest_words.specs.State.{State, frames_at}
use Rattle.edge_ports.specs.Seen.{Seen}
use Rattle.run_history.specs.declared.entry.Entry.{Ran}
use Rattle.run_history.specs.After.{next, ran}
use Rattle.run_history.specs.Legal.{can_run, is_ordinary, is_ready_at}
use Rattle.run_history.proofs.Quietness.{quiet_frames, quiet_ran}
use Rattle.run_history.proofs.RunSteps.{can_run-both, can_run-one, ran-both, ran-one}
use Rattle.hart_step.specs.Live.{space_of}
use Rattle.hart_step.specs.Stops.{IsPlainRow, Stops, wants_memory}
use Rattle.machine_core.specs.Inner.{Inner, inner_of, machine_in}
use Rattle.machine_core.specs.QuietSteps.{IsRowOn, RunsOn}
use Rattle.machine_core.specs.Turns.{CanTurn}
use Rattle.machine_core.proofs.Making.{sees_ordinary, unnoted}
use Rattle.machine_core.proofs.Turning.{calm, stops_join, turn_holds, turn_records, turn_runs}
use Rattle.machine_core.proofs.inner.Inner.run_on.Given as given
use Rattle.machine_core.proofs.inner.Inner.run_on.Goals as goal

abbrev w : (g : given.Over) (c : goal.After-append g) → Inner
w g c = inner_of c.self.inside.engine c.self.inside.calls c.self.inside.log c.self.inside.abandoned

abbrev v : (g : given.Over) (c : goal.After-append g) → Inner
v g c = inner_of c.run-behind.new.self c.append.new.self c.run-behind.new.log c.self.inside.abandoned

abbrev n : (g : given.Over) (c : goal.After-append g) → ℕ
n g c = c.run-behind.result.count + 1

can : (g : given.Over) (c : goal.After-append g) → CanTurn (w g c)
can g c = subst CanTurn (sym c.self.view_is) c.requires.can

ready : (g : given.Over) (c : goal.After-append g) → is_ready_at (w g c).live.state (w g c).hart ≡ true
ready g c = ap (λ (x : Inner). is_ready_at x.live.state x.hart) c.self.view_is ∙ c.requires.going.under.ready

fresh : (g : given.Over) (c : goal.After-append g) → is_budget_spent (w g c).live.state ≡ false
fresh g c = ap (λ (x : Inner). is_budget_spent x.live.state) c.self.view_is ∙ c.requires.left

ordinary : (g : given.Over) (c : goal.After-append g) → is_ordinary (act_of (w g c).live.state (w g c).hart) ≡ true
ordinary g c = ap (λ (x : Inner). is_ordinary (act_of x.live.state x.hart)) c.self.view_is ∙ c.requires.ordinary

-- the first act
first : (g : given.Over) (c : goal.After-append g) → c.advance.new.self.state ≡ ran (w g c).live.state (w g c).hart 1
first g c =
    let s = c.self.inside.engine.state in
    let own = c.hart-hart.ensures.value in
    let seen = sees_ordinary (act_of s c.hart-hart.result) c.in_ok-advance.field-0 c.in_ok-advance.ensures.value (ap (λ h. is_ordinary (act_of s h)) own ∙ ordinary g c) in
    c.in_ok-advance.ensures.after seen ∙ ap (next s) own ∙ sym (ran-one s c.self.inside.calls.hart)

more : (g : given.Over) (c : goal.After-append g) → 1 + c.run-behind.result.count ≡ n g c
more g c = omega arith

goes : (g : given.Over) (c : goal.After-append g) → can_run (w g c).live.state (w g c).hart (n g c) ≡ true
goes g c =
    let s = (w g c).live.state in
    let h = (w g c).hart in
    let behind : can_run (ran s h 1) h c.run-behind.result.count ≡ true = (λ i. can_run (sym (first g c) i) (sym c.hart-hart.ensures.value i) c.run-behind.result.count) ∙ c.run-behind.ensures.legal in
    ap (can_run s h) (sym (more g c))
    ∙ can_run-both s h 1 c.run-behind.result.count (can_run-one s h (and_from _ _ (and_from _ _ (ap not (fresh g c)) (ready g c)) (ordinary g c))) behind

to : (g : given.Over) (c : goal.After-append g) → (v g c).live.state ≡ ran (w g c).live.state (w g c).hart (n g c)
to g c =
    let s = (w g c).live.state in
    let h = (w g c).hart in
    c.run-behind.ensures.after ∙ (λ i. ran (first g c i) (c.hart-hart.ensures.value i) c.run-behind.result.count) ∙ sym (ran-both s h 1 c.run-behind.result.count) ∙ ap (ran s h) (more g c)

none_first : (g : given.Over) (c : goal.After-append g) → (c.advance.new.log.notes ≡ c.make_room.new.log.notes) × (c.advance.new.self.spare ≡ c.self.inside.engine.spare)
none_first g c = unnoted c.make_room.new.log.notes c.advance.new.log.notes (space_of c.self.inside.engine) (space_of c.advance.new.self) c.in_ok-advance.ensures.notes

none_behind : (g : given.Over) (c : goal.After-append g) → (c.run-behind.new.log.notes ≡ c.advance.new.log.notes) × (c.run-behind.new.self.spare ≡ c.advance.new.self.spare)
none_behind g c = unnoted c.advance.new.log.notes c.run-behind.new.log.notes (space_of c.advance.new.self) (space_of c.run-behind.new.self) c.run-behind.ensures.notes

logged : (g : given.Over) (c : goal.After-append g) → c.run-behind.new.log.notes ≡ c.self.inside.log.notes
logged g c = (none_behind g c).0 ∙ (none_first g c).0 ∙ c.make_room.ensures.same

nest : (g : given.Over) (c : goal.After-append g) → (v g c).nest ≡ record (w g c).nest { entries = (w g c).nest.entries ++ Ran (w g c).hart (n g c) ∷ [] }
nest g c =
    c.append.ensures.nest ∙ (λ i. record {
      outers = (c.make_room.ensures.nest i).outers;
      entries = (c.make_room.ensures.nest i).entries ++ Ran (c.hart-hart.ensures.value i) (n g c) ∷ [];
    })

spare : (g : given.Over) (c : goal.After-append g) → (v g c).live.spare ≡ (w g c).live.spare
spare g c = (none_behind g c).1 ∙ (none_first g c).1

pub invariant_of-self-2 : goal.invariant_of-self-2
invariant_of-self-2 g c =
    turn_holds g.K.Origin.state g.K.Origin.devices (w g c) c.self.inside.log c.self.invariant (can g c) (v g c) c.run-behind.new.log (ready g c) (fresh g c) (n g c) (omega arith) (goes g c) (to g c) (spare g c) (nest g c) refl (logged g c)

pub returns-clause-records : goal.returns-clause-records
returns-clause-records g c =
    turn_records g.K.Origin.state g.K.Origin.devices (w g c) c.self.inside.log c.self.invariant (can g c) (v g c) c.run-behind.new.log (ready g c) (fresh g c) (n g c) (omega arith) (goes g c) (to g c) (spare g c) (nest g c) refl
    ∙ ap (λ (x : Inner). x.live.state.records) c.self.view_is

row : (g : given.Over) (c : goal.After-append g) → IsRowOn (w g c).live.state (w g c).hart (n g c)
row g c = λ k some less.
    let s = (w g c).live.state in
    let h = (w g c).hart in
    let plain = subst (λ (x : State × ℕ). IsPlainRow false x.0 x.1 c.run-behind.result.count) (λ i. (first g c i, c.hart-hart.ensures.value i)) c.run-behind.ensures.row in
    let one : 1 + (k - 1) ≡ k = omega (arith, some) in
    let wants = (plain (k - 1) (omega (arith, some, less))).1 in
    ap (λ (t : State). wants_memory false t h) (ap (ran s h) (sym one) ∙ ran-both s h 1 (k - 1)) ∙ wants

pub returns-clause-ok : goal.returns-clause-ok
returns-clause-ok g c =
    let s = (w g c).live.state in
    let h = (w g c).hart in
    let quiet = calm g.K.Origin.state g.K.Origin.devices (w g c) c.self.inside.log c.self.invariant (can g c) in
    let behind : frames_at (v g c).live.state h ≡ 0 = ap (λ (t : State). frames_at t h) (to g c) ∙ quiet_frames (ran s h (n g c)) h (quiet_ran s h (n g c) quiet) in
    let before : frames_at c.advance.new.self.state h ≡ 0 = ap (λ (t : State). frames_at t h) (first g c) ∙ quiet_frames (ran s h 1) h (quiet_ran s h 1 quiet) in
    let within = c.run-behind.ensures.within in
    let some = c.requires.quantum in
    subst (λ (x : Inner). (d : Seen) → RunsOn x.hart c.args.quantum (machine_in x d) (machine_in (v g c) d)) c.self.view_is
    (turn_runs g.K.Origin.state g.K.Origin.devices (w g c) c.self.inside.log c.self.invariant (can g c) (v g c) c.run-behind.new.log (ready g c) (fresh g c) (n g c) (omega arith) (goes g c) (to g c) (spare g c) (nest g c) refl
    c.args.quantum (omega (arith, within, some)) (row g c)
    (λ less. stops_join c.advance.new.self.state (v g c).live.state h c.run-behind.result.next
    (subst (λ k. Stops false c.advance.new.self.state (v g c).live.state k c.run-behind.result.next) c.hart-hart.ensures.value (c.run-behind.ensures.stops (omega (arith, less)))) (behind ∙ sym before)))
