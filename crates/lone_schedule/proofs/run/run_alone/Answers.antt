use Rattle.std.proofs.Common.{sym, ◌∙◌}
use Rattle.lone_schedule.proofs.Standing.{can_by, left_less, slots_stay, stands_first, stands_next}
use Rattle.lone_schedule.proofs.run.run_alone.Goals as goal

pub loop-words-init : goal.loop-words-init
loop-words-init g c = record {
  stands = stands_first c.args.seed c.args.machine c.of-words.result c.of-words.ensures.value;
  slots = c.requires.slots;
}

pub loop-words-preserved : goal.loop-words-preserved
loop-words-preserved g c =
    let start = g.K.Origin.state in
    let m = c.loop-words.machine in
    let n = c.make_turn-machine.result in
    let w = c.draw-word.result in
    let i = c.loop-words.invariant in
    let can = can_by start m (sym c.can_turn.ensures.value ∙ c.loop-words-test.true) i.slots c.can_turn.ensures.told in
    let turn = c.make_turn-machine.ensures.turn in
    record {
      stands = stands_next start c.args.seed w c.args.machine m n c.loop-words.words c.draw-word.new.self can i.stands c.draw-word.ensures.value c.draw-word.ensures.next turn;
      slots = slots_stay w m n i.slots turn;
    }

pub loop-words-smaller : goal.loop-words-smaller
loop-words-smaller g c =
    let start = g.K.Origin.state in
    let m = c.loop-words.machine in
    let can = can_by start m (sym c.can_turn.ensures.value ∙ c.loop-words-test.true) c.loop-words.invariant.slots c.can_turn.ensures.told in
    left_less start c.draw-word.result m c.make_turn-machine.result can c.make_turn-machine.ensures.turn
