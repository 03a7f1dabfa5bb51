use Rattle.std.proofs.Common.{◌≤◌, ◌+◌, ◌-◌, ◌∙◌, min, length, arith}
use Rattle.guest_atomics.proofs.EmptyHarts.{empty-more, paste-empty}
use Rattle.guest_atomics.proofs.kept.empty_from.Goals as goal

pub loop-slot-preserved : goal.loop-slot-preserved
loop-slot-preserved c = record {
  value = empty-more c.loop-slot.slot c.args.from c.args.harts.now c.loop-slot.harts c.loop-slot.auto.slot (omega arith) c.loop-slot.invariant.value;
  within = omega arith;
}

pub returns : goal.returns
returns c =
    let some = c.loop-slot.slot - c.args.from in
    let behind : min c.args.end (length c.args.harts.now) ≤ c.args.from + some = omega arith in
    let within : c.args.from + some ≤ length c.args.harts.now = omega arith in
    record {
      value = c.loop-slot.invariant.value
          ∙ paste-empty c.args.end c.args.from some c.args.harts.now c.requires.behind behind within;
    }
