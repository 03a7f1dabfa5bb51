use Rattle.std.proofs.Common.{◌≡◌, drop, length, ◌==◌}
use Rattle.std.specs.List.{list_all}
use Rattle.hart_slots.proofs.frames.none_open.Given as goal

abbrev pub invariant-loop-each : goal.invariant-loop-each
invariant-loop-each l = list_all (λ frames. length frames == 0) (drop l.each-index l.frames) ≡ list_all (λ frames. length frames == 0) l.frames
