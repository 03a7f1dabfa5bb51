use Rattle.std.proofs.Common.{◌≡◌, drop}
use Rattle.std.specs.List.{list_any}
use Rattle.hart_slots.specs.Parts.{is_live_state}
use Rattle.hart_slots.proofs.harts.any_live.Given as goal

abbrev pub invariant-loop-hart : goal.invariant-loop-hart
invariant-loop-hart l = list_any (λ hart. is_live_state hart.state) (drop l.hart-index l.harts) ≡ list_any (λ hart. is_live_state hart.state) l.harts
