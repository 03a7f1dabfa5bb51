use Rattle.std.proofs.Common.{◌≡◌, drop}
use Rattle.std.specs.List.{list_any}
use Rattle.guest_words.specs.Harts.{is_ready}
use Rattle.hart_slots.proofs.harts.any_ready.Given as goal

abbrev pub invariant-loop-hart : goal.invariant-loop-hart
invariant-loop-hart l = list_any (λ hart. is_ready hart.state) (drop l.hart-index l.harts) ≡ list_any (λ hart. is_ready hart.state) l.harts
