use Rattle.std.proofs.Common.{◌≡◌, drop}
use Rattle.std.specs.List.{position_from}
use Rattle.guest_words.specs.Harts.{is_free}
use Rattle.hart_slots.proofs.harts.first_free.Given as goal

abbrev pub invariant-loop-h : goal.invariant-loop-h
invariant-loop-h l = position_from (λ hart. is_free hart.state) l.h (drop l.h l.harts) ≡ position_from (λ hart. is_free hart.state) 1 (drop 1 l.harts)
