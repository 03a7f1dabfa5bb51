-- Bytes that lie side by side, as entries of the map that memory is.
use Rattle.std.specs.Prelude.{ℕ, ◌+◌, List, [], ◌∷◌}
use Rattle.guest_words.specs.declared.image.Rights.{Rights}
use Rattle.guest_words.specs.declared.image.Cell.{Cell}

-- the bytes from an address on, each with its address and rights
abbrev pub run_of : ℕ → Rights → List ℕ → List (ℕ × Cell)
run_of at rights [] = []
run_of at rights (b ∷ bs) = (at, record { byte = b; rights = rights }) ∷ run_of (at + 1) rights bs
