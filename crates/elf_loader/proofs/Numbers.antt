-- The numbers that `byteorder` reads are those of the fields.
use Rattle.std.proofs.Common.{◌≡◌, ℕ, zero, suc, ◌+◌, List, length, take, drop, ◌-◌, ◌≤◌, refl, ap, ◌∙◌, arith, get_or}
use Rattle.std.proofs.lemmas.List.{get_or-drop}
use Rattle.byteorder.specs.Endian.{little_from, little_number}
use Rattle.byteorder.specs.Numbers.{little_from-take}
use Rattle.guest_words.specs.ElfFields.{number}

little_from-drop : (n i place : ℕ) (file : List ℕ) → little_from i n (drop place file) ≡ number n (place + i) file
unfolding number
little_from-drop zero i place file = refl
little_from-drop (suc n) i place file =
    let byte : get_or (drop place file) i 0 ≡ get_or file (place + i) 0 = get_or-drop place file i 0 in
    let rest = little_from-drop n (suc i) place file in
    let next : place + suc i ≡ place + i + 1 = omega arith in
    rw (byte, rest, next) refl

-- the number at the front of what follows a place
pub little_number-tail :
    (n place : ℕ) (file : List ℕ) → place + n ≤ length file → little_number n (take (length file - place) (drop place file)) ≡ number n place file
little_number-tail n place file within =
    little_from-take 0 n (length file - place) (drop place file) (omega arith)
    ∙ little_from-drop n 0 place file
    ∙ ap (λ p. number n p file) (omega arith)

-- a number of one byte
pub number-one : (place : ℕ) (file : List ℕ) → get_or file place 0 ≡ number 1 place file
unfolding number
number-one place file = omega arith
