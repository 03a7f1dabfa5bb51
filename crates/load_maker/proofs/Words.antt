-- An instruction's word is read as that instruction, and is the least that is.
use Rattle.std.proofs.Common.{◌≡◌, ℕ, ◌≤◌, List, [], ◌∷◌, length, refl, ap, sym, subst, ◌∙◌, arith}
use Rattle.std.specs.Prelude.{Bool, true, false, Option, Some, None, find, filter}
use Rattle.std.specs.Option.{option_map}
use Rattle.guest_words.specs.Instructions.{Row, fits, read, table, row_of, instruction_of}
use Rattle.guest_words.specs.declared.inst.Inst.{Inst}
use Rattle.guest_words.proofs.OneRow.{one_row}
use Rattle.load_maker.specs.Encoding.{IsWordOf, word_of_inst}
use Rattle.load_maker.proofs.Rows.{IsMade, EachIsMade, made, table-made}

-- ---- the row that a word fits

-- a row that one word is given and another fits is among those that the other fits
fit_none : (w v : ℕ) (r : Row) (rows : List Row) → find (fits w) rows ≡ Some r → fits v r ≡ true → length (filter (fits v) rows) ≡ 0 → ⊥
fit_none w v r [] e fit none = cc
fit_none w v r (x ∷ rows) e fit none = at (fits w x) refl (fits v x) refl (λ f n. fit_none w v r rows f fit n)
  where
    at : (b : Bool) → fits w x ≡ b → (d : Bool) → fits v x ≡ d → (find (fits w) rows ≡ Some r → length (filter (fits v) rows) ≡ 0 → ⊥) → ⊥
    at true is true has rest = let one = rw has at none in omega (arith, one)
    at true is false has rest = let same = rw is at e in cc
    at false is true has rest = let one = rw has at none in omega (arith, one)
    at false is false has rest = rest (rw is at e) (rw has at none)

-- so it is the row that the other is given
refound : (w v : ℕ) (r : Row) (rows : List Row) → find (fits w) rows ≡ Some r → fits v r ≡ true → length (filter (fits v) rows) ≤ 1 → find (fits v) rows ≡ Some r
refound w v r [] e fit one = cc
refound w v r (x ∷ rows) e fit one = at (fits w x) refl (fits v x) refl (λ f n. refound w v r rows f fit n)
  where
    at : (b : Bool) → fits w x ≡ b → (d : Bool) → fits v x ≡ d → (find (fits w) rows ≡ Some r → length (filter (fits v) rows) ≤ 1 → find (fits v) rows ≡ Some r) → find (fits v) (x ∷ rows) ≡ Some r
    at true is true has rest = rw has (let same = rw is at e in same)
    at true is false has rest = absurd (let same = rw is at e in cc)
    at false is true has rest =
        absurd (let more = rw has at one in fit_none w v r rows (rw is at e) fit (omega (arith, more)))
    at false is false has rest = rw has (rest (rw is at e) (rw has at one))

-- what a row makes, of the row that a word is given
found : (w : ℕ) (r : Row) (rows : List Row) → EachIsMade rows → find (fits w) rows ≡ Some r → (fits w r ≡ true) × IsMade r
found w r [] each e = absurd (cc)
found w r (x ∷ rows) each e = at (fits w x) refl (λ f. found w r rows each.1 f)
  where
    at : (b : Bool) → fits w x ≡ b → (find (fits w) rows ≡ Some r → (fits w r ≡ true) × IsMade r) → (fits w r ≡ true) × IsMade r
    at true is rest =
        let here = rw is at e in
        let same : x ≡ r = cc in
        (subst (λ y. fits w y ≡ true) same is, subst IsMade same each.0)
    at false is rest = rest (rw is at e)

-- ---- instructions

abbrev of_row : ℕ → Row → Inst
of_row w r = read r.format r.op w

-- what the word of an instruction is, by a word that is the instruction
record Word (inst : Inst) (w : ℕ) : Type 0 where
  is : instruction_of (word_of_inst inst) ≡ Some inst
  least : word_of_inst inst ≤ w

word-made : (r : Row) (w : ℕ) → word_of_inst (of_row w r) ≡ made r w
unfolding word_of_inst
word-made r w = refl

word-found : (w : ℕ) (r : Row) → find (fits w) table ≡ Some r → Word (of_row w r) w
unfolding instruction_of row_of
word-found w r e =
    let here = found w r table table-made e in
    let makes = here.1 w here.0 in
    let again = refound w (made r w) r table e makes.fit (one_row (made r w)) in
    let read_again : instruction_of (made r w) ≡ Some (of_row w r) =
    ap (option_map (of_row (made r w))) again ∙ ap Some makes.same in
    record {
      is = ap instruction_of (word-made r w) ∙ read_again;
      least = subst (λ (n : ℕ). n ≤ w) (sym (word-made r w)) makes.least;
    }

word-at : (w : ℕ) (inst : Inst) (o : Option Row) → find (fits w) table ≡ o → option_map (of_row w) o ≡ Some inst → Word inst w
word-at w inst None e is = absurd (cc)
word-at w inst (Some r) e is =
    let same : of_row w r ≡ inst = cc in
    subst (λ i. Word i w) same (word-found w r e)

word : (w : ℕ) (inst : Inst) → instruction_of w ≡ Some inst → Word inst w
unfolding instruction_of row_of
word w inst is = word-at w inst (find (fits w) table) refl is

-- the word of an instruction that some word is
pub IsWordOf-word : (w : ℕ) (inst : Inst) → instruction_of w ≡ Some inst → IsWordOf inst (word_of_inst inst)
IsWordOf-word w inst is = record { read = (word w inst is).is; least = λ v e. (word v inst e).least }
