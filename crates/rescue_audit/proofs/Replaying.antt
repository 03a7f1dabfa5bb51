-- How far a list of entries is legal, entry by entry.
use Rattle.std.proofs.Common.{◌≡◌, ℕ, ◌+◌, suc, Bool, true, false, cond, List, [], ◌∷◌, Option, Some, None, refl, ap, sym, ◌∙◌, arith}
use Rattle.std.specs.Prelude.{option_map}
use Rattle.guest_words.specs.State.{State}
use Rattle.run_history.specs.declared.entry.Entry.{Entry}
use Rattle.run_history.specs.After.{after}
use Rattle.run_history.specs.Legal.{legal}
use Rattle.history_file.specs.Starts.{first_illegal}

abbrev pub counted : ℕ → Option ℕ → Option ℕ
counted n o = option_map (λ k. k + n) o

pub counted-zero : (o : Option ℕ) → counted 0 o ≡ o
counted-zero None = refl
counted-zero (Some k) = ap Some (omega arith)

one_more : (n : ℕ) (o : Option ℕ) → counted n (option_map suc o) ≡ counted (n + 1) o
one_more n None = refl
one_more n (Some k) = ap Some (omega arith)

here : (n : ℕ) → counted n (Some 0) ≡ Some n
here n = ap Some (omega arith)

pub legal_next : (n : ℕ) (s : State) (e : Entry) (es : List Entry) → legal s e ≡ true
    → counted n (first_illegal s (e ∷ es)) ≡ counted (n + 1) (first_illegal (after s e) es)
unfolding first_illegal
legal_next n s e es is =
    ap (λ (t : Bool). counted n (cond t (option_map suc (first_illegal (after s e) es)) (Some 0))) is
    ∙ one_more n (first_illegal (after s e) es)

pub illegal_here : (n : ℕ) (s : State) (e : Entry) (es : List Entry) → legal s e ≡ false → counted n (first_illegal s (e ∷ es)) ≡ Some n
unfolding first_illegal
illegal_here n s e es is =
    ap (λ (t : Bool). counted n (cond t (option_map suc (first_illegal (after s e) es)) (Some 0))) is ∙ here n

pub legal_past : (n : ℕ) (s : State) → counted n (first_illegal s []) ≡ None
unfolding first_illegal
legal_past n s = refl
