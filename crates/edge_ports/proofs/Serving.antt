-- A record serves what its call did.
use Rattle.std.proofs.Common.{◌≡◌, ℕ, min, List, [], length, take, refl, sym, ◌∙◌, ap, subst}
use Rattle.std.proofs.lemmas.List.{append-nil}
use Rattle.std.specs.Prelude.{None, Some, Ok, Err, Bool, true, false, ℤ, MatchResult, IfSome, pos, if◌then◌else◌}
use Rattle.std.specs.declared.option.Option.{Option}
use Rattle.std.specs.declared.result.Result.{Result}
use Rattle.guest_words.specs.declared.record.Record.{Record}
use Rattle.guest_words.specs.declared.record.Way.{Way}
use Rattle.guest_words.specs.declared.record.Way.TheVariants.{Read}
use Rattle.std.specs.Ordering.{int_eq}
use Rattle.edge_ports.specs.End.{End, raised_if, Takes, Went, Came}
use Rattle.guest_words.specs.declared.linux.TheConstants.{EIO}
use Rattle.edge_ports.specs.Records.{AnswersLesser, Serves, is_read, is_write, taken_bytes, given_bytes}

pub went_none : (a : Option (List ℕ)) → Went a [] a
went_none None = refl
went_none (Some a) = refl

pub came_none : (a : Option (List ℕ)) → Came a [] a
came_none None = refl
came_none (Some a) = ap Some (sym (append-nil a))

-- what a record of each way took and gave
pub taken-is : (r : Record) (w : Way) → r.way ≡ w → taken_bytes r ≡ (if is_read w then r.bytes else [])
taken-is r w is = ap (λ (v : Way). if is_read v then r.bytes else []) is

pub given-is : (r : Record) (w : Way) → r.way ≡ w → given_bytes r ≡ (if is_write w then r.bytes else [])
given-is r w is = ap (λ (v : Way). if is_write v then r.bytes else []) is

lesser : (left : Option (List ℕ)) (r : Record) (n : ℕ) (places : List ℕ) → r.answer ≡ pos n → r.asked ≡ length places → IfSome left (λ l. n ≡ min (length places) (length l)) → IfSome left (λ l. AnswersLesser (length l) r)
lesser None r n places answer asked count = tt
lesser (Some l) r n places answer asked count = λ reads ok. answer ∙ ap pos (count ∙ ap (λ (m : ℕ). min m (length l)) (sym asked))

spared : (left : Option (List ℕ)) (r : Record) → r.answer ≡ EIO → IfSome left (λ l. AnswersLesser (length l) r)
spared None r fails = tt
spared (Some l) r fails = λ reads ok. absurd (ok fails)

-- a call failed just where its answer says so
unfailed : (r : Record) (n : ℕ) → r.answer ≡ pos n → int_eq r.answer EIO ≡ false
unfailed r n is = ap (λ (z : ℤ). int_eq z EIO) is

failing : (r : Record) → r.answer ≡ EIO → int_eq r.answer EIO ≡ true
failing r is = ap (λ (z : ℤ). int_eq z EIO) is

-- the record of a `take`
take_serves : {E : Type 0} (r : Record) (old new : End) (places : List ℕ) (result : Result ℕ E) → Takes old new places result → r.way ≡ Read → r.asked ≡ length places
    → MatchResult result (λ n. r.bytes ≡ take n places) (λ _. r.bytes ≡ []) → MatchResult result (λ n. r.answer ≡ pos n) (λ _. r.answer ≡ EIO) → Serves r old new
take_serves r old new places (Ok n) did way asked bytes answer = record {
  left = subst (λ (l : List ℕ). Went old.left l new.left) (sym (taken-is r Read way ∙ bytes)) did.left;
  count = lesser old.left r n places answer asked did.count;
  given = subst (λ (l : List ℕ). Came old.given l new.given) (sym (given-is r Read way)) (subst (λ (g : Option (List ℕ)). Came old.given [] g) (sym did.given) (came_none old.given));
  faults = did.faults ∙ ap (λ (b : Bool). raised_if b old.faults) (sym (unfailed r n answer));
}
take_serves r old new places (Err e) did way asked bytes answer = record {
  left = subst (λ (l : List ℕ). Went old.left l new.left) (sym (taken-is r Read way ∙ bytes)) (subst (λ (g : Option (List ℕ)). Went old.left [] g) (sym did.left) (went_none old.left));
  count = spared old.left r answer;
  given = subst (λ (l : List ℕ). Came old.given l new.given) (sym (given-is r Read way)) (subst (λ (g : Option (List ℕ)). Came old.given [] g) (sym did.given) (came_none old.given));
  faults = did.faults ∙ ap (λ (b : Bool). raised_if b old.faults) (sym (failing r answer));
}

-- the same, where the places were written back to a longer list that is cut to their number
pub read_serves : {E : Type 0} (r : Record) (old new : End) (places written : List ℕ) (result : Result ℕ E) → Takes old new places result → written ≡ places → r.way ≡ Read → r.asked ≡ length written
    → MatchResult result (λ n. r.bytes ≡ take n written) (λ _. r.bytes ≡ []) → MatchResult result (λ n. r.answer ≡ pos n) (λ _. r.answer ≡ EIO) → Serves r old new
read_serves r old new places written result did same way asked bytes answer =
    take_serves r old new places result did way (asked ∙ ap length same)
    (subst (λ (l : List ℕ). MatchResult result (λ n. r.bytes ≡ take n l) (λ _. r.bytes ≡ [])) same bytes)
    answer
