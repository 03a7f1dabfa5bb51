-- The records of the calls on devices fit a hart's request.
use Rattle.std.proofs.Common.{◌≡◌, inl, inr, ℕ, ◌<◌, ◌≤◌, List, [], length, get_or, refl, ◌∙◌, ap, arith}
use Rattle.std.proofs.lemmas.Bool.Decides.{Decides-eqb, nat_tests}
use Rattle.std.proofs.lemmas.List.Sums.{list_all-from_AllPass}
use Rattle.std.specs.Cmp.Lexicographic.{bytes_decides}
use Rattle.std.specs.Prelude.{Bool, true, false, ◌&&◌, ◌||◌, ◌==◌, nat_le, nat_lt, ℤ, pos}
use Rattle.std.specs.List.{list_all}
use Rattle.guest_words.specs.declared.record.Record.{Record}
use Rattle.guest_words.specs.declared.record.Way.{Way}
use Rattle.guest_words.specs.declared.record.Way.TheVariants.{Read, Write, Close}
use Rattle.guest_words.specs.Act.{Request, fits, is_count, is_failure, is_same_way, is_served}
use Rattle.guest_words.specs.declared.linux.TheConstants.{EIO}
use Rattle.guest_words.specs.Space.{bytes_at}
use Rattle.guest_words.specs.State.{State}
use Rattle.edge_ports.specs.Records.{IsClose, IsOutcome, IsRead, IsWrite}

both : (a b : Bool) → a ≡ true → b ≡ true → (a && b) ≡ true
both true b p q = q
both false b p q = p

first_of_two : (a b : Bool) → a ≡ true → (a || b) ≡ true
first_of_two true b p = refl
first_of_two false b p = absurd (cc p)

second_of_two : (a b : Bool) → b ≡ true → (a || b) ≡ true
second_of_two true b p = refl
second_of_two false b p = p

same_number : (a b : ℕ) → a ≡ b → (a == b) ≡ true
same_number a b is = (Decides-eqb a b).1 is

-- the answer is the number of bytes that went
counts : (r : Record) (n : ℕ) → r.answer ≡ pos n → is_count n r.answer ≡ true
counts r n is = ap (λ (z : ℤ). is_count n z) is ∙ same_number n n refl

failed : (r : Record) → r.answer ≡ EIO → r.bytes ≡ [] → is_failure r ≡ true
failed r answer bytes =
    ap (λ (z : ℤ). is_failure (record r { answer = z })) answer ∙ ap (λ (l : List ℕ). is_failure (record r { answer = EIO; bytes = l })) bytes

served_so : (r : Record) (w : Way) (fd asked place : ℕ) (s : State) → r.port ≡ fd → r.way ≡ w → is_same_way w w ≡ true → r.asked ≡ asked → is_served s w asked place r ≡ true
    → fits s (Request w fd asked place) r ≡ true
served_so r w fd asked place s port way same size served =
    both _ _ (both _ _ (both _ _ (ap (λ (v : Way). is_same_way v w) way ∙ same) (same_number r.port fd port)) (same_number r.asked asked size)) served

pub fits-read : (r : Record) (fd asked place : ℕ) (s : State) → IsRead fd asked r → fits s (Request Read fd asked place) r ≡ true
fits-read r fd asked place s is = served_so r Read fd asked place s is.port is.way refl is.size (at is.outcome)
  where
    within : nat_le (length r.bytes) asked ≡ true
    within = let fits_in : length r.bytes ≤ asked = is.within in grind (arith, nat_tests)

    below : list_all (λ byte. nat_lt byte 256) r.bytes ≡ true
    below = list_all-from_AllPass (λ byte. nat_lt byte 256) r.bytes (λ k d inside. let small : get_or r.bytes k d < 256 = is.below k d inside in grind (arith, nat_tests))

    at : IsOutcome r (length r.bytes) r.bytes → is_served s Read asked place r ≡ true
    at (inl ok) = second_of_two (is_failure r) _ (both _ _ (both _ _ (counts r (length r.bytes) ok.0) within) below)
    at (inr fault) = first_of_two (is_failure r) _ (failed r fault.0 fault.1)

-- the bytes are those in memory that the hart asked to be written
pub fits-write : (r : Record) (fd place : ℕ) (bytes : List ℕ) (s : State) → IsWrite fd bytes r → bytes ≡ bytes_at s.memory place (length bytes)
    → fits s (Request Write fd (length bytes) place) r ≡ true
fits-write r fd place bytes s is memory = served_so r Write fd (length bytes) place s is.port is.way refl is.size (at is.outcome)
  where
    at : IsOutcome r (length bytes) bytes → is_served s Write (length bytes) place r ≡ true
    at (inl ok) =
        second_of_two (is_failure r) _
        (both _ _ (counts r (length bytes) ok.0) ((bytes_decides r.bytes (bytes_at s.memory place (length bytes))).1 (ok.1 ∙ memory)))
    at (inr fault) = first_of_two (is_failure r) _ (failed r fault.0 fault.1)

pub fits-close : (r : Record) (fd place : ℕ) (s : State) → IsClose fd r → fits s (Request Close fd 0 place) r ≡ true
fits-close r fd place s is =
    served_so r Close fd 0 place s is.port is.way refl is.size (both _ _ (counts r 0 is.answer) (ap (λ (l : List ℕ). length l == 0) is.none))
