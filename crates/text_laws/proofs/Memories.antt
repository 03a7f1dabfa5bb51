-- Changes of memory that change no byte which can be executed, and let no other be executed.
use Rattle.std.proofs.Common.{◌≡◌, ℕ, zero, suc, ◌+◌, ◌-◌, ◌<◌, ◌≤◌, ◌/◌, ◌%◌, ◌^◌, ◌==◌, ◌&&◌, nat_le, nat_lt, Bool, true, false, if◌then◌else◌, List, ◌∷◌, length, Option, Some, None, refl, ap, sym, ◌∙◌, slice_index, arith}
use Rattle.std.proofs.lemmas.Bool.Decides.{nat_tests}
use Rattle.std.specs.FinMap.{get}
use Rattle.guest_words.specs.declared.image.Cell.{Cell}
use Rattle.guest_words.specs.declared.image.Rights.{Rights}
use Rattle.guest_words.specs.declared.inst.Inst.{Inst}
use Rattle.guest_words.specs.HartAct.{inst_at}
use Rattle.guest_words.specs.Instructions.{instruction_of}
use Rattle.guest_words.specs.Space.{Space, byte_of, bytes_at, can_execute, can_write, each_has, has_right, low_bytes, number_at, number_of, with_bytes, with_zeros, without, zero_cell}
use Rattle.guest_words.proofs.Blanks.{get-with_bytes, overwritten}
use Rattle.guest_words.proofs.SpaceLaws.{get-with_zeros, get-without, is_within}
use Rattle.run_history.proofs.Ands.{and_left, and_right, if_by}
use Rattle.text_laws.specs.Texts.{executes, writes}

-- no byte of a range can be executed
abbrev pub HasNoText : Space → ℕ → ℕ → Type 0
HasNoText m from size = (a : ℕ) → from ≤ a → a < from + size → executes (get m a) ≡ false

-- no byte that can be written can be executed
abbrev pub IsApart : Space → Type 0
IsApart m = (a : ℕ) → writes (get m a) ≡ true → executes (get m a) ≡ false

-- each byte that can be executed lies below an address
abbrev pub IsBelow : Space → ℕ → Type 0
IsBelow m end = (a : ℕ) → executes (get m a) ≡ true → a < end

-- each byte that can be executed stays, and no other comes to be executed
pub record KeepsText (m n : Space) : Type 0 where
  pub stays : (a : ℕ) → executes (get m a) ≡ true → get n a ≡ get m a
  pub none : (a : ℕ) → executes (get m a) ≡ false → executes (get n a) ≡ false

pub executes_same : (m n : Space) → KeepsText m n → (a : ℕ) → executes (get n a) ≡ executes (get m a)
executes_same m n k a = by (executes (get m a)) refl
  where
    by : (b : Bool) → executes (get m a) ≡ b → executes (get n a) ≡ executes (get m a)
    by true e = ap executes (k.stays a e)
    by false e = k.none a e ∙ sym e

pub keeps_same : (m : Space) → KeepsText m m
keeps_same m = record { stays = λ a may. refl; none = λ a may. may }

pub keeps_both : (m n o : Space) → KeepsText m n → KeepsText n o → KeepsText m o
keeps_both m n o first second = record {
  stays = λ a may. second.stays a (executes_same m n first a ∙ may) ∙ first.stays a may;
  none = λ a may. second.none a (first.none a may);
}

-- then what can be written stays apart, and what can be executed below

pub apart_kept : (m n : Space) → KeepsText m n → IsApart m → IsApart n
apart_kept m n k apart a may = by (executes (get m a)) refl
  where
    by : (b : Bool) → executes (get m a) ≡ b → executes (get n a) ≡ false
    by true e = executes_same m n k a ∙ apart a (sym (ap writes (k.stays a e)) ∙ may)
    by false e = k.none a e

pub below_kept : (m n : Space) (end : ℕ) → KeepsText m n → IsBelow m end → IsBelow n end
below_kept m n end k below a may = below a (sym (executes_same m n k a) ∙ may)

-- ranges without text

pub lacks_above : (m : Space) (end from size : ℕ) → IsBelow m end → end ≤ from → HasNoText m from size
lacks_above m end from size below past a low high = by (executes (get m a)) refl
  where
    by : (b : Bool) → executes (get m a) ≡ b → executes (get m a) ≡ false
    by true e = absurd (let less = below a e in omega (arith, less, low, past))
    by false e = e

-- each byte of a range that has a right has it
each_at : (right : Rights → Bool) (m : Space) (from size a : ℕ) → each_has right m from size ≡ true → from ≤ a → a < from + size → has_right right (get m a) ≡ true
unfolding each_has
each_at right m from zero a each low high = absurd (omega (arith, low, high))
each_at right m from (suc size) a each low high =
    by (nat_le a from) refl (λ next. each_at right m (from + 1) size a (and_right _ _ each) next (omega (arith, high)))
  where
    by : (b : Bool) → nat_le a from ≡ b → (from + 1 ≤ a → has_right right (get m a) ≡ true) → has_right right (get m a) ≡ true
    by true e later = let same : a ≡ from = grind (arith, nat_tests, e, low) in ap (λ q. has_right right (get m q)) same ∙ and_left _ _ each
    by false e later = later (grind (arith, nat_tests, e, low))

pub lacks_written : (m : Space) (from size few : ℕ) → IsApart m → can_write m from size ≡ true → few ≤ size → HasNoText m from few
lacks_written m from size few apart may less a low high =
    apart a (each_at (λ rights. rights.write) m from size a (and_right _ _ may) low (omega (arith, less, high)))

-- a change within a range that has no text and gets none
keeps_outside : (m n : Space) (from size : ℕ) → HasNoText m from size
    → ((a : ℕ) → is_within from size a ≡ false → get n a ≡ get m a)
    → ((a : ℕ) → executes (get m a) ≡ false → executes (get n a) ≡ false) → KeepsText m n
keeps_outside m n from size lacks outside none = record { stays = λ a may. by a may (is_within from size a) refl; none = none }
  where
    by : (a : ℕ) → executes (get m a) ≡ true → (b : Bool) → is_within from size a ≡ b → get n a ≡ get m a
    by a may true is =
        let low : from ≤ a = let t = and_left (nat_le from a) (nat_lt a (from + size)) is in grind (arith, nat_tests, t) in
        let high : a < from + size = let t = and_right (nat_le from a) (nat_lt a (from + size)) is in grind (arith, nat_tests, t) in
        let never : true ≡ false = sym may ∙ lacks a low high in
        cc
    by a may false is = outside a is

overwritten_executes : (x : Option ℕ) (o : Option Cell) → executes (overwritten x o) ≡ executes o
overwritten_executes None o = refl
overwritten_executes (Some b) None = refl
overwritten_executes (Some b) (Some cell) = refl

pub stored_keeps : (m : Space) (from : ℕ) (bytes : List ℕ) → HasNoText m from (length bytes) → KeepsText m (with_bytes m from bytes)
stored_keeps m from bytes lacks =
    keeps_outside m (with_bytes m from bytes) from (length bytes) lacks
    (λ a is. get-with_bytes m from bytes a ∙ ap (λ b. overwritten (if b then Some (slice_index bytes (a - from)) else None) (get m a)) is)
    (λ a may. ap executes (get-with_bytes m from bytes a) ∙ overwritten_executes _ (get m a) ∙ may)

pub zeros_keep : (m : Space) (from size : ℕ) (rights : Rights) → HasNoText m from size → rights.exec ≡ false → KeepsText m (with_zeros m from size rights)
zeros_keep m from size rights lacks sealed =
    keeps_outside m (with_zeros m from size rights) from size lacks
    (λ a is. get-with_zeros m from size rights a ∙ ap (λ b. if b then Some (zero_cell rights) else get m a) is)
    (λ a may. ap executes (get-with_zeros m from size rights a) ∙ if_by (λ o. executes o ≡ false) (is_within from size a) (Some (zero_cell rights)) (get m a) (λ e. sealed) (λ e. may))

pub without_keeps : (m : Space) (from size : ℕ) → HasNoText m from size → KeepsText m (without m from size)
without_keeps m from size lacks =
    keeps_outside m (without m from size) from size lacks
    (λ a is. get-without m from size a ∙ ap (λ b. if b then None else get m a) is)
    (λ a may. ap executes (get-without m from size a) ∙ if_by (λ o. executes o ≡ false) (is_within from size a) None (get m a) (λ e. refl) (λ e. may))

length-low_bytes : (width value : ℕ) → length (low_bytes width value) ≡ width
unfolding low_bytes
length-low_bytes zero value = refl
length-low_bytes (suc width) value = ap suc (length-low_bytes width (value / 256))

pub number_keeps : (m : Space) (from width value : ℕ) → IsApart m → can_write m from width ≡ true → KeepsText m (with_bytes m from (low_bytes width value))
number_keeps m from width value apart may =
    let long = length-low_bytes width value in
    stored_keeps m from (low_bytes width value) (lacks_written m from width (length (low_bytes width value)) apart may (omega (arith, long)))

-- then each address has the same instruction, or none

each_same : (m n : Space) → KeepsText m n → (from size : ℕ) → each_has (λ rights. rights.exec) n from size ≡ each_has (λ rights. rights.exec) m from size
unfolding each_has
each_same m n k from zero = refl
each_same m n k from (suc size) =
    ap (λ b. b && each_has (λ rights. rights.exec) n (from + 1) size) (executes_same m n k from)
    ∙ ap (λ b. executes (get m from) && b) (each_same m n k (from + 1) size)

bytes_same : (m n : Space) → KeepsText m n → (from size : ℕ) → each_has (λ rights. rights.exec) m from size ≡ true → bytes_at n from size ≡ bytes_at m from size
unfolding bytes_at each_has
bytes_same m n k from zero each = refl
bytes_same m n k from (suc size) each =
    ap (λ o. byte_of o ∷ bytes_at n (from + 1) size) (k.stays from (and_left _ _ each))
    ∙ ap (λ bytes. byte_of (get m from) ∷ bytes) (bytes_same m n k (from + 1) size (and_right _ _ each))

no_inst : (even : Bool) (x y : Option Inst) → (if even && false then x else None) ≡ (if even && false then y else None)
no_inst true x y = refl
no_inst false x y = refl

pub inst_same : (m n : Space) → KeepsText m n → (pc : ℕ) → inst_at n pc ≡ inst_at m pc
inst_same m n k pc =
    ap (λ b. if (pc % 4 == 0) && b then instruction_of (number_at n pc 4) else None) may ∙ by (can_execute m pc 4) refl
  where
    may : can_execute n pc 4 ≡ can_execute m pc 4
    may = ap (λ b. nat_le (pc + 4) (2 ^ 64) && b) (each_same m n k pc 4)

    by : (b : Bool) → can_execute m pc 4 ≡ b
        → (if (pc % 4 == 0) && b then instruction_of (number_at n pc 4) else None) ≡ (if (pc % 4 == 0) && b then instruction_of (number_at m pc 4) else None)
    by true is = ap (λ bytes. if (pc % 4 == 0) && true then instruction_of (number_of bytes) else None) (bytes_same m n k pc 4 (and_right _ _ is))
    by false is = no_inst (pc % 4 == 0) (instruction_of (number_at n pc 4)) (instruction_of (number_at m pc 4))
