-- Ranges of memory in which pages come and go.
use Rattle.std.proofs.Common.{◌≡◌, ℕ, ◌+◌, ◌-◌, ◌*◌, ◌/◌, ◌%◌, ◌<◌, ◌≤◌, ◌&&◌, nat_le, nat_lt, Bool, true, false, List, length, Option, Some, None, refl, sym, ap, ◌∙◌, arith, if◌then◌else◌, ◌⊎◌, inl, inr, slice_index}
use Rattle.std.proofs.lemmas.Bool.Decides.{nat_tests, leb_tells}
use Rattle.std.specs.Cmp.{nat_cmp_total}
use Rattle.std.specs.FinMap.{get, same_map, nat_cmp-IsAntisymmetric}
use Rattle.guest_words.specs.declared.image.Rights.{Rights}
use Rattle.guest_words.specs.Space.{Space, low_bytes, page_up, with_bytes, with_number, with_zeros, without, zero_cell}
use Rattle.guest_words.proofs.Blanks.{get-with_bytes, overwritten}
use Rattle.guest_words.proofs.SpaceLaws.{is_within, get-with_zeros, get-without}
use Rattle.guest_pages.specs.Stretch.{IsFree}

-- an address is in a range, or out of it
pub range_tells : (from size a : ℕ) → ((is_within from size a ≡ true) × (from ≤ a) × (a < from + size)) ⊎ ((is_within from size a ≡ false) × (from ≤ a → a < from + size → ⊥))
range_tells from size a = by (is_within from size a) refl
  where
    by : (t : Bool) → is_within from size a ≡ t → ((is_within from size a ≡ true) × (from ≤ a) × (a < from + size)) ⊎ ((is_within from size a ≡ false) × (from ≤ a → a < from + size → ⊥))
    by true e = inl (e, grind (arith, nat_tests, e), grind (arith, nat_tests, e))
    by false e = inr (e, λ low high. grind (arith, nat_tests, e, low, high))

-- what an address of a range of zeros has, and one out of it
pub zeros_inside : (m : Space) (from size a : ℕ) (rights : Rights) → from ≤ a → a < from + size → get (with_zeros m from size rights) a ≡ Some (zero_cell rights)
zeros_inside m from size a rights low high =
    let t : is_within from size a ≡ true = grind (arith, nat_tests) in
    get-with_zeros m from size rights a ∙ ap (λ b. if b then Some (zero_cell rights) else get m a) t

pub zeros_outside : (m : Space) (from size a : ℕ) (rights : Rights) → (from ≤ a → a < from + size → ⊥) → get (with_zeros m from size rights) a ≡ get m a
zeros_outside m from size a rights out =
    elim (range_tells from size a) [
      | inl inside ↦ absurd (out inside.1 inside.2)
      | inr outside ↦ get-with_zeros m from size rights a ∙ ap (λ b. if b then Some (zero_cell rights) else get m a) outside.0
    ]

-- what an address of a range that went has, and one out of it
pub gone_inside : (m : Space) (from size a : ℕ) → from ≤ a → a < from + size → get (without m from size) a ≡ None
gone_inside m from size a low high =
    let t : is_within from size a ≡ true = grind (arith, nat_tests) in
    get-without m from size a ∙ ap (λ b. if b then None else get m a) t

pub gone_outside : (m : Space) (from size a : ℕ) → (from ≤ a → a < from + size → ⊥) → get (without m from size) a ≡ get m a
gone_outside m from size a out =
    elim (range_tells from size a) [
      | inl inside ↦ absurd (out inside.1 inside.2)
      | inr outside ↦ get-without m from size a ∙ ap (λ b. if b then None else get m a) outside.0
    ]

-- a part of a free range is free, and so are two free ranges side by side
pub free_part : (m : Space) (from size part less : ℕ) → IsFree m from size → from ≤ part → part + less ≤ from + size → IsFree m part less
free_part m from size part less free low high a l h = free a (omega (arith, low, l)) (omega (arith, high, h))

pub free_joined : (m : Space) (from size more : ℕ) → IsFree m from size → IsFree m (from + size) more → IsFree m from (size + more)
free_joined m from size more free rest a low high =
    elim (leb_tells (from + size) a) [
      | inl past ↦ rest a past.1 (omega (arith, high))
      | inr before ↦ free a low before.1
    ]

-- a range stays free where zeros come out of it
pub free_after_gain : (m : Space) (from size at count : ℕ) (rights : Rights) → IsFree m from size → (from + size ≤ at) ⊎ (at + count ≤ from) → IsFree (with_zeros m at count rights) from size
free_after_gain m from size at count rights free apart a low high =
    zeros_outside m at count a rights (λ l h. elim apart [ inl e ↦ omega (arith, e, l, high) | inr e ↦ omega (arith, e, h, low) ]) ∙ free a low high

-- and where any bytes go
pub free_after_loss : (m : Space) (from size at count : ℕ) → IsFree m from size → IsFree (without m at count) from size
free_after_loss m from size at count free a low high =
    elim (range_tells at count a) [
      | inl inside ↦ gone_inside m at count a inside.1 inside.2
      | inr outside ↦ gone_outside m at count a outside.1 ∙ free a low high
    ]

-- a range that went is free
pub free_lost : (m : Space) (from size : ℕ) → IsFree (without m from size) from size
free_lost m from size a low high = gone_inside m from size a low high

overwritten_none : (o : Option ℕ) → overwritten o None ≡ None
overwritten_none None = refl
overwritten_none (Some b) = refl

-- bytes that are stored bring no page
pub free_after_bytes : (m : Space) (from size at : ℕ) (bytes : List ℕ) → IsFree m from size → IsFree (with_bytes m at bytes) from size
free_after_bytes m from size at bytes free a low high =
    let o = if nat_le at a && nat_lt a (at + length bytes) then Some (slice_index bytes (a - at)) else None in
    get-with_bytes m at bytes a ∙ ap (overwritten o) (free a low high) ∙ overwritten_none o

pub free_after_number : (m : Space) (from size at width value : ℕ) → IsFree m from size → IsFree (with_number m at width value) from size
free_after_number m from size at width value free = free_after_bytes m from size at (low_bytes width value) free

-- nothing goes from a range that is free
pub without_free : (m : Space) (from size : ℕ) → IsFree m from size → without m from size ≡ m
without_free m from size free =
    same_map nat_cmp_total nat_cmp-IsAntisymmetric _ _ (λ a.
    elim (range_tells from size a) [
      | inl inside ↦ gone_inside m from size a inside.1 inside.2 ∙ sym (free a inside.1 inside.2)
      | inr outside ↦ gone_outside m from size a outside.1
    ])

-- no bytes come and none go from a range of none
pub without_none : (m : Space) (from : ℕ) → without m from 0 ≡ m
without_none m from = without_free m from 0 (λ a low high. absurd (omega (arith, low, high)))

pub zeros_none : (m : Space) (from : ℕ) (rights : Rights) → with_zeros m from 0 rights ≡ m
unfolding with_zeros
zeros_none m from rights = refl

-- two ranges side by side go as one
pub without_joined : (m : Space) (from size more : ℕ) → without (without m (from + size) more) from size ≡ without m from (size + more)
without_joined m from size more =
    same_map nat_cmp_total nat_cmp-IsAntisymmetric _ _ (λ a. by a (range_tells from size a) (range_tells (from + size) more a))
  where
    by : (a : ℕ) → ((is_within from size a ≡ true) × (from ≤ a) × (a < from + size)) ⊎ ((is_within from size a ≡ false) × (from ≤ a → a < from + size → ⊥))
        → ((is_within (from + size) more a ≡ true) × (from + size ≤ a) × (a < from + size + more)) ⊎ ((is_within (from + size) more a ≡ false) × (from + size ≤ a → a < from + size + more → ⊥))
        → get (without (without m (from + size) more) from size) a ≡ get (without m from (size + more)) a
    by a (inl first) x =
        let low = first.1 in
        let high = first.2 in
        gone_inside (without m (from + size) more) from size a low high
        ∙ sym (gone_inside m from (size + more) a low (omega (arith, high)))
    by a (inr first) (inl last) =
        let low = last.1 in
        let high = last.2 in
        gone_outside (without m (from + size) more) from size a first.1 ∙ gone_inside m (from + size) more a low high
        ∙ sym (gone_inside m from (size + more) a (omega (arith, low)) (omega (arith, high)))
    by a (inr first) (inr last) =
        gone_outside (without m (from + size) more) from size a first.1 ∙ gone_outside m (from + size) more a last.1
        ∙ sym (gone_outside m from (size + more) a (λ low high.
        elim (leb_tells (from + size) a) [
          | inl past ↦ last.1 past.1 (omega (arith, high))
          | inr before ↦ first.1 low before.1
        ]))

-- a range that went goes with what is free before it
pub without_before : (m : Space) (from end more : ℕ) → from ≤ end → IsFree (without m end more) from (end - from) → without m end more ≡ without m from (end + more - from)
without_before m from end more ordered free =
    let middle : from + (end - from) ≡ end = omega (arith, ordered) in
    let all : end - from + more ≡ end + more - from = omega (arith, ordered) in
    sym (without_free (without m end more) from (end - from) free)
    ∙ ap (λ q. without (without m q more) from (end - from)) (sym middle)
    ∙ without_joined m from (end - from) more
    ∙ ap (without m from) all

-- a page taken before a range that went, with a free range between them, goes with both
pub without_previous : (m : Space) (page size end more : ℕ) → page + size ≤ end → IsFree (without m end more) (page + size) (end - (page + size))
    → without (without m end more) page size ≡ without m page (end + more - page)
without_previous m page size end more ordered free =
    let all : size + (end + more - (page + size)) ≡ end + more - page = omega (arith, ordered) in
    ap (λ n. without n page size) (without_before m (page + size) end more ordered free)
    ∙ without_joined m page size (end + more - (page + size))
    ∙ ap (without m page) all

-- a number of bytes filled up to whole pages
pub page_up-aligned : (n : ℕ) → page_up n % 4096 ≡ 0
page_up-aligned n = omega arith

pub page_up-above : (n : ℕ) → n ≤ page_up n
page_up-above n = omega arith

pub page_up-ascends : (a b : ℕ) → a ≤ b → page_up a ≤ page_up b
page_up-ascends a b ordered = omega (arith, ordered)

pub page_up-within : (n end : ℕ) → n ≤ end → end % 4096 ≡ 0 → page_up n ≤ end
page_up-within n end ordered whole = omega (arith, ordered, whole)

-- what lies between two breaks is in whole pages
pub page_up-between : (a b : ℕ) → page_up b - page_up a ≡ 4096 * ((page_up b - page_up a) / 4096)
page_up-between a b = omega arith

-- behind the break the heap stays free where its pages come up to a later break, or go down to an
-- earlier one
pub heap_grown : (m : Space) (brk to end : ℕ) (rights : Rights) → IsFree m (page_up brk) (end - page_up brk) → brk ≤ to
    → IsFree (with_zeros m (page_up brk) (page_up to - page_up brk) rights) (page_up to) (end - page_up to)
heap_grown m brk to end rights free ordered =
    let up = page_up-ascends brk to ordered in
    free_after_gain m (page_up to) (end - page_up to) (page_up brk) (page_up to - page_up brk) rights
    (λ a low high. free a (omega (arith, up, low)) (omega (arith, up, low, high)))
    (inr (omega (arith, up)))

pub heap_shrunk : (m : Space) (brk to end : ℕ) → IsFree m (page_up brk) (end - page_up brk) → to ≤ brk
    → IsFree (without m (page_up to) (page_up brk - page_up to)) (page_up to) (end - page_up to)
heap_shrunk m brk to end free ordered a low high =
    elim (leb_tells (page_up brk) a) [
      | inl past ↦
          let p = past.1 in
          free_after_loss m (page_up brk) (end - page_up brk) (page_up to) (page_up brk - page_up to) free a p (omega (arith, p, low, high))
      | inr before ↦
          let b = before.1 in
          gone_inside m (page_up to) (page_up brk - page_up to) a low (omega (arith, b))
    ]
