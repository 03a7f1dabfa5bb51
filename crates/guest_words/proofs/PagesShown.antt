-- Breaks that move, and pages that are mapped and unmapped, with the numbers that calls answer.
use Rattle.std.proofs.Common.{◌≡◌, ℕ, zero, suc, ◌+◌, ◌-◌, ◌*◌, ◌<◌, pos, Bool, true, false, not, ◌&&◌, nat_le, Option, Some, None, refl, sym, ap, ◌∙◌, subst, arith, ◌≤◌, if◌then◌else◌}
use Rattle.guest_words.specs.declared.call.Facts.{Facts}
use Rattle.guest_words.specs.declared.call.Request.TheVariants.{Break, Map, Unmap}
use Rattle.guest_words.specs.declared.call.Reply.TheVariants as reply
use Rattle.guest_words.specs.declared.linux.TheConstants.{EINVAL, ENOMEM}
use Rattle.guest_words.specs.declared.image.Rights.{Rights}
use Rattle.guest_words.specs.Calls.{reply_of}
use Rattle.std.specs.Cmp.{nat_cmp_total}
use Rattle.std.specs.FinMap.{get, same_map, nat_cmp-IsAntisymmetric}
use Rattle.std.proofs.lemmas.Bool.Decides.{nat_tests}
use Rattle.guest_words.specs.Space.{Space, has_right, can_write, zero_cell, page_up, with_zeros, without}
use Rattle.guest_words.specs.State.{State}
use Rattle.guest_words.specs.CallChanges.{has_page, are_free, free_place, heap_rights, with_break}
use Rattle.guest_words.proofs.SpaceLaws.{is_within, each_has-all, get-with_zeros, get-without}
use Rattle.guest_words.proofs.AreaLaws.{free_place-at}

-- a break at 0x21000 or above, of a program whose loads end at 0x21000
abbrev heap : Facts → ℕ → Facts
heap facts brk = record facts { low = 0x21000; brk = brk }

-- outside of the heap it stays, and answers where it is
pub break-below : (facts : Facts) → reply_of (Break 0) (heap facts 0x21000) ≡ reply.Break 0x21000
unfolding reply_of
break-below facts = refl

pub break-moves : (facts : Facts) → reply_of (Break 0x21010) (heap facts 0x21000) ≡ reply.Break 0x21010
unfolding reply_of
break-moves facts = refl

pub break-just_below : (facts : Facts) → reply_of (Break 0x20fff) (heap facts 0x21010) ≡ reply.Break 0x21010
unfolding reply_of
break-just_below facts = refl

pub break-at_the_end : (facts : Facts) → reply_of (Break 0x4021000) (heap facts 0x21010) ≡ reply.Break 0x4021000
unfolding reply_of
break-at_the_end facts = refl

pub break-past_the_end : (facts : Facts) → reply_of (Break 0x4021001) (heap facts 0x21010) ≡ reply.Break 0x21010
unfolding reply_of
break-past_the_end facts = refl

-- the last bytes of the page that a break reaches into can be written
-- the page is there, with read and write
raised : (m : Space) → Space
raised m = without (with_zeros m 0x21000 0x1000 heap_rights) 0x22000 0

raised-has : (m : Space) (a : ℕ) → 0x21000 ≤ a → a < 0x22000 → has_right (λ rights. rights.write) (get (raised m) a) ≡ true
unfolding raised
raised-has m a low high =
    ap (has_right (λ rights. rights.write))
    (get-without (with_zeros m 0x21000 0x1000 heap_rights) 0x22000 0 a
    ∙ ap (λ b. if b then None else get (with_zeros m 0x21000 0x1000 heap_rights) a) (outside low high)
    ∙ get-with_zeros m 0x21000 0x1000 heap_rights a
    ∙ ap (λ b. if b then Some (zero_cell heap_rights) else get m a) (inside low high))
  where
    outside : 0x21000 ≤ a → a < 0x22000 → is_within 0x22000 0 a ≡ false
    outside low high = grind (arith, nat_tests, low, high)

    inside : 0x21000 ≤ a → a < 0x22000 → is_within 0x21000 0x1000 a ≡ true
    inside low high = grind (arith, nat_tests, low, high)

pub write-in_the_heap : (s : State) → s.brk ≡ 0x21000 → can_write (with_break s 0x21010).memory 0x21ff8 8 ≡ true
unfolding raised
write-in_the_heap s at =
    ap (λ brk. can_write (with_break (record s { brk = brk }) 0x21010).memory 0x21ff8 8) at
    ∙ each_has-all (λ rights. rights.write) (raised s.memory) 0x21ff8 8
    (λ a low high. raised-has s.memory a (omega (arith, low)) (omega (arith, high)))

-- and is gone where the break goes back
pub gone-from_the_heap : (s : State) → s.brk ≡ 0x21010 → get (with_break s 0x21000).memory 0x21000 ≡ None
gone-from_the_heap s at =
    ap (λ brk. get (with_break (record s { brk = brk }) 0x21000).memory 0x21000) at
    ∙ get-without (with_zeros s.memory 0x22000 0 heap_rights) 0x21000 0x1000 0x21000

-- a break that stays changes no memory
pub memory-where_it_stays : (s : State) → (with_break s s.brk).memory ≡ s.memory
memory-where_it_stays s =
    ap (λ n. without (with_zeros s.memory (page_up s.brk) n heap_rights) (page_up s.brk) n) (nothing (page_up s.brk))
    ∙ same_map nat_cmp_total nat_cmp-IsAntisymmetric (without (with_zeros s.memory (page_up s.brk) 0 heap_rights) (page_up s.brk) 0) s.memory at
  where
    nothing : (n : ℕ) → n - n ≡ 0
    nothing n = omega arith

    none : (a : ℕ) (t : Bool) → nat_le (page_up s.brk) a ≡ t → is_within (page_up s.brk) 0 a ≡ false
    none a true low = grind (arith, nat_tests, low)
    none a false low = grind (arith, nat_tests, low)

    at : (a : ℕ) → get (without (with_zeros s.memory (page_up s.brk) 0 heap_rights) (page_up s.brk) 0) a ≡ get s.memory a
    at a =
        get-without (with_zeros s.memory (page_up s.brk) 0 heap_rights) (page_up s.brk) 0 a
        ∙ ap (λ b. if b then None else get (with_zeros s.memory (page_up s.brk) 0 heap_rights) a) (none a (nat_le (page_up s.brk) a) refl)
        ∙ get-with_zeros s.memory (page_up s.brk) 0 heap_rights a
        ∙ ap (λ b. if b then Some (zero_cell heap_rights) else get s.memory a) (none a (nat_le (page_up s.brk) a) refl)

-- mapping: what is refused
pub map-nothing : (facts : Facts) → reply_of (Map 0 3 0x22) facts ≡ reply.Value EINVAL
unfolding reply_of
map-nothing facts = refl

pub map-shared : (facts : Facts) → reply_of (Map 4096 3 0x21) facts ≡ reply.Value EINVAL
unfolding reply_of
map-shared facts = refl

pub map-with_exec : (facts : Facts) → reply_of (Map 4096 7 0x22) facts ≡ reply.Value EINVAL
unfolding reply_of
map-with_exec facts = refl

pub map-too_much : (facts : Facts) → reply_of (Map 67112960 3 0x22) (record facts { mapped = 0 }) ≡ reply.Value ENOMEM
unfolding reply_of
map-too_much facts = refl

-- 4,097 bytes to be written take two pages, which can be read too; two hints count for nothing
pub map-two_pages : (facts : Facts) → reply_of (Map 4097 2 0x24022) (record facts { mapped = 16382; place = Some 0x3f80000000 })
    ≡ reply.Map 0x3f80000000 2 (record { read = true; write = true; exec = false })
unfolding reply_of
map-two_pages facts = refl

-- unmapping outside of the area
pub unmap-a_load : (facts : Facts) → reply_of (Unmap 0x20000 4096) facts ≡ reply.Value EINVAL
unfolding reply_of
unmap-a_load facts = refl

pub unmap-past_the_area : (facts : Facts) → reply_of (Unmap 0x3fbffff000 4097) facts ≡ reply.Value EINVAL
unfolding reply_of
unmap-past_the_area facts = refl

pub unmap-the_last_page : (facts : Facts) → reply_of (Unmap 0x3fbffff000 1) facts ≡ reply.Unmap 0x3fbffff000 1
unfolding reply_of
unmap-the_last_page facts = refl

-- the lowest pages that are free: the first one, the one behind it, and two in a row behind one that
-- is taken
pub place-first : (m : Space) → has_page m 0x3f80000 ≡ false → free_place m 1 ≡ Some 0x3f80000000
place-first m absent =
    free_place-at m 1 0 (omega arith) (λ j less. absurd (omega (arith, less))) (ap (λ b. not b && true) absent)

pub place-second : (m : Space) → has_page m 0x3f80000 ≡ true → has_page m 0x3f80001 ≡ false
    → free_place m 1 ≡ Some 0x3f80001000
place-second m taken absent =
    free_place-at m 1 1 (omega arith) before (ap (λ b. not b && true) absent)
  where
    before : (j : ℕ) → j < 1 → are_free m 1 (0x3f80000 + j) ≡ false
    before zero less = ap (λ b. not b && true) taken
    before (suc j) less = absurd (omega (arith, less))

pub place-of_two : (m : Space) → has_page m 0x3f80000 ≡ false → has_page m 0x3f80001 ≡ true
    → has_page m 0x3f80002 ≡ false → has_page m 0x3f80003 ≡ false → free_place m 2 ≡ Some 0x3f80002000
place-of_two m first second third fourth =
    free_place-at m 2 2 (omega arith) before
    (ap (λ b. not b && (not (has_page m 0x3f80003) && true)) third ∙ ap (λ b. not b && true) fourth)
  where
    before : (j : ℕ) → j < 2 → are_free m 2 (0x3f80000 + j) ≡ false
    before zero less = ap (λ b. not b && (not (has_page m 0x3f80001) && true)) first ∙ ap (λ b. not b && true) second
    before (suc zero) less = ap (λ b. not b && (not (has_page m 0x3f80002) && true)) second
    before (suc (suc j)) less = absurd (omega (arith, less))
