-- An image is related to a file exactly where no rule is broken, there is just one, and what its loads keep.
use Rattle.std.proofs.Common.{◌≡◌, ℕ, zero, suc, ◌<◌, ◌≤◌, List, [], ◌∷◌, ◌++◌, length, get_or, drop, Bool, true, false, not, refl, sym, ap, subst, ◌∙◌, arith, lit≤, lit<}
use Rattle.std.specs.Prelude.{None, if◌then◌else◌, bit_and, nat_lt, ◌==◌, IsFalse}
use Rattle.std.specs.List.{All, list_any}
use Rattle.std.proofs.lemmas.Bool.{and_parts, or_parts}
use Rattle.std.proofs.lemmas.Bool.Decides.{nat_tests}
use Rattle.std.proofs.lemmas.List.{length-take, append-nil}
use Rattle.std.proofs.lemmas.List.Elements.{All-nil, All-push}
use Rattle.std.proofs.lemmas.List.Quantifiers.{all_pairs_push}
use Rattle.std.proofs.lemmas.Nat.{and_assoc}
use Rattle.guest_words.specs.declared.image.Load.{Load}
use Rattle.guest_words.specs.declared.image.Image.{Image}
use Rattle.guest_words.specs.declared.elf_fault.ElfFault.{ElfFault}
use Rattle.guest_words.specs.declared.elf_fault.ElfFault.TheVariants.{Dynamic}
use Rattle.guest_words.specs.Rules.{Rule, rule, first_broken, IsKept}
use Rattle.guest_words.specs.ElfFields.{p_type, p_filesz, p_flags, p_offset, header_place, e_entry, e_phnum}
use Rattle.guest_words.specs.Image.{is_load, load_at, loads_before, loads_of, clashes, page_count, header_rules, load_rules, segment_rules, rules_at, table_rules, entry_rules, rules_of, first_fault, IsImage, IsLoad, IsLoadList}
use Rattle.guest_words.proofs.RuleLaws.{kept_parts, All-from_first_broken, first_broken-from_All}

-- a file that breaks no rule has an image
pub image_of_accepted : (file : List ℕ) → first_fault file ≡ None → (image : Image) × IsImage file image
unfolding first_fault
image_of_accepted file kept = (
  record { loads = loads_of file; entry = e_entry file },
  record {
    kept = All-from_first_broken (rules_of file) kept;
    loads = refl;
    entry = refl;
  },
)

-- a file that has an image breaks no rule
pub accepted_from_image : (file : List ℕ) (image : Image) → IsImage file image → first_fault file ≡ None
unfolding first_fault
accepted_from_image file image is = first_broken-from_All (rules_of file) is.kept

-- a file has one image at most
pub image_is_one : (file : List ℕ) (a b : Image) → IsImage file a → IsImage file b → a ≡ b
image_is_one file a b is_a is_b =
    let loads : a.loads ≡ b.loads = is_a.loads ∙ sym is_b.loads in
    let entry : a.entry ≡ b.entry = is_a.entry ∙ sym is_b.entry in
    λ i. record { loads = loads i; entry = entry i }

-- where no element passes the test, each fails it
fails_each :
    {X : Type 0} (p : X → Bool) (xs : List X) → list_any p xs ≡ false → (k : ℕ) (d : X) → k < length xs → p (get_or xs k d) ≡ false
fails_each p [] none k d below = absurd (omega arith)
fails_each p (x ∷ xs) none zero d below = (or_parts (p x) (list_any p xs) none).0
fails_each p (x ∷ xs) none (suc k) d below =
    fails_each p xs (or_parts (p x) (list_any p xs) none).1 k d (omega arith)

-- the flags that are set in a part are set in the whole
write_brings_read :
    (flags : ℕ) → not (bit_and flags 2 == 0) ≡ true → not (bit_and flags 6 == 0) ≡ true
write_brings_read flags write =
    let narrower : bit_and (bit_and flags 6) 2 ≡ bit_and flags 2 = and_assoc 2 flags 6 in
    let at_none : bit_and flags 6 ≡ 0 → bit_and flags 2 ≡ 0 = λ none. sym narrower ∙ ap (λ n. bit_and n 2) none in
    grind (arith, nat_tests, at_none)

-- what the rules on a program header say of its load
load_is :
    (file : List ℕ) (earlier : List Load) (place : ℕ)
    → first_broken (rules_at file earlier place) ≡ None
    → is_load file place ≡ true
    → IsLoad (load_at file place) × (list_any (λ other. clashes other (load_at file place)) earlier ≡ false)
    × (page_count (earlier ++ load_at file place ∷ []) ≤ 16384)
load_is file earlier place kept loads =
    let load = load_at file place in
    let size = and_parts (p_type file place == 1) _ loads in
    let table : Bool → List (Rule ElfFault) = λ b. segment_rules file place ++ (if b then load_rules file earlier place else []) in
    let all : All IsKept (table true) = All-from_first_broken (table true) (subst (λ b. first_broken (table b) ≡ None) loads kept) in
    let any = rule true Dynamic place in
    let bounds = or_parts (nat_lt load.address 4096) _ (all 3 any (lit< tt)) in (
      record {
        filled = grind (arith, nat_tests, size.1);
        within = grind (arith, nat_tests, all 1 any (lit< tt), size.0, length-take (p_filesz file place) (drop (p_offset file place) file));
        low = grind (arith, nat_tests, bounds.0);
        high = grind (arith, nat_tests, bounds.1);
        readable = write_brings_read (p_flags file place);
        sealed = all 4 any (lit< tt);
      },
      all 5 any (lit< tt),
      grind (arith, nat_tests, all 6 any (lit< tt)),
    )

-- the loads before each program header are those of an image, where the rules so far are kept
loads_are :
    (file : List ℕ) (k : ℕ) → first_broken (table_rules file k) ≡ None → IsLoadList (loads_before file k)
unfolding table_rules loads_before page_count
loads_are file zero kept = record {
  each = All-nil IsLoad;
  apart = λ i j d i<j j<0. absurd (omega arith);
  pages = lit≤ tt;
}
loads_are file (suc k) kept =
    let earlier = loads_before file k in
    let place = header_place file k in
    let parts = kept_parts (table_rules file k) (rules_at file earlier place) kept in
    let so_far = loads_are file k parts.0 in
    elim (is_load file place) as (λ b. is_load file place ≡ b → IsLoadList (earlier ++ (if b then load_at file place ∷ [] else []))) [
      | true ↦ λ loads.
          let last = load_is file earlier place parts.1 loads in
          record {
            each = All-push IsLoad earlier (load_at file place) so_far.each last.0;
            apart = all_pairs_push (λ a b. IsFalse (clashes a b)) earlier (load_at file place) so_far.apart (fails_each (λ other. clashes other (load_at file place)) earlier last.1);
            pages = last.2;
          }
      | false ↦ λ _. subst IsLoadList (sym (append-nil earlier)) so_far
    ] refl

-- what the loads of an image keep, in words of the loads alone
pub loads_of_image : (file : List ℕ) (image : Image) → IsImage file image → IsLoadList image.loads
loads_of_image file image is =
    let parts = kept_parts (header_rules file ++ table_rules file (e_phnum file)) (entry_rules file) (first_broken-from_All (rules_of file) is.kept) in
    let table = kept_parts (header_rules file) (table_rules file (e_phnum file)) parts.0 in
    subst IsLoadList (sym is.loads) (loads_are file (e_phnum file) table.1)
