-- Where loads lie, by the first and the last page and by the ends of the bytes.
use Rattle.std.proofs.Common.{◌≡◌, ℕ, ◌+◌, ◌-◌, ◌/◌, ◌<◌, ◌≤◌, Bool, ◌&&◌, ◌||◌, List, [], ◌∷◌, map, arith, refl, sym, ap, ◌∙◌, leb}
use Rattle.std.specs.List.{list_any}
use Rattle.std.specs.Bool.{Decides}
use Rattle.std.proofs.lemmas.Bool.Decides.{nat_tests, same_from_decides, Decides-and, Decides-like, Decides-ltb}
use Rattle.guest_words.specs.declared.image.Load.{Load}
use Rattle.guest_words.specs.Image.{pages_of, contains, meets, clashes}
use Rattle.elf_loader.specs.declared.segment.Segment.{Segment}
use Rattle.elf_loader.specs.Segment.{load_of}
use Rattle.guest_words.proofs.PageLaws.{contains-range, meets-ranges}

Decides-leb : (a b : ℕ) → Decides (leb a b) (a ≤ b)
Decides-leb a b = (λ h. grind (arith, nat_tests, h), λ h. grind (arith, nat_tests, h))

-- a load has the pages from its first to its last
pub contains-pages_of :
    (load : Load) (page first last : ℕ)
    → first ≡ load.address / 4096
    → last ≡ (load.address + load.size - 1) / 4096
    → 0 < load.size
    → contains (pages_of load) page ≡ (leb first page && leb page last)
contains-pages_of load page first last is_first is_last filled =
    let start = load.address / 4096 in
    let in_range = contains-range start ((load.address + load.size - 1) / 4096 + 1 - start) page in
    same_from_decides _ _ (λ h. let at = in_range.0 h in (omega arith, omega arith), λ h. in_range.1 (omega arith, omega arith)) (Decides-and _ _ (Decides-leb first page) (Decides-leb page last))

-- two loads have a page in common where each begins at or before the last page of the other
pub meets-pages_of :
    (a b : Load) (first_a last_a first_b last_b : ℕ)
    → first_a ≡ a.address / 4096
    → last_a ≡ (a.address + a.size - 1) / 4096
    → first_b ≡ b.address / 4096
    → last_b ≡ (b.address + b.size - 1) / 4096
    → 0 < a.size
    → 0 < b.size
    → meets (pages_of a) (pages_of b) ≡ (leb first_a last_b && leb first_b last_a)
meets-pages_of a b first_a last_a first_b last_b is1 is2 is3 is4 filled_a filled_b =
    let start_a = a.address / 4096 in
    let start_b = b.address / 4096 in
    let size_a = (a.address + a.size - 1) / 4096 + 1 - start_a in
    let size_b = (b.address + b.size - 1) / 4096 + 1 - start_b in
    meets-ranges start_a size_a start_b size_b (omega arith) (omega arith)
    ∙ same_from_decides _ _ (Decides-like _ (λ h. (omega arith, omega arith)) (λ h. (omega arith, omega arith)) (Decides-and _ _ (Decides-ltb start_a (start_b + size_b)) (Decides-ltb start_b (start_a + size_a)))) (Decides-and _ _ (Decides-leb first_a last_b) (Decides-leb first_b last_a))

-- a test of the loads is a test of the segments
pub list_any-map : {X Y : Type 0} (p : Y → Bool) (f : X → Y) (xs : List X) → list_any p (map f xs) ≡ list_any (λ x. p (f x)) xs
list_any-map p f [] = refl
list_any-map p f (x ∷ xs) = ap (λ b. p (f x) || b) (list_any-map p f xs)

-- the rule on clashes, as it is tried on segments
pub clash_rule :
    (segments : List Segment) (segment : Segment) (load : Load)
    → load_of segment ≡ load
    → list_any (λ other. clashes other load) (map load_of segments) ≡ list_any (λ s. clashes (load_of s) (load_of segment)) segments
clash_rule segments segment load is =
    list_any-map (λ other. clashes other load) load_of segments
    ∙ ap (λ l. list_any (λ s. clashes (load_of s) l) segments) (sym is)
