-- Pages of zeros and the bytes in them, address by address: together the memory at the start.
use Rattle.std.proofs.Common.{◌≡◌, ◌≢◌, ℕ, suc, ◌+◌, ◌-◌, ◌/◌, ◌<◌, ◌≤◌, ◌&&◌, nat_le, nat_lt, Bool, true, false, cond, List, [], ◌∷◌, length, get_or, Option, Some, None, refl, sym, ap, ◌∙◌, arith, ◌⊎◌, inl, inr, if◌then◌else◌, slice_index, drop, take}
use Rattle.std.proofs.lemmas.List.{take_all}
use Rattle.std.specs.Option.{option_or}
use Rattle.std.specs.Bool.{Decides, one_answer}
use Rattle.std.specs.List.{All, find}
use Rattle.std.specs.Cmp.{nat_cmp_total}
use Rattle.std.specs.FinMap.{get, get-insert, same_map, nat_cmp-IsAntisymmetric}
use Rattle.std.proofs.lemmas.Bool.Decides.{nat_tests, leb_tells, Decides-and, Decides-ltb}
use Rattle.guest_words.specs.declared.image.Rights.{Rights}
use Rattle.guest_words.specs.declared.image.Cell.{Cell}
use Rattle.guest_words.specs.declared.image.Load.{Load}
use Rattle.guest_words.specs.Space.{Space, zero_cell, with_cell, with_byte, with_bytes}
use Rattle.guest_words.specs.Image.{IsLoad}
use Rattle.guest_words.specs.Start.{is_in_pages, is_in_bytes, is_in_stack, stack_cell, filled, loaded_cell, memory_of}
use Rattle.guest_words.proofs.PageLaws.{contains-range}
use Rattle.guest_words.proofs.StartMemory.{addresses_tell, get-memory_of, get-memory_of_past}
use Rattle.guest_words.specs.Blank.{zeros_in, blank_of, blank_in, with_loads}

Decides-leb : (a b : ℕ) → Decides (nat_le a b) (a ≤ b)
Decides-leb a b = (λ h. grind (arith, nat_tests, h), λ h. grind (arith, nat_tests))

-- the pages of a load, as a range
abbrev first_page : Load → ℕ
first_page load = load.address / 4096

abbrev pages_long : Load → ℕ
pages_long load = (load.address + load.size - 1) / 4096 + 1 - first_page load

is_in_pages-range : (a : ℕ) (load : Load) → is_in_pages a load ≡ (nat_le (first_page load) (a / 4096) && nat_lt (a / 4096) (first_page load + pages_long load))
is_in_pages-range a load =
    one_answer _ _ (contains-range (first_page load) (pages_long load) (a / 4096))
    (Decides-and _ _ (Decides-leb (first_page load) (a / 4096)) (Decides-ltb (a / 4096) (first_page load + pages_long load)))

-- the pages of one load more
pub blank_in-cons : (load : Load) (loads : List Load) (a : ℕ) (o : Option Cell)
    → option_or (option_or o (zeros_in (first_page load) (pages_long load) load.rights a)) (blank_in loads a) ≡ option_or o (blank_in (load ∷ loads) a)
blank_in-cons load loads a (Some cell) = refl
blank_in-cons load loads a None =
    ap (λ b. option_or (if b then Some (zero_cell load.rights) else None) (blank_in loads a)) (sym (is_in_pages-range a load))
    ∙ both (is_in_pages a load)
  where
    both : (b : Bool) → option_or (if b then Some (zero_cell load.rights) else None) (blank_in loads a) ≡ blank_of a (cond b (Some load) (find (is_in_pages a) loads))
    both true = refl
    both false = refl

-- a byte that is stored over a cell
abbrev pub overwritten : Option ℕ → Option Cell → Option Cell
overwritten None o = o
overwritten (Some b) None = None
overwritten (Some b) (Some cell) = Some (record { byte = b; rights = cell.rights })

-- the byte that bytes from an address on have at an address
abbrev byte_in : ℕ → List ℕ → ℕ → Option ℕ
byte_in from bytes a =
    if nat_le from a && nat_lt a (from + length bytes) then Some (slice_index bytes (a - from)) else None

get-with_byte_same : (m : Space) (p b : ℕ) → get (with_byte m p b) p ≡ overwritten (Some b) (get m p)
unfolding with_byte
get-with_byte_same m p b = by (get m p) refl
  where
    by : (o : Option Cell) → get m p ≡ o → get (with_cell m p b o) p ≡ overwritten (Some b) o
    by None e = e
    by (Some cell) e =
        let new : Cell = record { byte = b; rights = cell.rights } in
        get-insert nat_cmp_total m p new p
        ∙ elim (addresses_tell p p) [ inl s ↦ ap (λ t. cond t (Some new) (get m p)) s.0 | inr s ↦ absurd (s.1 refl) ]

get-with_byte_other : (m : Space) (p b a : ℕ) → a ≢ p → get (with_byte m p b) a ≡ get m a
unfolding with_byte
get-with_byte_other m p b a other = by (get m p)
  where
    by : (o : Option Cell) → get (with_cell m p b o) a ≡ get m a
    by None = refl
    by (Some cell) =
        let new : Cell = record { byte = b; rights = cell.rights } in
        get-insert nat_cmp_total m p new a
        ∙ elim (addresses_tell a p) [ inl s ↦ absurd (other s.1) | inr s ↦ ap (λ t. cond t (Some new) (get m a)) s.0 ]

-- stored bytes, address by address
pub get-with_bytes : (m : Space) (p : ℕ) (bytes : List ℕ) (a : ℕ) → get (with_bytes m p bytes) a ≡ overwritten (byte_in p bytes a) (get m a)
unfolding with_bytes
get-with_bytes m p [] a =
    let none : (nat_le p a && nat_lt a (p + 0)) ≡ false = grind (arith, nat_tests) in
    sym (ap (λ t. overwritten (if t then Some (slice_index [] (a - p)) else None) (get m a)) none)
get-with_bytes m p (b ∷ bytes) a =
    get-with_bytes (with_byte m p b) (p + 1) bytes a
    ∙ elim (addresses_tell a p) [
      | inl s ↦
          let same = s.1 in
          let later : (nat_le (p + 1) a && nat_lt a (p + 1 + length bytes)) ≡ false = grind (arith, nat_tests) in
          let here : (nat_le p a && nat_lt a (p + suc (length bytes))) ≡ true = grind (arith, nat_tests) in
          let none : a - p ≡ 0 = omega arith in
          ap (λ t. overwritten (if t then Some (slice_index bytes (a - (p + 1))) else None) (get (with_byte m p b) a)) later
          ∙ ap (get (with_byte m p b)) same ∙ get-with_byte_same m p b ∙ ap (λ q. overwritten (Some b) (get m q)) (sym same)
          ∙ sym (ap (λ t. overwritten (if t then Some (slice_index (b ∷ bytes) (a - p)) else None) (get m a)) here
          ∙ ap (λ i. overwritten (Some (slice_index (b ∷ bytes) i)) (get m a)) none)
      | inr s ↦
          let other = s.1 in
          let same : (nat_le (p + 1) a && nat_lt a (p + 1 + length bytes)) ≡ (nat_le p a && nat_lt a (p + suc (length bytes))) = grind (arith, nat_tests) in
          ap (overwritten (byte_in (p + 1) bytes a)) (get-with_byte_other m p b a other)
          ∙ ap (λ t. overwritten (if t then Some (slice_index bytes (a - (p + 1))) else None) (get m a)) same
          ∙ shifted (nat_le p a && nat_lt a (p + suc (length bytes))) refl other
    ]
  where
    shifted : (t : Bool) → (nat_le p a && nat_lt a (p + suc (length bytes))) ≡ t
        → a ≢ p
        → overwritten (if t then Some (slice_index bytes (a - (p + 1))) else None) (get m a) ≡ overwritten (if t then Some (slice_index (b ∷ bytes) (a - p)) else None) (get m a)
    shifted true e other =
        let less : p ≤ a = grind (arith, nat_tests) in
        let next : a - p ≡ suc (a - (p + 1)) = omega arith in
        sym (ap (λ i. overwritten (Some (slice_index (b ∷ bytes) i)) (get m a)) next)
    shifted false e other = refl

-- the byte that loads bring to an address
abbrev byte_found : ℕ → Option Load → Option ℕ
byte_found a None = None
byte_found a (Some load) = Some (slice_index load.bytes (a - load.address))

over : (t : Bool) (b : ℕ) (load : Load) (a : ℕ) (found : Option Load) (o : Option Cell)
    → b ≡ slice_index load.bytes (a - load.address)
    → overwritten (if t then Some b else None) (overwritten (byte_found a found) o) ≡ overwritten (byte_found a (cond t (Some load) found)) o
over false b load a found o e = refl
over true b load a None o e = ap (λ x. overwritten (Some x) o) e
over true b load a (Some other) None e = refl
over true b load a (Some other) (Some cell) e = ap (λ x. overwritten (Some x) (Some cell)) e

get-with_loads : (loads : List Load) (m : Space) (a : ℕ) → get (with_loads loads m) a ≡ overwritten (byte_found a (find (is_in_bytes a) loads)) (get m a)
unfolding with_loads
get-with_loads [] m a = refl
get-with_loads (load ∷ loads) m a =
    get-with_bytes (with_loads loads m) load.address load.bytes a
    ∙ ap (overwritten (byte_in load.address load.bytes a)) (get-with_loads loads m a)
    ∙ over (is_in_bytes a load) (slice_index load.bytes (a - load.address)) load a (find (is_in_bytes a) loads) (get m a) refl

-- the bytes of a list of loads, by those of its first and of the others
pub with_loads-first : (loads : List Load) (load : Load) (m : Space) → 1 ≤ length loads → load ≡ get_or loads 0 load
    → with_loads loads m ≡ with_bytes (with_loads (take (length loads - 1) (drop 1 loads)) m) load.address load.bytes
unfolding with_loads
with_loads-first [] load m some is = absurd (omega arith)
with_loads-first (first ∷ rest) load m some is =
    let all : take (suc (length rest) - 1) rest ≡ rest = take_all (suc (length rest) - 1) rest (omega arith) in
    ap (λ (x : Load). with_bytes (with_loads rest m) x.address x.bytes) (sym is)
    ∙ sym (ap (λ ls. with_bytes (with_loads ls m) load.address load.bytes) all)

pub with_loads-none : (loads : List Load) (m : Space) → length loads < 1 → with_loads loads m ≡ m
unfolding with_loads
with_loads-none [] m none = refl
with_loads-none (load ∷ loads) m none = absurd (omega arith)

-- no load has a byte or a page from the limit of loads on
bytes_below : (loads : List Load) → All IsLoad loads → (a : ℕ) → 0x3f00000000 ≤ a → find (is_in_bytes a) loads ≡ None
bytes_below [] each a past = refl
bytes_below (load ∷ loads) each a past =
    let is : IsLoad load = each 0 load (omega arith) in
    let high = is.high in
    let within = is.within in
    let out : is_in_bytes a load ≡ false = grind (arith, nat_tests) in
    ap (λ t. cond t (Some load) (find (is_in_bytes a) loads)) out ∙ bytes_below loads (λ k d below. each (suc k) d (omega arith)) a past

pages_below : (loads : List Load) → All IsLoad loads → (a : ℕ) → 0x3f00000000 ≤ a → find (is_in_pages a) loads ≡ None
pages_below [] each a past = refl
pages_below (load ∷ loads) each a past =
    let is : IsLoad load = each 0 load (omega arith) in
    let high = is.high in
    let some = is.filled in
    let out : (nat_le (first_page load) (a / 4096) && nat_lt (a / 4096) (first_page load + pages_long load)) ≡ false = grind (arith, nat_tests) in
    ap (λ t. cond t (Some load) (find (is_in_pages a) loads)) (is_in_pages-range a load ∙ out) ∙ pages_below loads (λ k d below. each (suc k) d (omega arith)) a past

abbrev pub stack_rights : Rights
stack_rights = record { read = true; write = true; exec = false }

abbrev pub stack_in : ℕ → Option Cell
stack_in a = zeros_in 0x3ffff00 256 stack_rights a

stack_in-is : (a : ℕ) → stack_in a ≡ (if is_in_stack a then Some stack_cell else None)
stack_in-is a =
    let same : (nat_le 0x3ffff00 (a / 4096) && nat_lt (a / 4096) 0x4000000) ≡ is_in_stack a = grind (arith, nat_tests) in
    ap (λ t. if t then Some (zero_cell stack_rights) else None) same

-- bytes in the pages of loads, where the stack isn't
abbrev loaded_by : ℕ → Option Load → Option Load → Option Cell
loaded_by a None bytes = None
loaded_by a (Some load) bytes = Some (record { byte = filled a bytes; rights = load.rights })

loaded : (a : ℕ) (pages bytes : Option Load) → overwritten (byte_found a bytes) (blank_of a pages) ≡ loaded_by a pages bytes
loaded a None None = refl
loaded a None (Some load) = refl
loaded a (Some page) None = refl
loaded a (Some page) (Some load) = refl

-- memory with the stack, the pages and the bytes is that of the start
pub memory_of-with_loads : (loads : List Load) (m : Space) → All IsLoad loads
    → ((a : ℕ) → get m a ≡ option_or (stack_in a) (blank_in loads a))
    → with_loads loads m ≡ memory_of loads
memory_of-with_loads loads m each blank = same_map nat_cmp_total nat_cmp-IsAntisymmetric _ _ (λ a.
    get-with_loads loads m a
    ∙ ap (overwritten (byte_found a (find (is_in_bytes a) loads))) (blank a ∙ ap (λ o. option_or o (blank_in loads a)) (stack_in-is a))
    ∙ first_of_two a (at_or_past a))
  where
    at_or_past : (a : ℕ) → (a < 0x4000000000) ⊎ (0x4000000000 ≤ a)
    at_or_past a = elim (leb_tells 0x4000000000 a) [ inl s ↦ inr s.1 | inr s ↦ inl s.1 ]

    at_stack : (a : ℕ) (t : Bool) → is_in_stack a ≡ t
        → overwritten (byte_found a (find (is_in_bytes a) loads)) (option_or (if t then Some stack_cell else None) (blank_in loads a))
        ≡ (if t then Some stack_cell else loaded_cell loads a (find (is_in_pages a) loads))
    at_stack a true e =
        let past : 0x3f00000000 ≤ a = grind (arith, nat_tests) in
        ap (λ o. overwritten (byte_found a o) (Some stack_cell)) (bytes_below loads each a past)
    at_stack a false e = loaded a (find (is_in_pages a) loads) (find (is_in_bytes a) loads) ∙ same (find (is_in_pages a) loads)
      where
        same : (pages : Option Load) → loaded_by a pages (find (is_in_bytes a) loads) ≡ loaded_cell loads a pages
        same None = refl
        same (Some load) = refl

    first_of_two : (a : ℕ) → (a < 0x4000000000) ⊎ (0x4000000000 ≤ a)
        → overwritten (byte_found a (find (is_in_bytes a) loads)) (option_or (if is_in_stack a then Some stack_cell else None) (blank_in loads a)) ≡ get (memory_of loads) a
    first_of_two a (inl below) = at_stack a (is_in_stack a) refl ∙ sym (get-memory_of loads a below)
    first_of_two a (inr past) =
        let beyond : 0x3f00000000 ≤ a = omega arith in
        let out : is_in_stack a ≡ false = grind (arith, nat_tests) in
        ap (λ t. overwritten (byte_found a (find (is_in_bytes a) loads)) (option_or (if t then Some stack_cell else None) (blank_in loads a))) out
        ∙ ap (λ o. overwritten (byte_found a (find (is_in_bytes a) loads)) (blank_of a o)) (pages_below loads each a beyond)
        ∙ ap (λ o. overwritten (byte_found a o) None) (bytes_below loads each a beyond)
        ∙ sym (get-memory_of_past loads a past)
