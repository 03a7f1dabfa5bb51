-- The values of the symbols of a name, symbol by symbol.
use Rattle.std.proofs.Common.{◌≡◌, ℕ, ◌<◌, List, [], ◌∷◌, ◌++◌, length, map, filter, get_or, true, false, cond, ◌&&◌, refl, sym, ap, ◌∙◌, arith}
use Rattle.std.specs.Prelude.{if◌then◌else◌}
use Rattle.std.specs.Str.{bytes_eq, is_utf8}
use Rattle.std.proofs.lemmas.Bool.Decides.{nat_tests}
use Rattle.std.proofs.lemmas.Slice.Eq.{bytes_eq-Decides}
use Rattle.elf_symbols.specs.declared.symbol.Symbol.{Symbol}
use Rattle.elf_symbols.specs.SymbolFields.{st_value, st_size}
use Rattle.elf_symbols.specs.SymbolTable.{is_function, name_of, symbol_at}
use Rattle.elf_symbols.proofs.Entries.{symbol_is}
use Rattle.elf_symbols.specs.declared.found.Found.TheVariants.{One, Absent, Several}
use Rattle.elf_symbols.specs.Find.{found_among, values_of}

-- what a list with so many values tells
pub none_found : (values : List ℕ) → length values ≡ 0 → Absent ≡ found_among values
none_found [] is = refl
none_found (v ∷ vs) is = absurd (omega arith)

pub one_found : (values : List ℕ) (first : ℕ) → length values ≡ 1 → first ≡ get_or values 0 0 → One first ≡ found_among values
one_found [] first is at = absurd (omega arith)
one_found (v ∷ []) first is at = ap One at
one_found (v ∷ w ∷ vs) first is at = absurd (omega arith)

pub several_found : (values : List ℕ) (count : ℕ) → count ≡ length values → 1 < count → Several count ≡ found_among values
several_found [] count is more = absurd (omega arith)
several_found (v ∷ []) count is more = absurd (omega arith)
several_found (v ∷ w ∷ vs) count is more = ap Several is

pub values_append : (xs ys : List Symbol) (name : List ℕ) → values_of (xs ++ ys) name ≡ values_of xs name ++ values_of ys name
values_append [] ys name = refl
values_append (x ∷ xs) ys name =
    elim (bytes_eq x.name name) as (λ b. map (λ s. s.value) (cond b (x ∷ filter (λ s. bytes_eq s.name name) (xs ++ ys)) (filter (λ s. bytes_eq s.name name) (xs ++ ys)))
    ≡ map (λ s. s.value) (cond b (x ∷ filter (λ s. bytes_eq s.name name) xs) (filter (λ s. bytes_eq s.name name) xs)) ++ values_of ys name) [
      | true ↦ ap (λ vs. x.value ∷ vs) (values_append xs ys name)
      | false ↦ values_append xs ys name
    ]

-- the value of the symbol at a place, where it is a function of the name, and of another none
pub value_here :
    (file strings : List ℕ) (entry : ℕ) (name : List ℕ)
    → (is_function file entry && bytes_eq (name_of file strings entry) name) ≡ true
    → is_utf8 name ≡ true
    → values_of (symbol_at file strings entry) name ≡ st_value file entry ∷ []
value_here file strings entry name named text =
    let function : is_function file entry ≡ true = grind (arith, nat_tests, named) in
    let same : bytes_eq (name_of file strings entry) name ≡ true = grind (arith, nat_tests, named) in
    let equal : name_of file strings entry ≡ name = (bytes_eq-Decides (name_of file strings entry) name).0 same in
    sym (ap (λ s. values_of s name) (symbol_is file strings entry _ _ _ function (ap is_utf8 equal ∙ text) refl refl refl))
    ∙ (rw same refl)

pub value_elsewhere :
    (file strings : List ℕ) (entry : ℕ) (name : List ℕ)
    → (is_function file entry && bytes_eq (name_of file strings entry) name) ≡ false
    → values_of (symbol_at file strings entry) name ≡ []
value_elsewhere file strings entry name other =
    let one = record { value = st_value file entry; size = st_size file entry; name = name_of file strings entry } ∷ [] in
    elim (is_function file entry) as (λ f. (f && bytes_eq (name_of file strings entry) name) ≡ false → values_of (if f && is_utf8 (name_of file strings entry) then one else []) name ≡ []) [
      | true ↦ λ h. elim (is_utf8 (name_of file strings entry)) as (λ u. values_of (if u then one else []) name ≡ []) [
        | true ↦ rw h refl
        | false ↦ refl
      ]
      | false ↦ λ _. refl
    ] other

-- the first of the values, when one comes behind them
pub first_value : (xs : List ℕ) (v : ℕ) → length xs ≡ 0 → get_or (xs ++ v ∷ []) 0 0 ≡ v
first_value [] v none = refl
first_value (x ∷ xs) v none = absurd (omega arith)

pub same_first : (xs ys : List ℕ) → 0 < length xs → get_or (xs ++ ys) 0 0 ≡ get_or xs 0 0
same_first [] ys some = absurd (omega arith)
same_first (x ∷ xs) ys some = refl
