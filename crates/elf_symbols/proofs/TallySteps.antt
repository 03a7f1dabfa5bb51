-- Tallies of names, symbol by symbol.
use Rattle.std.proofs.Common.{◌≡◌, ℕ, ◌+◌, ◌<◌, ◌≤◌, List, [], ◌∷◌, ◌++◌, length, get_or, true, false, ◌&&◌, refl, sym, ap, subst, ◌∙◌, arith, length-append, unwrap_or}
use Rattle.std.specs.Prelude.{◌==◌, nat_le, Some, None, option_map, if◌then◌else◌}
use Rattle.std.specs.Str.{bytes_eq}
use Rattle.std.specs.Ordering.{ord_max, nat_cmp}
use Rattle.std.proofs.lemmas.Bool.Decides.{nat_tests}
use Rattle.std.proofs.lemmas.Grind.{common_steps}
use Rattle.std.proofs.lemmas.List.{append-nil}
use Rattle.std.proofs.lemmas.Slice.Eq.{bytes_eq-Decides}
use Rattle.std.proofs.Math.Bool.{and-false}
use Rattle.elf_symbols.specs.declared.symbol.Symbol.{Symbol}
use Rattle.elf_symbols.specs.declared.tally.Tally.{Tally}
use Rattle.elf_symbols.specs.declared.tallies.Tallies.{Tallies}
use Rattle.elf_symbols.specs.Find.{values_of}
use Rattle.elf_symbols.specs.SymbolTable.{is_function, name_of, symbol_at}
use Rattle.elf_symbols.specs.Tallies.{IsTallyAmong, AreTallies, more, tally_at, tally_after}
use Rattle.elf_symbols.proofs.Values.{values_append, value_elsewhere, first_value, same_first}

-- a new name's tally
pub fresh : (name : List ℕ) (longest : ℕ) (tally : Tally) → length name ≤ longest → Some (record { count = 0; first = 0 }) ≡ Some tally → IsTallyAmong [] 0 longest name tally
fresh name longest tally short is =
    let none : Tally = record { count = 0; first = 0 } in
    subst (IsTallyAmong [] 0 longest name) (ap (λ o. unwrap_or o none) is) (record {
      is = record { count = refl; first = λ some. absurd (omega arith) };
      few = omega arith;
      short = short;
    })

pub max_bounds : (a b : ℕ) → (a ≤ ord_max nat_cmp a b) × (b ≤ ord_max nat_cmp a b)
max_bounds a b = (grind (arith, common_steps, nat_tests), grind (arith, common_steps, nat_tests))

-- with longer names a tally stays
pub looser : (name : List ℕ) (longest : ℕ) (tally : Tally) {symbols : List Symbol} {most least : ℕ} → least ≤ longest → IsTallyAmong symbols most least name tally → IsTallyAmong symbols most longest name tally
looser name longest tally more was = record { is = was.is; few = was.few; short = omega (arith, was.short, more) }

-- a symbol of the name, and others
grown :
    (xs : List Symbol) (s : Symbol) (k longest : ℕ) (name : List ℕ) (tally : Tally)
    → bytes_eq s.name name ≡ true
    → IsTallyAmong xs k longest name tally
    → IsTallyAmong (xs ++ s ∷ []) (k + 1) longest name (more s.value tally)
grown xs s k longest name tally same was =
    let old = values_of xs name in
    let all = values_of (xs ++ s ∷ []) name in
    let one : values_of (s ∷ []) name ≡ s.value ∷ [] = rw same refl in
    let next : all ≡ old ++ s.value ∷ [] = values_append xs (s ∷ []) name ∙ ap (λ vs. old ++ vs) one in
    let longer : length all ≡ length old + 1 = ap length next ∙ length-append old (s.value ∷ []) in
    let head = sym (ap (λ vs. get_or vs 0 0) next) in record {
      is = record {
        count = omega (arith, longer, was.is.count);
        first = λ _. elim (tally.count == 0) as (λ b. tally.count == 0 ≡ b → (if b then s.value else tally.first) ≡ get_or all 0 0) [
          | true ↦ λ is. let count : tally.count ≡ 0 = grind (arith, nat_tests, is) in
              let none : length old ≡ 0 = omega (arith, count, was.is.count) in
              sym (first_value old s.value none) ∙ head
          | false ↦ λ is. let count : 0 < tally.count = grind (arith, nat_tests, is) in
              let some : 0 < length old = omega (arith, count, was.is.count) in
              was.is.first count ∙ sym (same_first old (s.value ∷ []) some) ∙ head
        ] refl;
      };
      few = omega (arith, was.few);
      short = was.short;
    }

kept :
    (xs here : List Symbol) (k longest : ℕ) (name : List ℕ) (tally : Tally)
    → values_of here name ≡ []
    → IsTallyAmong xs k longest name tally
    → IsTallyAmong (xs ++ here) (k + 1) longest name tally
kept xs here k longest name tally none was =
    let old = values_of xs name in
    let same : values_of (xs ++ here) name ≡ old = values_append xs here name ∙ ap (λ vs. old ++ vs) none ∙ append-nil old in record {
      is = record {
        count = was.is.count ∙ ap length (sym same);
        first = λ some. was.is.first some ∙ ap (λ vs. get_or vs 0 0) (sym same);
      };
      few = omega (arith, was.few);
      short = was.short;
    }

-- the tallies after a symbol is added, and after one that has none of the names
pub with_symbol :
    (xs : List Symbol) (s : Symbol) (k : ℕ) (old new : Tallies)
    → AreTallies xs k old
    → new.longest ≡ old.longest
    → ((name : List ℕ) → tally_at new name ≡ tally_after old s.name s.value name)
    → AreTallies (xs ++ s ∷ []) (k + 1) new
with_symbol xs s k old new were longest added = λ name tally is.
    let P : Tally → Type 0 = λ t. IsTallyAmong (xs ++ s ∷ []) (k + 1) old.longest name t in
    let there : P tally =
    elim (bytes_eq s.name name) as (λ b. bytes_eq s.name name ≡ b → (if b then option_map (more s.value) (tally_at old name) else tally_at old name) ≡ Some tally → P tally) [
      | true ↦ λ same h.
          elim (tally_at old name) as (λ o. tally_at old name ≡ o → option_map (more s.value) o ≡ Some tally → P tally) [
            | None ↦ λ _ h'. cc
            | Some u ↦ λ was h'. subst P (ap (λ o. unwrap_or o tally) h') (grown xs s k old.longest name u same (were name u was))
          ] refl h
      | false ↦ λ other h. let none : values_of (s ∷ []) name ≡ [] = rw other refl in
          kept xs (s ∷ []) k old.longest name tally none (were name tally h)
    ] refl (sym (added name) ∙ is) in
    subst (λ n. IsTallyAmong (xs ++ s ∷ []) (k + 1) n name tally) (sym longest) there

pub without_symbol :
    (xs here : List Symbol) (k : ℕ) (old : Tallies)
    → AreTallies xs k old
    → ((name : List ℕ) → length name ≤ old.longest → values_of here name ≡ [])
    → AreTallies (xs ++ here) (k + 1) old
without_symbol xs here k old were none = λ name tally is.
    let was = were name tally is in
    kept xs here k old.longest name tally (none name was.short) was

another : (xs ys : List ℕ) → length ys < length xs → bytes_eq xs ys ≡ false
another xs ys longer =
    elim (bytes_eq xs ys) as (λ b. bytes_eq xs ys ≡ b → b ≡ false) [
      | true ↦ λ is. absurd (omega (arith, longer, ap length ((bytes_eq-Decides xs ys).0 is)))
      | false ↦ λ _. refl
    ] refl

-- what is read at a place, where long names are left out
pub some_here :
    (file strings : List ℕ) (entry longest : ℕ) (s : Symbol)
    → s ∷ [] ≡ (if nat_le (length (name_of file strings entry)) longest then symbol_at file strings entry else [])
    → symbol_at file strings entry ≡ s ∷ []
some_here file strings entry longest s is =
    elim (nat_le (length (name_of file strings entry)) longest) as (λ b. s ∷ [] ≡ (if b then symbol_at file strings entry else []) → symbol_at file strings entry ≡ s ∷ []) [
      | true ↦ λ h. sym h
      | false ↦ λ h. cc
    ] is

pub none_here :
    (file strings : List ℕ) (entry longest : ℕ)
    → [] ≡ (if nat_le (length (name_of file strings entry)) longest then symbol_at file strings entry else [])
    → (name : List ℕ) → length name ≤ longest → values_of (symbol_at file strings entry) name ≡ []
none_here file strings entry longest is name short =
    elim (nat_le (length (name_of file strings entry)) longest) as (λ b. nat_le (length (name_of file strings entry)) longest ≡ b → [] ≡ (if b then symbol_at file strings entry else []) → values_of (symbol_at file strings entry) name ≡ []) [
      | true ↦ λ _ h. ap (λ s. values_of s name) (sym h)
      | false ↦ λ long _.
          let longer : longest < length (name_of file strings entry) = grind (arith, nat_tests, long) in
          value_elsewhere file strings entry name (ap (λ b. is_function file entry && b) (another (name_of file strings entry) name (omega (arith, longer, short))) ∙ and-false (is_function file entry))
    ] refl is
