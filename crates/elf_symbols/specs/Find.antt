-- How many symbols have a name.
use Rattle.std.specs.Prelude.{ℕ, List, [], ◌∷◌, length, map, filter}
use Rattle.std.specs.Str.{bytes_eq}
use Rattle.elf_symbols.specs.declared.symbol.Symbol.{Symbol}
use Rattle.elf_symbols.specs.declared.found.Found.{Found}
use Rattle.elf_symbols.specs.declared.found.Found.TheVariants.{One, Absent, Several}

-- the values of the symbols of a name, in their order
abbrev pub values_of : List Symbol → List ℕ → List ℕ
values_of symbols name = map (λ s. s.value) (filter (λ s. bytes_eq s.name name) symbols)

-- no value, one, or several, of which only the number matters
abbrev pub found_among : List ℕ → Found
found_among [] = Absent
found_among (value ∷ []) = One value
found_among (value ∷ other ∷ rest) = Several (length (value ∷ other ∷ rest))

abbrev pub found_of : List Symbol → List ℕ → Found
found_of symbols name = found_among (values_of symbols name)
