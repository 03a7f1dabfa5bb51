-- The list of the symbols of a program.
use Rattle.std.specs.Prelude.{◌≡◌, ℕ, List, [], ◌∷◌}
use Rattle.std.specs.Fmt.{decimal}
use Rattle.std.specs.List.{flat_map}
use Rattle.std.specs.List.Sorted.{IsPermutation, IsSorted}
use Rattle.std.specs.Cmp.Lexicographic.{slice_cmp}
use Rattle.std.specs.Ordering.{nat_cmp, ordering_then}
use Rattle.std.specs.declared.cmp.Ordering.{Ordering}
use Rattle.elf_symbols.specs.declared.symbol.Symbol.{Symbol}
use Rattle.rescue_report.specs.Lines.{line}
use Rattle.rescue_report.specs.Numbers.{hexadecimal}
use denote.Ref.{Bor}

-- the line of a symbol: its value, its size, and its name as it stands in the file
abbrev pub symbol_line : Symbol → List ℕ
symbol_line symbol =
    line (hexadecimal symbol.value ∷ decimal symbol.size ∷ symbol.name ∷ [])

-- by value, then by the bytes of the name, then by size
abbrev pub symbol_order : Symbol → Symbol → Ordering
symbol_order a b =
    ordering_then
    (ordering_then (nat_cmp a.value b.value) (slice_cmp nat_cmp a.name b.name))
    (nat_cmp a.size b.size)

-- the same symbols, in that order
pub record IsOrdered (symbols ordered : List Symbol) : Type 0 where
  pub same : IsPermutation symbols ordered
  pub sorted : IsSorted symbol_order ordered

-- the text of the list: the lines of the symbols in their order, which is the one order that they
-- have but for symbols that are alike
pub record IsListOf (symbols : List Symbol) (text : List ℕ) : Type 0 where
  pub ordered : List Symbol
  pub order : IsOrdered symbols ordered
  pub lines : text ≡ flat_map symbol_line ordered

-- a symbol by its value, its name and its size, in the order of comparison
abbrev pub symbol_of : ℕ × Bor (List ℕ) × ℕ → Symbol
symbol_of row = record { value = row.0; size = row.2; name = row.1.now }
