-- Tallies of names over a list of symbols.
use Rattle.std.specs.Prelude.{◌≡◌, ℕ, ◌+◌, ◌<◌, ◌≤◌, ◌==◌, List, length, slice_index, Option, Some, option_map, if◌then◌else◌}
use Rattle.std.specs.HashMap as hash
use Rattle.std.specs.Str.{bytes_eq}
use Rattle.elf_symbols.specs.declared.symbol.Symbol.{Symbol}
use Rattle.elf_symbols.specs.declared.tally.Tally.{Tally}
use Rattle.elf_symbols.specs.declared.tallies.Tallies.{Tallies}
use Rattle.elf_symbols.specs.Find.{values_of}

-- how many symbols have the name, and the value of the first of them
pub record IsTally (symbols : List Symbol) (name : List ℕ) (tally : Tally) : Type 0 where
  pub count : tally.count ≡ length (values_of symbols name)
  pub first : 0 < tally.count → tally.first ≡ slice_index (values_of symbols name) 0

-- a tally with one more symbol, which has this value
abbrev pub more : ℕ → Tally → Tally
more value tally =
    record {
      count = tally.count + 1;
      first = if tally.count == 0 then value else tally.first;
    }

-- the tally of a name, if it is one of them
abbrev pub tally_at : Tallies → List ℕ → Option Tally
tally_at tallies name = hash.get_by (λ key. bytes_eq name key.now) tallies.by_name

-- the same after a symbol is added
abbrev pub tally_after : Tallies → List ℕ → ℕ → List ℕ → Option Tally
tally_after tallies added value name =
    if bytes_eq added name then option_map (more value) (tally_at tallies name)
    else tally_at tallies name

-- each is that of its name, which is not too long, and counts at most so many
pub record IsTallyAmong (symbols : List Symbol) (most longest : ℕ) (name : List ℕ) (tally : Tally)
    : Type 0 where
  pub is : IsTally symbols name tally
  pub few : tally.count ≤ most
  pub short : length name ≤ longest

abbrev pub AreTallies : List Symbol → ℕ → Tallies → Type 0
AreTallies symbols most tallies =
    (name : List ℕ) (tally : Tally)
    → tally_at tallies name ≡ Some tally
    → IsTallyAmong symbols most tallies.longest name tally
