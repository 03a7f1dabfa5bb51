use Rattle.std.proofs.Common.{◌≡◌, ℕ, ◌+◌, ◌*◌, ◌++◌, ◌∷◌, [], List, sym, ap, subst, ◌∙◌}
use Rattle.std.specs.List.{flat_map}
use Rattle.elf_symbols.specs.declared.symbol.Symbol.{Symbol}
use Rattle.elf_symbols.specs.SymbolTable.{places, symbol_at}
use Rattle.elf_symbols.specs.Tallies.{AreTallies, tally_at, tally_after}
use Rattle.elf_symbols.proofs.PlaceLists.{places_none, flat_map_next}
use Rattle.elf_symbols.proofs.TallySteps.{with_symbol, without_symbol, some_here, none_here}
use Rattle.elf_symbols.proofs.symbol_table.SymbolTable.add_all.Goals as goal
use Rattle.elf_symbols.proofs.symbol_table.SymbolTable.add_all.Goals.{in-Some, in_default}

pub loop-k-init : goal.loop-k-init
loop-k-init c = rw places_none c.requires

pub loop-k-preserved : goal.loop-k-preserved
loop-k-preserved c =
    let table = c.args.self.now in
    let file = table.file.now in
    let strings = table.strings.now in
    let k = c.loop-k.k in
    let entry = table.first + 24 * k in
    let old = c.loop-k.tallies in
    let xs = flat_map (symbol_at file strings) (places table.first 24 k) in
    let next = flat_map_next (symbol_at file strings) table.first 24 k in
    let P : List Symbol → Type 0 = λ symbols. AreTallies symbols (k + 1) c.match-symbol.tallies in
    elim c.match-symbol.branch [
      | in-Some w ↦
          let s = w.in-Some.symbol in
          let here = some_here file strings entry old.longest s w.in-Some.ensures in
          let text : (name : List ℕ) → tally_at w.add.new.self name ≡ tally_after old s.name s.value name =
          λ name. w.add.ensures.names name ∙ ap (λ bytes. tally_after old bytes s.value name) w.text.ensures.list in
          let more = with_symbol xs s k old w.add.new.self c.loop-k.invariant w.add.ensures.longest text in
          subst P (sym (next ∙ ap (λ ys. xs ++ ys) here)) (subst (AreTallies (xs ++ s ∷ []) (k + 1)) (sym w.tallies-is) more)
      | in_default w ↦
          let none = none_here file strings entry old.longest w.in_default.ensures in
          let same = without_symbol xs (symbol_at file strings entry) k old c.loop-k.invariant none in
          subst P (sym next) (subst (AreTallies (xs ++ symbol_at file strings entry) (k + 1)) (sym w.tallies-is) same)
    ]
