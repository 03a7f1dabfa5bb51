use Rattle.std.proofs.Common.{◌≡◌, ◌<◌, ◌+◌, ◌*◌, ◌++◌, ◌∷◌, [], length, get_or, sym, ap, ◌∙◌, refl, arith, length-append}
use Rattle.std.specs.List.{flat_map}
use Rattle.std.proofs.lemmas.Bool.Decides.{nat_tests}
use Rattle.std.proofs.lemmas.List.{append-nil}
use Rattle.elf_symbols.specs.Find.{values_of}
use Rattle.elf_symbols.specs.SymbolTable.{places, symbol_at}
use Rattle.elf_symbols.proofs.PlaceLists.{places_none, flat_map_next}
use Rattle.elf_symbols.proofs.Values.{values_append, first_value, same_first}
use Rattle.elf_symbols.proofs.symbol_table.SymbolTable.count_named.Goals as goal
use Rattle.elf_symbols.proofs.symbol_table.SymbolTable.count_named.Goals.{in-Some, then-count-eq0, else-count-eq0, in_default}

pub loop-k-init : goal.loop-k-init
loop-k-init c = rw places_none (record { count = refl; first = λ some. absurd (omega arith); within = omega arith })

pub loop-k-preserved : goal.loop-k-preserved
loop-k-preserved c =
    let table = c.args.self.now in
    let name = c.args.name.now in
    let k = c.loop-k.k in
    let kept = c.loop-k.invariant in
    let symbol = symbol_at table.file.now table.strings.now in
    let old = values_of (flat_map symbol (places table.first 24 k)) name in
    let all = values_of (flat_map symbol (places table.first 24 (k + 1))) name in
    let here = values_of (symbol (table.first + 24 * k)) name in
    let next : all ≡ old ++ here = ap (λ s. values_of s name) (flat_map_next symbol table.first 24 k)
    ∙ values_append (flat_map symbol (places table.first 24 k)) (symbol (table.first + 24 * k)) name in
    elim c.match-value_named.branch [
      | in-Some w ↦
          let v = w.in-Some.value in
          let more : all ≡ old ++ v ∷ [] = next ∙ ap (λ vs. old ++ vs) (sym w.in-Some.ensures) in
          let longer : length all ≡ length old + 1 = ap length more ∙ length-append old (v ∷ []) in
          let head = sym (ap (λ vs. get_or vs 0 0) more) in
          elim w.if-count-eq0.branch [
            | then-count-eq0 w' ↦
                let none : length old ≡ 0 = grind (arith, nat_tests) in record {
                  count = omega (arith, w.count-is, longer, kept.count);
                  first = λ _. w.first-is ∙ w'.first-is ∙ sym (first_value old v none) ∙ head;
                  within = omega (arith, w.count-is, kept.within);
                }
            | else-count-eq0 w' ↦
                let some : 0 < length old = grind (arith, nat_tests) in record {
                  count = omega (arith, w.count-is, longer, kept.count);
                  first = λ _. w.first-is ∙ w'.first-is ∙ kept.first (omega (arith, some, kept.count)) ∙ sym (same_first old (v ∷ []) some) ∙ head;
                  within = omega (arith, w.count-is, kept.within);
                }
          ]
      | in_default w ↦
          let same : all ≡ old = next ∙ ap (λ vs. old ++ vs) (sym w.in_default.ensures) ∙ append-nil old in record {
            count = w.count-is ∙ kept.count ∙ ap length (sym same);
            first = λ some. w.first-is ∙ kept.first (omega (arith, some, w.count-is)) ∙ ap (λ vs. get_or vs 0 0) (sym same);
            within = omega (arith, w.count-is, kept.within);
          }
    ]
