use Rattle.std.proofs.Common.{◌≡◌, Bor, List, ℕ, [], length, true, false, cond, get_or, refl, sym, ap, ◌∙◌, arith}
use Rattle.std.specs.Prelude.{Some}
use Rattle.std.specs.Str.{bytes_eq}
use Rattle.std.proofs.lemmas.Map.Text.{hash_map_updates_str}
use Rattle.std.proofs.lemmas.Slice.Eq.{bytes_eq-Decides}
use Rattle.elf_symbols.specs.declared.tally.Tally.{Tally}
use Rattle.elf_symbols.specs.declared.tallies.Tallies.{Tallies}
use Rattle.elf_symbols.specs.Tallies.{IsTallyAmong, tally_at}
use Rattle.elf_symbols.proofs.TallySteps.{fresh, looser, max_bounds}
use Rattle.elf_symbols.proofs.tallies.Tallies.of.Goals as goal

abbrev no_word : Bor (List ℕ)
no_word = record { ref_ptr = (0, 0); now = [] }

pub loop-name-preserved : goal.loop-name-preserved
loop-name-preserved c = λ q t is.
    let name = (get_or c.args.names.now c.loop-name.name-index no_word).now in
    let none : Tally = record { count = 0; first = 0 } in
    let old : Tallies = record { by_name = c.loop-name.by_name; longest = c.loop-name.longest } in
    let most = c.max-longest.result in
    let bounds = max_bounds c.loop-name.longest (length name) in
    let put = hash_map_updates_str name c.loop-name.by_name c.insert.new.self _ c.in_ok-insert.ensures.updates q in
    elim (bytes_eq name q) as (λ b. bytes_eq name q ≡ b → cond b (Some none) (tally_at old q) ≡ Some t → IsTallyAmong [] 0 most q t) [
      | true ↦ λ same h. fresh q most t (omega (arith, ap length ((bytes_eq-Decides name q).0 same), c.max-longest.ensures, bounds)) h
      | false ↦ λ _ h. looser q most t (omega (arith, c.max-longest.ensures, bounds)) (c.loop-name.invariant q t h)
    ] refl (sym put ∙ is)
