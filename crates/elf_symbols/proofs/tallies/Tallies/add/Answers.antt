use Rattle.std.proofs.Common.{rules, ◌≡◌, true, false, cond, refl, sym, ap, ◌∙◌}
use Rattle.std.specs.Prelude.{Some, option_map, if◌then◌else◌}
use Rattle.std.specs.Str.{bytes_eq}
use Rattle.std.proofs.lemmas.Map.Text.{hash_map_updates_str}
use Rattle.std.proofs.lemmas.Slice.Eq.{bytes_eq-Decides}
use Rattle.elf_symbols.specs.Tallies.{tally_at, more}
use Rattle.elf_symbols.proofs.tallies.Tallies.add.Goals as goal

pub more-requires : goal.more-requires
more-requires c = c.requires c.args.name.now c.in-Some.tally.now (sym c.in-Some.ensures.value)

pub returns-in-Some-clause-names : goal.returns-in-Some-clause-names
returns-in-Some-clause-names c = λ other.
    let old = c.args.self.now in
    let name = c.args.name.now in
    let w = c.more.result in
    let put = hash_map_updates_str name old.by_name (c.get_mut.follows.lender w) _ ((c.get_mut.follows.holds w).3 (search rules)) other in
    put
    ∙ elim (bytes_eq name other) as (λ b. bytes_eq name other ≡ b → cond b (Some w) (tally_at old other)
    ≡ if b then option_map (more c.args.value) (tally_at old other) else tally_at old other) [
      | true ↦ λ is.
          let same : name ≡ other = (bytes_eq-Decides name other).0 is in
          ap Some c.more.ensures ∙ ap (option_map (more c.args.value)) (c.in-Some.ensures.value ∙ ap (tally_at old) same)
      | false ↦ λ _. refl
    ] refl
