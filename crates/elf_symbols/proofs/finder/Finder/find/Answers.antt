use Rattle.std.proofs.Common.{sym, ap, ◌∙◌}
use Rattle.elf_symbols.specs.Listed.{listed}
use Rattle.elf_symbols.specs.Find.{found_of}
use Rattle.elf_symbols.proofs.finder.Finder.find.Goals as goal

pub returns-in-Some : goal.returns-in-Some
returns-in-Some c =
    let name = c.args.name.now in
    let counted = c.self.inside.counted name c.in-Some.tally.now (sym c.in-Some.ensures.value) in
    record { found = c.found.ensures (listed c.self.inside.table) name counted ∙ ap (λ symbols. found_of symbols name) c.self.view_is }
