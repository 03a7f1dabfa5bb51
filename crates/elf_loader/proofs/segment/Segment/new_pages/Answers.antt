use Rattle.std.proofs.Common.{arith}
use Rattle.std.proofs.lemmas.Bool.Decides.{nat_tests}
use Rattle.elf_loader.specs.Segment.{load_of}
use Rattle.elf_loader.proofs.NewPages.{new_page_count}
use Rattle.elf_loader.proofs.segment.Segment.new_pages.Goals as goal
use Rattle.elf_loader.proofs.segment.Segment.new_pages.Goals.{then-first-last, else-first-last}

pub returns-clause-count : goal.returns-clause-count
returns-clause-count c =
    let s = c.args.self.now in
    let is = new_page_count c.args.earlier.now (load_of s) c.first_page-first.result c.last_page-last.result c.requires s.filled c.first_page-first.ensures c.last_page-last.ensures in
    elim c.if-first-last.branch [ then-first-last w ↦ grind (arith, nat_tests, is) | else-first-last w ↦ grind (arith, nat_tests, is) ]
