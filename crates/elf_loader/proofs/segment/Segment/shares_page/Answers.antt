use Rattle.std.proofs.Common.{arith, refl}
use Rattle.std.proofs.lemmas.Bool.Decides.{nat_tests}
use Rattle.elf_loader.specs.Segment.{load_of}
use Rattle.elf_loader.proofs.Places.{meets-pages_of}
use Rattle.elf_loader.proofs.segment.Segment.shares_page.Goals as goal

pub returns-then-first_page-last_page : goal.returns-then-first_page-last_page
returns-then-first_page-last_page c =
    let a = c.args.self.now in
    let b = c.args.other.now in
    let is = meets-pages_of (load_of a) (load_of b) _ _ _ _ c.first_page.ensures c.last_page-then-first_page-last_page.ensures c.first_page-then-first_page-last_page.ensures c.last_page.ensures a.filled b.filled in
    grind (arith, nat_tests, is)

pub returns-else-first_page-last_page : goal.returns-else-first_page-last_page
returns-else-first_page-last_page c =
    let a = c.args.self.now in
    let b = c.args.other.now in
    let is = meets-pages_of (load_of a) (load_of b) _ _ _ _ c.first_page.ensures refl refl c.last_page.ensures a.filled b.filled in
    grind (arith, nat_tests, is)
