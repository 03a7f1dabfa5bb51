use Rattle.std.proofs.Common.{arith, refl}
use Rattle.std.proofs.lemmas.Bool.Decides.{nat_tests}
use Rattle.elf_loader.specs.Segment.{load_of}
use Rattle.elf_loader.proofs.Places.{contains-pages_of}
use Rattle.elf_loader.proofs.segment.Segment.has_page.Goals as goal

pub returns-then-first_page-page : goal.returns-then-first_page-page
returns-then-first_page-page c =
    let s = c.args.self.now in
    let is = contains-pages_of (load_of s) c.args.page c.first_page.result c.last_page.result c.first_page.ensures c.last_page.ensures s.filled in
    grind (arith, nat_tests, is)

pub returns-else-first_page-page : goal.returns-else-first_page-page
returns-else-first_page-page c =
    let s = c.args.self.now in
    let is = contains-pages_of (load_of s) c.args.page c.first_page.result _ c.first_page.ensures refl s.filled in
    grind (arith, nat_tests, is)
