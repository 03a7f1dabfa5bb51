use Rattle.std.proofs.Common.{arith}
use Rattle.std.proofs.lemmas.Bool.Decides.{nat_tests}
use Rattle.guest_words.proofs.PageLaws.{meets-ranges}
use Rattle.elf_loader.proofs.segment.Segment.shares_byte.Goals as goal

pub returns-then-self-other : goal.returns-then-self-other
returns-then-self-other c =
    let a = c.args.self.now in
    let b = c.args.other.now in
    let is = meets-ranges a.address a.size b.address b.size a.filled b.filled in
    grind (arith, nat_tests, is)

pub returns-else-self-other : goal.returns-else-self-other
returns-else-self-other c =
    let a = c.args.self.now in
    let b = c.args.other.now in
    let is = meets-ranges a.address a.size b.address b.size a.filled b.filled in
    grind (arith, nat_tests, is)
