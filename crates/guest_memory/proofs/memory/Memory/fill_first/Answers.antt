use Rattle.std.proofs.Common.{ap, arith}
use Rattle.guest_words.specs.Widths.{bytes_in}
use Rattle.guest_memory.proofs.Filled.{writable_first}
use Rattle.guest_memory.proofs.memory.Memory.fill_first.Goals as goal
use Rattle.guest_memory.proofs.memory.Memory.fill_first.Goals.{then-bytes-lt8, else-bytes-lt8}
use Rattle.std.proofs.Common.{length}

pub store_noted-requires-clause-writable : goal.store_noted-requires-clause-writable
store_noted-requires-clause-writable c =
    writable_first c.args.self.now.space c.args.from (length c.args.bytes.now) (bytes_in c.if-bytes-lt8.width) c.requires.writable
    (elim c.if-bytes-lt8.branch [
      | then-bytes-lt8 w ↦ let e = ap bytes_in w.width-is in omega (arith, e)
      | else-bytes-lt8 w ↦ let e = ap bytes_in w.width-is in omega (arith, e)
    ])
