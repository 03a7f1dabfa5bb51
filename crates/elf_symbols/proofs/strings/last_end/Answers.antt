use Rattle.std.proofs.Common.{arith}
use Rattle.elf_symbols.proofs.Ends.{zero_follows}
use Rattle.elf_symbols.proofs.strings.last_end.Goals as goal

pub returns : goal.returns
returns c =
    let kept = c.loop-i.invariant in
    zero_follows c.args.strings.now c.loop-i.end (omega arith) (λ k low high. kept.none_after k low (omega arith)) kept.last
