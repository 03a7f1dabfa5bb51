use Rattle.std.proofs.Common.{◌≡◌, ◌++◌, drop, map}
use Rattle.load_maker.specs.File.{words_of}
use Rattle.load_maker.specs.Program.{inst_of}
use Rattle.load_maker.proofs.file.add_words.Given as goal

abbrev pub invariant-loop-op : goal.invariant-loop-op
invariant-loop-op l =
    l.file.items ++ words_of (map inst_of (drop l.op-index l.fn.lines)) ≡ l.fn.file.items ++ words_of (map inst_of l.fn.lines)
