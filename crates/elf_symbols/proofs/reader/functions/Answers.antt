use Rattle.elf_symbols.proofs.SymbolRules.{long_enough}
use Rattle.elf_symbols.proofs.reader.functions.Goals as goal

pub accept-requires : goal.accept-requires
accept-requires c = long_enough c.args.bytes.now c.requires.accepted
