use Rattle.rescue_config.proofs.Tables.{AreRead}
use Rattle.rescue_config.proofs.reader.read_tables.Given as goal

abbrev pub invariant-loop-value : goal.invariant-loop-value
invariant-loop-value l = AreRead l.version l.symbols l.text l.values l.value-index l.points.items
