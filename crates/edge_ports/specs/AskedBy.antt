-- What a call of a shelf asked for.
use Rattle.std.specs.Result.{result_err}
use Rattle.edge_ports.specs.Asked.{Asked, Loaded, Saved}
use Rattle.edge_ports.specs.declared.shelf_log.ShelfCall.{ShelfCall}
use Rattle.edge_ports.specs.declared.shelf_log.ShelfCall.TheVariants.{Load, Save}

abbrev pub asked_by : ShelfCall → Asked
asked_by (Load name answer) = Loaded name.now answer.now
asked_by (Save name bytes answer) = Saved name.now bytes.now (result_err answer)
