use Rattle.std.proofs.Common.{◌+◌, [], ◌∷◌}
use Rattle.std.proofs.lemmas.Result.{err_from_is_err_and}
use Rattle.rescue_run.specs.declared.outcome.Which.TheVariants.{Device}
use Rattle.rescue_run.proofs.Furthers.{reads_both, stops_before, stops_behind}
use Rattle.rescue_run.proofs.further.load_port.Goals as goal

pub returns-in_err-input : goal.returns-in_err-input
returns-in_err-input g c =
    let seen = g.F.Shelf.seen in
    let p = err_from_is_err_and c.from_residual.result c.from_residual.ensures.1 in record {
      reads = rw (p.1, p.2) (stops_before ((Device c.args.number, c.args.port.now.input) ∷ []) ((Device (c.args.number + 1), c.args.port.now.output) ∷ [])
          (seen c.args.shelf.now) (seen c.load_one.new.shelf) c.in_err-input.field-0.0 c.in_err-input.ensures.reads);
    }

pub returns-in_err-output : goal.returns-in_err-output
returns-in_err-output g c =
    let seen = g.F.Shelf.seen in
    let p = err_from_is_err_and c.from_residual-in_err-output.result c.from_residual-in_err-output.ensures.1 in record {
      reads = rw (p.1, p.2) (stops_behind ((Device c.args.number, c.args.port.now.input) ∷ []) ((Device (c.args.number + 1), c.args.port.now.output) ∷ [])
          (seen c.args.shelf.now) (seen c.load_one.new.shelf) (seen c.load_one-2.new.shelf) (c.in_ok-input.input ∷ []) c.in_err-output.field-0.0
          c.in_ok-input.ensures.reads c.in_err-output.ensures.reads);
    }

pub returns : goal.returns
returns g c =
    let seen = g.F.Shelf.seen in record {
      reads = reads_both ((Device c.args.number, c.args.port.now.input) ∷ []) ((Device (c.args.number + 1), c.args.port.now.output) ∷ [])
          (seen c.args.shelf.now) (seen c.load_one.new.shelf) (seen c.load_one-2.new.shelf) (c.in_ok-input.input ∷ []) (c.in_ok-output.output ∷ [])
          c.in_ok-input.ensures.reads c.in_ok-output.ensures.reads;
    }
