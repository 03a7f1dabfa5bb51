use Rattle.std.proofs.Common.{[], ◌∷◌, ◌++◌, subst}
use Rattle.std.proofs.lemmas.Result.{err_from_is_err_and}
use Rattle.rescue_run.specs.declared.outcome.Which.TheVariants as which
use Rattle.rescue_run.specs.Further.{device_files, port_names}
use Rattle.rescue_run.specs.ReadsFiles.{port_bytes, ReadsAll, StopsAmong}
use Rattle.rescue_run.proofs.Furthers.{reads_both, stops_after, stops_before, stops_behind}
use Rattle.rescue_run.proofs.further.load_further.Goals as goal

pub returns-in_err-history : goal.returns-in_err-history
returns-in_err-history g c =
    let seen = g.F.Shelf.seen in
    let n = c.args.names.now in
    let a = (which.History, n.history) ∷ [] in
    let b = (which.Device 0, n.input) ∷ [] in
    let d = (which.Device 1, n.out) ∷ [] in
    let e = (which.Device 2, n.err) ∷ [] in
    let f = device_files 3 (port_names n.ports) in
    let p = err_from_is_err_and c.from_residual.result c.from_residual.ensures.1 in record {
      reads = rw (p.1, p.2) (stops_before a (b ++ (d ++ (e ++ f))) (seen c.args.shelf.now) (seen c.load_one.new.shelf) c.in_err-history.field-0.0 c.in_err-history.ensures.reads);
    }

pub returns-in_err-input : goal.returns-in_err-input
returns-in_err-input g c =
    let seen = g.F.Shelf.seen in
    let n = c.args.names.now in
    let a = (which.History, n.history) ∷ [] in
    let b = (which.Device 0, n.input) ∷ [] in
    let d = (which.Device 1, n.out) ∷ [] in
    let e = (which.Device 2, n.err) ∷ [] in
    let f = device_files 3 (port_names n.ports) in
    let p = err_from_is_err_and c.from_residual-in_err-input.result c.from_residual-in_err-input.ensures.1 in record {
      reads = rw (p.1, p.2) (stops_after a b (d ++ (e ++ f)) (seen c.args.shelf.now) (seen c.load_one.new.shelf) (seen c.load_one-2.new.shelf) (c.in_ok-history.history ∷ []) c.in_err-input.field-0.0 c.in_ok-history.ensures.reads c.in_err-input.ensures.reads);
    }

pub returns-in_err-out : goal.returns-in_err-out
returns-in_err-out g c =
    let seen = g.F.Shelf.seen in
    let n = c.args.names.now in
    let a = (which.History, n.history) ∷ [] in
    let b = (which.Device 0, n.input) ∷ [] in
    let d = (which.Device 1, n.out) ∷ [] in
    let e = (which.Device 2, n.err) ∷ [] in
    let f = device_files 3 (port_names n.ports) in
    let p = err_from_is_err_and c.from_residual-in_err-out.result c.from_residual-in_err-out.ensures.1 in record {
      reads = rw (p.1, p.2) (stops_after (a ++ b) d (e ++ f) (seen c.args.shelf.now) (seen c.load_one-2.new.shelf) (seen c.load_one-3.new.shelf) ((c.in_ok-history.history ∷ []) ++ c.in_ok-input.input ∷ []) c.in_err-out.field-0.0 (reads_both a b (seen c.args.shelf.now) (seen c.load_one.new.shelf) (seen c.load_one-2.new.shelf) (c.in_ok-history.history ∷ []) (c.in_ok-input.input ∷ []) c.in_ok-history.ensures.reads c.in_ok-input.ensures.reads) c.in_err-out.ensures.reads);
    }

pub returns-in_err-err : goal.returns-in_err-err
returns-in_err-err g c =
    let seen = g.F.Shelf.seen in
    let n = c.args.names.now in
    let a = (which.History, n.history) ∷ [] in
    let b = (which.Device 0, n.input) ∷ [] in
    let d = (which.Device 1, n.out) ∷ [] in
    let e = (which.Device 2, n.err) ∷ [] in
    let f = device_files 3 (port_names n.ports) in
    let p = err_from_is_err_and c.from_residual-in_err-err.result c.from_residual-in_err-err.ensures.1 in record {
      reads = rw (p.1, p.2) (stops_after ((a ++ b) ++ d) e (f) (seen c.args.shelf.now) (seen c.load_one-3.new.shelf) (seen c.load_one-4.new.shelf) (((c.in_ok-history.history ∷ []) ++ c.in_ok-input.input ∷ []) ++ c.in_ok-out.out ∷ []) c.in_err-err.field-0.0 (reads_both (a ++ b) d (seen c.args.shelf.now) (seen c.load_one-2.new.shelf) (seen c.load_one-3.new.shelf) ((c.in_ok-history.history ∷ []) ++ c.in_ok-input.input ∷ []) (c.in_ok-out.out ∷ []) (reads_both a b (seen c.args.shelf.now) (seen c.load_one.new.shelf) (seen c.load_one-2.new.shelf) (c.in_ok-history.history ∷ []) (c.in_ok-input.input ∷ []) c.in_ok-history.ensures.reads c.in_ok-input.ensures.reads) c.in_ok-out.ensures.reads) c.in_err-err.ensures.reads);
    }

pub returns-in_err-ports : goal.returns-in_err-ports
returns-in_err-ports g c =
    let seen = g.F.Shelf.seen in
    let n = c.args.names.now in
    let a = (which.History, n.history) ∷ [] in
    let b = (which.Device 0, n.input) ∷ [] in
    let d = (which.Device 1, n.out) ∷ [] in
    let e = (which.Device 2, n.err) ∷ [] in
    let f = device_files 3 (port_names n.ports) in
    let p = err_from_is_err_and c.from_residual-in_err-ports.result c.from_residual-in_err-ports.ensures.1 in
    let stops = subst (λ ps. StopsAmong (device_files 3 (port_names ps)) (seen c.load_one-4.new.shelf) (seen c.load_ports.new.shelf) c.in_err-ports.field-0.0) c.items.ensures.list c.in_err-ports.ensures.reads in record {
      reads = rw (p.1, p.2) (stops_behind (((a ++ b) ++ d) ++ e) f (seen c.args.shelf.now) (seen c.load_one-4.new.shelf) (seen c.load_ports.new.shelf) ((((c.in_ok-history.history ∷ []) ++ c.in_ok-input.input ∷ []) ++ c.in_ok-out.out ∷ []) ++ c.in_ok-err.err ∷ []) c.in_err-ports.field-0.0 (reads_both ((a ++ b) ++ d) e (seen c.args.shelf.now) (seen c.load_one-3.new.shelf) (seen c.load_one-4.new.shelf) (((c.in_ok-history.history ∷ []) ++ c.in_ok-input.input ∷ []) ++ c.in_ok-out.out ∷ []) (c.in_ok-err.err ∷ []) (reads_both (a ++ b) d (seen c.args.shelf.now) (seen c.load_one-2.new.shelf) (seen c.load_one-3.new.shelf) ((c.in_ok-history.history ∷ []) ++ c.in_ok-input.input ∷ []) (c.in_ok-out.out ∷ []) (reads_both a b (seen c.args.shelf.now) (seen c.load_one.new.shelf) (seen c.load_one-2.new.shelf) (c.in_ok-history.history ∷ []) (c.in_ok-input.input ∷ []) c.in_ok-history.ensures.reads c.in_ok-input.ensures.reads) c.in_ok-out.ensures.reads) c.in_ok-err.ensures.reads) stops);
    }

pub returns : goal.returns
returns g c =
    let seen = g.F.Shelf.seen in
    let n = c.args.names.now in
    let a = (which.History, n.history) ∷ [] in
    let b = (which.Device 0, n.input) ∷ [] in
    let d = (which.Device 1, n.out) ∷ [] in
    let e = (which.Device 2, n.err) ∷ [] in
    let f = device_files 3 (port_names n.ports) in
    let read = subst (λ ps. ReadsAll (device_files 3 (port_names ps)) (seen c.load_one-4.new.shelf) (seen c.load_ports.new.shelf) (port_bytes c.in_ok-ports.ports)) c.items.ensures.list c.in_ok-ports.ensures.reads in record {
      reads = reads_both (((a ++ b) ++ d) ++ e) f (seen c.args.shelf.now) (seen c.load_one-4.new.shelf) (seen c.load_ports.new.shelf) ((((c.in_ok-history.history ∷ []) ++ c.in_ok-input.input ∷ []) ++ c.in_ok-out.out ∷ []) ++ c.in_ok-err.err ∷ []) (port_bytes c.in_ok-ports.ports) (reads_both ((a ++ b) ++ d) e (seen c.args.shelf.now) (seen c.load_one-3.new.shelf) (seen c.load_one-4.new.shelf) (((c.in_ok-history.history ∷ []) ++ c.in_ok-input.input ∷ []) ++ c.in_ok-out.out ∷ []) (c.in_ok-err.err ∷ []) (reads_both (a ++ b) d (seen c.args.shelf.now) (seen c.load_one-2.new.shelf) (seen c.load_one-3.new.shelf) ((c.in_ok-history.history ∷ []) ++ c.in_ok-input.input ∷ []) (c.in_ok-out.out ∷ []) (reads_both a b (seen c.args.shelf.now) (seen c.load_one.new.shelf) (seen c.load_one-2.new.shelf) (c.in_ok-history.history ∷ []) (c.in_ok-input.input ∷ []) c.in_ok-history.ensures.reads c.in_ok-input.ensures.reads) c.in_ok-out.ensures.reads) c.in_ok-err.ensures.reads) read;
    }
