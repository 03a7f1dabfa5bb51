use Rattle.std.proofs.Common.{◌≡◌, ℕ, ◌+◌, List, [], ◌∷◌, drop, refl, ap, sym, subst, ◌∙◌, arith}
use Rattle.std.proofs.lemmas.List.{drop_all, drop_more}
use Rattle.std.proofs.lemmas.Result.{err_from_is_err_and}
use Rattle.program_words.specs.declared.port_name.PortName.{PortName}
use Rattle.rescue_audit.specs.declared.files.PortFile.{PortFile}
use Rattle.rescue_run.specs.Further.{device_files, port_names}
use Rattle.rescue_run.specs.ReadsFiles.{port_bytes, ReadsAll}
use Rattle.rescue_run.proofs.Furthers.{port_passed, port_read, port_stopped, ports_read, GoesOn, StopsOn}
use Rattle.rescue_run.proofs.further.load_ports.Goals as goal

pub returns-in_err-file : goal.returns-in_err-file
returns-in_err-file g c =
    let seen = g.F.Shelf.seen in
    let ports = c.args.ports.now in
    let whole = device_files 3 (port_names ports) in
    let i = c.loop-port.port-index in
    let port = c.port-item.result in
    let rest = drop (i + 1) ports in
    let here : drop i ports ≡ port ∷ rest = drop_more ports i port c.loop-port-test.true ∙ ap (λ (x : PortName). x ∷ rest) (sym c.port-item.is) in
    let on = subst (λ (ps : List PortName). StopsOn whole (seen c.args.shelf.now) c.loop-port.number ps (seen c.loop-port.shelf)) here c.loop-port.invariant.stops in
    let p = err_from_is_err_and c.from_residual.result c.from_residual.ensures.1 in record {
      reads = rw (p.1, p.2) (port_stopped whole (seen c.args.shelf.now) c.loop-port.number port rest (seen c.loop-port.shelf) (seen c.load_port.new.shelf)
          c.in_err-file.field-0.0 c.in_err-file.ensures.reads on);
    }

pub loop-port-preserved : goal.loop-port-preserved
loop-port-preserved g c =
    let seen = g.F.Shelf.seen in
    let ports = c.args.ports.now in
    let whole = device_files 3 (port_names ports) in
    let first = seen c.args.shelf.now in
    let i = c.loop-port.port-index in
    let number = c.loop-port.number in
    let port = c.port-item.result in
    let rest = drop (i + 1) ports in
    let file = c.in_ok-file.file in
    let before = seen c.loop-port.shelf in
    let after = seen c.load_port.new.shelf in
    let here : drop i ports ≡ port ∷ rest = drop_more ports i port c.loop-port-test.true ∙ ap (λ (x : PortName). x ∷ rest) (sym c.port-item.is) in
    let on = subst (λ (ps : List PortName). GoesOn whole first c.loop-port.files.items number ps before) here c.loop-port.invariant.reads in
    let stops = subst (λ (ps : List PortName). StopsOn whole first number ps before) here c.loop-port.invariant.stops in
    let read = port_read whole first c.loop-port.files.items number (number + 2) port rest before after file refl c.in_ok-file.ensures.reads on in record {
      reads = subst (λ (fs : List PortFile). GoesOn whole first fs (number + 2) rest after) (sym c.push_reserved.ensures.items) read;
      stops = port_passed whole first number (number + 2) port rest before after file refl c.in_ok-file.ensures.reads stops;
      number = omega (arith, c.loop-port.invariant.number);
      len = c.push_reserved.ensures.len ∙ ap (λ (n : ℕ). n + 1) c.loop-port.invariant.len;
      room = omega (arith, c.push_reserved.ensures.capacity, c.loop-port.invariant.room);
    }

pub returns : goal.returns
returns g c =
    let seen = g.F.Shelf.seen in
    let ports = c.args.ports.now in
    let whole = device_files 3 (port_names ports) in
    let first = seen c.args.shelf.now in
    let none : drop c.loop-port.port-index ports ≡ [] = drop_all c.loop-port.port-index ports (omega (arith, c.loop-port-test.false)) in
    let all = ports_read whole first c.loop-port.files.items c.loop-port.number (drop c.loop-port.port-index ports) (seen c.loop-port.shelf) none c.loop-port.invariant.reads in record {
      reads = subst (λ (fs : List PortFile). ReadsAll whole first (seen c.loop-port.shelf) (port_bytes fs)) (sym c.of.ensures.list) all;
    }
