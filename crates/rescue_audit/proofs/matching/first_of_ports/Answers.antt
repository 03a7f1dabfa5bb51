use Rattle.std.proofs.Common.{◌≡◌, ℕ, ◌+◌, List, [], ◌∷◌, drop, Some, refl, ap, sym, ◌∙◌, arith}
use Rattle.std.proofs.lemmas.List.{drop_all, drop_more}
use Rattle.edge_ports.specs.DevicesMatch.{records_at}
use Rattle.run_history.specs.Counts.{records_of_all}
use Rattle.rescue_audit.specs.declared.files.PortFile.{PortFile}
use Rattle.rescue_audit.specs.Matches.{first_broken, gives, port_rules, takes_from}
use Rattle.rescue_audit.proofs.Numbering.{first_is, numbered, second_is, two_kept}
use Rattle.rescue_audit.proofs.matching.first_of_ports.Goals as goal

pub loop-port-init : goal.loop-port-init
loop-port-init c = refl

pub returns-then-not-takes : goal.returns-then-not-takes
returns-then-not-takes c =
    let ports = c.args.ports.now in
    let rs = records_of_all c.args.entries.now in
    let i = c.loop-port.port-index in
    let fd = c.loop-port.fd in
    let n = c.loop-port.input in
    let port = c.port-item.result in
    let rest = drop (i + 1) ports in
    let takes = takes_from port.input (records_at fd rs) in
    let given = gives port.output (records_at fd rs) in
    let here : drop i ports ≡ port ∷ rest = drop_more ports i port c.loop-port-test.true ∙ ap (λ (x : PortFile). x ∷ rest) (sym c.port-item.is) in
    let at = sym (ap (λ (xs : List PortFile). numbered n (first_broken (port_rules fd xs rs))) here) ∙ c.loop-port.invariant in
    let took = sym (c.takes.ensures.value ∙ ap (λ (file : List ℕ). takes_from file (records_at fd rs)) c.items.ensures.list) in
    record { ok = sym (first_is n takes given (port_rules (fd + 1) rest rs) (took ∙ c.if-not-takes.true)) ∙ at }

pub returns-then-not-gives : goal.returns-then-not-gives
returns-then-not-gives c =
    let ports = c.args.ports.now in
    let rs = records_of_all c.args.entries.now in
    let i = c.loop-port.port-index in
    let fd = c.loop-port.fd in
    let n = c.loop-port.input in
    let port = c.port-item.result in
    let rest = drop (i + 1) ports in
    let takes = takes_from port.input (records_at fd rs) in
    let given = gives port.output (records_at fd rs) in
    let here : drop i ports ≡ port ∷ rest = drop_more ports i port c.loop-port-test.true ∙ ap (λ (x : PortFile). x ∷ rest) (sym c.port-item.is) in
    let at = sym (ap (λ (xs : List PortFile). numbered n (first_broken (port_rules fd xs rs))) here) ∙ c.loop-port.invariant in
    let took = sym (c.takes.ensures.value ∙ ap (λ (file : List ℕ). takes_from file (records_at fd rs)) c.items.ensures.list) in
    let gave = sym (c.gives.ensures.value ∙ ap (λ (file : List ℕ). gives file (records_at fd rs)) c.items-in-loop-port.ensures.list) in
    record { ok = ap Some c.in_ok-output.ensures.ok ∙ sym (second_is n takes given (port_rules (fd + 1) rest rs) (took ∙ c.if-not-takes.false) (gave ∙ c.if-not-gives.true)) ∙ at }

pub loop-port-preserved : goal.loop-port-preserved
loop-port-preserved c =
    let ports = c.args.ports.now in
    let rs = records_of_all c.args.entries.now in
    let i = c.loop-port.port-index in
    let fd = c.loop-port.fd in
    let n = c.loop-port.input in
    let port = c.port-item.result in
    let rest = drop (i + 1) ports in
    let takes = takes_from port.input (records_at fd rs) in
    let given = gives port.output (records_at fd rs) in
    let here : drop i ports ≡ port ∷ rest = drop_more ports i port c.loop-port-test.true ∙ ap (λ (x : PortFile). x ∷ rest) (sym c.port-item.is) in
    let at = sym (ap (λ (xs : List PortFile). numbered n (first_broken (port_rules fd xs rs))) here) ∙ c.loop-port.invariant in
    let took = sym (c.takes.ensures.value ∙ ap (λ (file : List ℕ). takes_from file (records_at fd rs)) c.items.ensures.list) in
    let gave = sym (c.gives.ensures.value ∙ ap (λ (file : List ℕ). gives file (records_at fd rs)) c.items-in-loop-port.ensures.list) in
    let number : c.in_ok-input.input ≡ n + 1 + 1 = c.in_ok-input.ensures.ok ∙ ap (λ (k : ℕ). k + 1) c.in_ok-output.ensures.ok in
    ap (λ (k : ℕ). numbered k (first_broken (port_rules c.in_ok-fd.fd rest rs))) number
    ∙ ap (λ (k : ℕ). numbered (n + 1 + 1) (first_broken (port_rules k rest rs))) c.in_ok-fd.ensures.ok
    ∙ sym (two_kept n takes given (port_rules (fd + 1) rest rs) (took ∙ c.if-not-takes.false) (gave ∙ c.if-not-gives.false))
    ∙ at

pub returns : goal.returns
returns c =
    let ports = c.args.ports.now in
    let rs = records_of_all c.args.entries.now in
    let i = c.loop-port.port-index in
    let none : drop i ports ≡ [] = drop_all i ports (omega (arith, c.loop-port-test.false)) in
    record { ok = sym (ap (λ (xs : List PortFile). numbered c.loop-port.input (first_broken (port_rules c.loop-port.fd xs rs))) none) ∙ c.loop-port.invariant }
