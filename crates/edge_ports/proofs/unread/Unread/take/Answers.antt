use Rattle.std.proofs.Common.{◌≡◌, ◌≤◌, ℕ, List, length, take, sym, ◌∙◌, ap, arith}
use Rattle.edge_ports.proofs.Copies.{copied}
use Rattle.edge_ports.proofs.unread.Unread.take.Goals as goal

pub returns-clause-taken : goal.returns-clause-taken
returns-clause-taken c =
    let rest : c.rest-rest.result.now ≡ c.args.self.now = c.rest-rest.ensures.value in
    let fits : c.min-count.result ≤ length c.args.self.now = omega (arith, ap length rest) in
    copied c.self.inside.bytes.items c.args.self.now c.args.into.now c.copy_from_slice.new.self c.self.inside.next c.min-count.result (sym c.self.view_is) fits
    (c.copy_from_slice.ensures.after ∙ ap (λ (l : List ℕ). take c.min-count.result l) rest)
