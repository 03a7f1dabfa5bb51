use Rattle.std.proofs.Common.{ap, ◌∙◌}
use Rattle.open_calls.specs.Nest.{Stack}
use Rattle.open_calls.proofs.Nests.{flat_all}
use Rattle.open_calls.proofs.calls.Calls.flatten.Goals as goal

pub returns-clause-entries : goal.returns-clause-entries
returns-clause-entries c =
    let n = c.args.self.nest in
    c.into_top.ensures.entries ∙ ap (λ (s : Stack). s.nest.entries) c.close_to.ensures.same ∙ flat_all c.args.self.hart n.outers n.entries
