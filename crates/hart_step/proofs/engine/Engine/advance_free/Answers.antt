use Rattle.std.proofs.Common.{ap, ◌∙◌}
use Rattle.hart_step.specs.Sees.{named}
use Rattle.hart_step.proofs.SlotActs.{act_of-at, next-at}
use Rattle.hart_step.proofs.engine.Engine.advance_free.Goals as goal

pub returns-clause-value : goal.returns-clause-value
returns-clause-value c =
    let s = c.args.self.now.state in
    ap named (act_of-at s c.args.hart c.act-act.result c.act-act.ensures.value) ∙ c.make.ensures.value

pub returns-clause-after : goal.returns-clause-after
returns-clause-after c = λ ordinary. c.make.ensures.after ∙ next-at c.args.self.now.state c.args.hart c.act-act.result c.act-act.ensures.value
