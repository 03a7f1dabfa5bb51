use Rattle.std.proofs.Common.{List, subst}
use Rattle.hart_step.specs.Registers.{Stretch, IsTextOf}
use Rattle.hart_step.proofs.Texts.{named}
use Rattle.hart_step.proofs.text.Text.inst_at.Goals as goal

pub returns-clause-registers : goal.returns-clause-registers
returns-clause-registers c =
    let m = c.self.invariant.0 in
    named c.args.self.now m c.args.pc c.found_at.result (subst (λ (t : List Stretch). IsTextOf t m) c.self.view_is c.self.invariant.1) c.found_at.ensures.value
