use Rattle.std.proofs.Common.{sym}
use Rattle.lone_schedule.proofs.Picking.{chosen_there, none_stuck}
use Rattle.lone_schedule.proofs.run.pick.Goals as goal

pub returns-in-Some-clause-within : goal.returns-in-Some-clause-within
returns-in-Some-clause-within g c = chosen_there c.args.machine.now.state c.args.word c.in-Some.hart (sym c.in-Some.ensures.value)

pub returns-in-None-clause-value : goal.returns-in-None-clause-value
returns-in-None-clause-value g c = λ stuck. absurd (none_stuck c.args.machine.now.state c.args.word c.in-None.ensures.value stuck)
