use Rattle.std.proofs.Common.{◌≡◌, length, rules, subst}
use Rattle.rescue_run.specs.Runs.{head_of}
use Rattle.rescue_run.proofs.answers.answer_run.Goals as goal

pub returns-clause-run : goal.returns-clause-run
returns-clause-run g c =
    let ports : c.len.result ≡ length c.args.devices.ports.items = search rules in
    let head = subst (λ n. c.head-head.result ≡ head_of c.args.start.now n) ports c.head-head.ensures.value in
    c.answer_of_run.ensures.run c.args.devices c.run-ran.ensures.runs head

pub returns-clause-same : goal.returns-clause-same
returns-clause-same g c = c.answer_of_run.ensures.same c.args.devices c.run-ran.ensures.runs
