use Rattle.std.proofs.Common.{Err, sym, subst, ◌∙◌}
use Rattle.rescue_run.specs.Prepares.{Prepares}
use Rattle.rescue_run.specs.declared.refusal.Refusal.{Refusal}
use Rattle.program_words.specs.Words.{texts}
use Rattle.rescue_run.proofs.Preparing.{prepares_fault, prepares_threads}
use Rattle.rescue_run.proofs.prepare.prepare.Goals as goal

pub returns-then-lacks_threads-clause-prepares : goal.returns-then-lacks_threads-clause-prepares
returns-then-lacks_threads-clause-prepares g c =
    let s = g.F.Shelf.seen c.args.shelf.now in
    subst (λ (r : Refusal). Prepares c.args.threads (texts c.args.words.now) c.args.handed s s (Err r)) (sym c.of.ensures.value)
    (prepares_threads c.args.threads (texts c.args.words.now) c.args.handed s (sym c.lacks_threads.ensures.value ∙ c.if-lacks_threads.true))

pub returns-in-Err-clause-prepares : goal.returns-in-Err-clause-prepares
returns-in-Err-clause-prepares g c =
    prepares_fault c.args.threads (texts c.args.words.now) c.args.handed (g.F.Shelf.seen c.args.shelf.now) c.in-Err.fault c.refusal.result c.refusal.ensures.value
    (sym c.lacks_threads.ensures.value ∙ c.if-lacks_threads.false) c.in-Err.ensures.cause
