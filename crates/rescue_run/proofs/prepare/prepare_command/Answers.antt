use Rattle.std.proofs.Common.{◌∙◌, Err, ap, sym, subst, rules, SFits}
use Rattle.std.specs.Prelude.{ℤ}
use mir.Syntax.{w64}
use Rattle.std.proofs.lemmas.Int.{to_z-of_z}
use Rattle.rescue_run.specs.Prepares.{PreparesCommand}
use Rattle.rescue_run.proofs.Preparing.{prepares_audit, prepares_list, prepares_load, prepares_try, prepares_unknown}
use Rattle.rescue_run.proofs.Shelving.{no_answers}
use Rattle.program_words.specs.declared.word_fault.WordFault.TheVariants.{UnknownCommand}
use Rattle.rescue_run.specs.declared.outcome.Outcome.TheVariants.{Words}
use Rattle.rescue_run.specs.Trying.{TriesFiles}
use Rattle.rescue_run.specs.Words.{loads_by, task_by}
use Rattle.rescue_run.proofs.prepare.prepare_command.Goals as goal
use Rattle.rescue_run.specs.Refusals.{plain}

pub returns-in-List-clause-prepares : goal.returns-in-List-clause-prepares
returns-in-List-clause-prepares g c =
    let old = g.F.Shelf.seen c.args.shelf.now in
    let new = g.F.Shelf.seen c.prepare_list.new.shelf in
    subst (λ k. PreparesCommand k old new c.prepare_list.result) (sym c.in-List.is)
    (prepares_list c.in-List.program old new c.prepare_list.result c.prepare_list.ensures.lists)

pub returns-in-Load-clause-prepares : goal.returns-in-Load-clause-prepares
returns-in-Load-clause-prepares g c =
    let s = g.F.Shelf.seen c.args.shelf.now in
    subst (λ k. PreparesCommand k s s c.prepare_load.result) (sym c.in-Load.is)
    (prepares_load c.in-Load.number s c.prepare_load.result c.prepare_load.ensures.value)

pub returns-in-Audit-clause-prepares : goal.returns-in-Audit-clause-prepares
returns-in-Audit-clause-prepares g c =
    let old = g.F.Shelf.seen c.args.shelf.now in
    let new = g.F.Shelf.seen c.prepare_audit.new.shelf in
    let a = c.in-Audit in
    subst (λ k. PreparesCommand k old new c.prepare_audit.result) (sym a.is)
    (prepares_audit a.points a.history a.program a.input a.out a.err a.ports old new c.prepare_audit.result c.prepare_audit.ensures.audits)

pub returns-in-Try-clause-prepares : goal.returns-in-Try-clause-prepares
returns-in-Try-clause-prepares g c =
    let old = g.F.Shelf.seen c.args.shelf.now in
    let new = g.F.Shelf.seen c.prepare_try.new.shelf in
    let t = c.in-Try in
    let signed : SFits w64 t.returns = search rules in
    let tries = subst (λ (r : ℤ). TriesFiles (record { harts = t.harts; budget = t.budget; seed = t.seed; returns = r }) t.program t.input old new c.prepare_try.result)
    (to_z-of_z w64 t.returns signed) c.prepare_try.ensures.tries in
    subst (λ k. PreparesCommand k old new c.prepare_try.result) (sym t.is)
    (prepares_try t.harts t.budget t.seed t.returns t.program t.input old new c.prepare_try.result tries)

pub returns-in-Help-clause-prepares : goal.returns-in-Help-clause-prepares
returns-in-Help-clause-prepares g c =
    prepares_unknown c.args.command (g.F.Shelf.seen c.args.shelf.now) c.of.result
    (ap (λ k. task_by k no_answers) c.in-Help.is ∙ ap Err (sym c.of.ensures.value)) (ap (λ k. loads_by k no_answers) c.in-Help.is)

pub returns-in-Version-clause-prepares : goal.returns-in-Version-clause-prepares
returns-in-Version-clause-prepares g c =
    prepares_unknown c.args.command (g.F.Shelf.seen c.args.shelf.now) c.of-in-Version.result
    (ap (λ k. task_by k no_answers) c.in-Version.is ∙ ap Err (sym c.of-in-Version.ensures.value)) (ap (λ k. loads_by k no_answers) c.in-Version.is)
