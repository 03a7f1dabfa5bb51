use Rattle.rescue_run.proofs.tops.answer.Goals as goal

pub returns-in-Ok-List-clause-comes : goal.returns-in-Ok-List-clause-comes
returns-in-Ok-List-clause-comes g c = rw (c.in-Ok-List.is, c.in-Ok-List.field-0-is) (c.answer_list.ensures.listing (g.F.Shelf.seen c.args.shelf.now))

pub returns-in-Ok-Load-clause-comes : goal.returns-in-Ok-Load-clause-comes
returns-in-Ok-Load-clause-comes g c = rw (c.in-Ok-Load.is, c.in-Ok-Load.field-0-is) (c.answer_load.ensures.run (g.F.Shelf.seen c.args.shelf.now))

pub returns-in-Ok-Try-clause-comes : goal.returns-in-Ok-Try-clause-comes
returns-in-Ok-Try-clause-comes g c = rw (c.in-Ok-Try.is, c.in-Ok-Try.field-0-is) (c.answer_try.ensures.trials (g.F.Shelf.seen c.args.shelf.now))

pub returns-in-Ok-Audit-clause-comes : goal.returns-in-Ok-Audit-clause-comes
returns-in-Ok-Audit-clause-comes g c = rw (c.in-Ok-Audit.is, c.in-Ok-Audit.field-0-is) (c.answer_audit.ensures.audit (g.F.Shelf.seen c.args.shelf.now))
