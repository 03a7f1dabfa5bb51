use Rattle.std.proofs.lemmas.Result.{err_from_is_err_and}
use Rattle.history_file.specs.Reading.{entries_by, entry_at}
use Rattle.history_file.proofs.Loop.{goes_on, ends, is_done}
use Rattle.history_file.proofs.entries.+entries.Goals as goal

pub entries_at-returns-in_err-entry : goal.entries_at-returns-in_err-entry
entries_at-returns-in_err-entry t c =
    let p = err_from_is_err_and c.from_residual-in_err-entry.result c.from_residual-in_err-entry.ensures.1 in
    rw (p.1, p.2) (ends c.in_err-entry.field-0.0 (entry_at c.args.room) c.loop.entries.items c.args.count c.loop.counter c.loop.rest.now (entries_by (entry_at c.args.room) c.args.count c.args.bytes.now) c.loop-test.true c.in_err-entry.ensures c.loop.invariant)

pub entries_at-loop-preserved : goal.entries_at-loop-preserved
entries_at-loop-preserved t c =
    rw c.in_ok-push.ensures.items
    (goes_on (entry_at c.args.room) c.loop.entries.items c.args.count c.loop.counter c.loop.rest.now c.in_ok-entry.entry c.in_ok-entry.behind.now (entries_by (entry_at c.args.room) c.args.count c.args.bytes.now) c.loop-test.true c.in_ok-entry.ensures c.loop.invariant)

pub entries_at-returns : goal.entries_at-returns
entries_at-returns t c = is_done (entry_at c.args.room) c.loop.entries.items c.args.count c.loop.counter c.loop.rest.now (entries_by (entry_at c.args.room) c.args.count c.args.bytes.now) c.loop-test.false c.loop.invariant
