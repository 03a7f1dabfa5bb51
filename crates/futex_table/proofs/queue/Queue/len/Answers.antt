use Rattle.std.proofs.Common.{length, ap, sym, ◌∙◌}
use Rattle.futex_table.proofs.Taken.{length-taken}
use Rattle.futex_table.proofs.queue.Queue.len.Goals as goal

pub returns-clause-value : goal.returns-clause-value
returns-clause-value c = sym (length-taken c.self.inside.waiters c.self.inside.count c.self.invariant) ∙ ap length c.self.view_is
