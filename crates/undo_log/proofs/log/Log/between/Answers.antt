use Rattle.std.proofs.Common.{◌-◌, drop, min, take, ap, ◌∙◌}
use Rattle.undo_log.specs.Noted.{Noted}
use Rattle.undo_log.proofs.Putting.{taken_between}
use Rattle.undo_log.proofs.log.Log.between.Goals as goal

pub returns : goal.returns
returns c =
    let ns = c.args.self.now.notes in
    let lent = c.deref.ensures.value ∙ ap (λ (log : Noted). log.notes) c.self.view_is in
    record {
      value = ap (λ xs. take (c.min-to.result - c.min-from.result) (drop c.min-from.result xs)) lent
          ∙ taken_between c.args.from c.args.to c.min-to.result c.min-from.result ns (c.min-to.ensures ∙ ap (λ n. min c.args.to n) c.length.ensures.value) c.min-from.ensures;
    }
