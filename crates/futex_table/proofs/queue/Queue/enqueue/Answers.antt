use Rattle.std.proofs.Common.{◌∷◌, [], ◌++◌, ap, ◌∙◌}
use Rattle.futex_table.specs.Slots.{has_slot}
use Rattle.futex_table.proofs.Taken.{room, take-enqueued, IsTaken-enqueued}
use Rattle.futex_table.proofs.queue.Queue.enqueue.Goals as goal

pub bounds-self-inside-self-inside : goal.bounds-self-inside-self-inside
bounds-self-inside-self-inside c =
    room c.self.inside.waiters c.self.inside.count c.args.slot c.self.invariant c.requires.below (ap (has_slot c.args.slot) c.self.view_is ∙ c.requires.absent)

pub invariant_of-self : goal.invariant_of-self
invariant_of-self c =
    IsTaken-enqueued c.self.inside.waiters c.self.inside.count c.args.slot c.args.place c.self.invariant c.requires.below (ap (has_slot c.args.slot) c.self.view_is ∙ c.requires.absent)

pub returns : goal.returns
returns c = record {
  value =
      take-enqueued c.self.inside.waiters c.self.inside.count c.args.slot _ c.self.invariant c.requires.below (ap (has_slot c.args.slot) c.self.view_is ∙ c.requires.absent)
      ∙ ap (λ xs. xs ++ (record { slot = c.args.slot; place = c.args.place }) ∷ []) c.self.view_is;
}
