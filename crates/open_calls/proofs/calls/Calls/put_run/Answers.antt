use Rattle.std.proofs.Common.{◌<◌, ap, sym, subst, length, arith}
use Rattle.open_calls.specs.Nest.{Stack}
use Rattle.open_calls.specs.Rooms.{turned}
use Rattle.run_history.proofs.LastEntries.{length-with_acts}
use Rattle.open_calls.proofs.Filling.{put_rooms}
use Rattle.open_calls.proofs.calls.Calls.put_run.Goals as goal

pub invariant_of-self : goal.invariant_of-self
invariant_of-self c =
    let top = c.self.inside.top in
    let acts = subst (λ (s : Stack). 0 < s.acts) (sym c.self.view_is) c.requires.acts in
    let e = ap length c.put_acts.ensures.entries in
    let more = length-with_acts c.self.inside.hart c.args.count top.entries in (
      put_rooms c.self.inside.acts top c.put_acts.new.self (turned c.self.inside.outers.items) c.self.invariant.0 acts
          (omega (arith, e, more)) c.put_acts.ensures.room,
      c.self.invariant.1,
      c.self.invariant.2,
    )
