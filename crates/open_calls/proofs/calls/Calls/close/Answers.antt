use Rattle.std.proofs.Common.{◌≡◌, ◌++◌, ◌∷◌, length, ap, sym, ◌∙◌, arith, option_to_list}
use Rattle.run_history.specs.declared.entry.Entry.{Entered}
use Rattle.run_history.specs.HistoryView.{HistoryView}
use Rattle.open_calls.specs.Nest.{Stack, closed_one}
use Rattle.open_calls.specs.Rooms.{turned, level_of, levels, nest_of}
use Rattle.open_calls.proofs.Filling.{popped_nest, popped_room, close_rooms}
use Rattle.open_calls.proofs.calls.Calls.close.Goals as goal

pub join-requires : goal.join-requires
join-requires c =
    let was = c.pop.ensures.items ∙ ap (λ o. c.pop.new.self.items ++ option_to_list o) c.in-Some.is in
    let room = popped_room c.self.inside.acts c.self.inside.top c.self.inside.outers.items c.pop.new.self.items c.in-Some.outer was c.self.invariant.0 in
    let a = room.0 in
    let x = ap (λ (p : HistoryView). length p.entries) c.replace-inner.ensures.value in
    let y = ap (λ (p : HistoryView). p.spare) c.replace-inner.ensures.after in
    record { room = omega (arith, a, x, y) }

pub invariant_of-self : goal.invariant_of-self
invariant_of-self c =
    let was = c.pop.ensures.items ∙ ap (λ o. c.pop.new.self.items ++ option_to_list o) c.in-Some.is in
    let room = popped_room c.self.inside.acts c.self.inside.top c.self.inside.outers.items c.pop.new.self.items c.in-Some.outer was c.self.invariant.0 in
    let inner = c.replace-inner.ensures.value in
    let outer = c.replace-inner.ensures.after in
    let places = c.self.invariant.1 in
    let capacity = c.pop.ensures.capacity in
    let used = c.join.ensures.room in
    let x = ap (λ (p : HistoryView). length p.entries) inner in
    let y = ap (λ (p : HistoryView). p.spare) outer in (
      close_rooms c.self.inside.acts c.self.inside.hart c.self.inside.top c.join.new.outer c.in-Some.outer (turned c.pop.new.self.items) room
          (c.join.ensures.entries ∙ (λ i. (outer i).entries ++ Entered c.self.inside.hart c.in-Some.outer.point ∷ (inner i).entries))
          (omega (arith, used, x, y)),
      omega (arith, places, capacity),
      c.keep_where.ensures.none,
    )

pub returns-in-Some : goal.returns-in-Some
returns-in-Some c =
    let was = c.pop.ensures.items ∙ ap (λ o. c.pop.new.self.items ++ option_to_list o) c.in-Some.is in
    let inner = c.replace-inner.ensures.value in
    let outer = c.replace-inner.ensures.after in
    let h = c.self.inside.hart in
    let entries = c.join.ensures.entries ∙ (λ i. (outer i).entries ++ Entered h c.in-Some.outer.point ∷ (inner i).entries) in
    let is : nest_of c.join.new.outer c.pop.new.self.items ≡ closed_one h (record { outers = level_of c.in-Some.outer ∷ levels (turned c.pop.new.self.items); entries = c.self.inside.top.entries }) =
    λ i. record { outers = levels (turned c.pop.new.self.items); entries = entries i } in
    let nest = is ∙ ap (closed_one h) (sym (popped_nest c.self.inside.top c.self.inside.outers.items c.pop.new.self.items c.in-Some.outer was)) in
    record {
      same = (λ i. record { hart = h; nest = nest i; acts = c.self.inside.acts })
          ∙ ap (λ (s : Stack). record s { nest = closed_one s.hart s.nest }) c.self.view_is;
    }
