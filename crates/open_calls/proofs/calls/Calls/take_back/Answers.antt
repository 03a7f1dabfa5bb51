use Rattle.std.proofs.Common.{◌++◌, ◌∷◌, ap, sym, ◌∙◌, subst, length, option_to_list, arith}
use Rattle.run_history.specs.HistoryView.{HistoryView}
use Rattle.open_calls.specs.Nest.{Stack}
use Rattle.open_calls.specs.Rooms.{turned, levels, Rooms}
use Rattle.open_calls.proofs.Filling.{popped_nest, popped_room, take_rooms}
use Rattle.open_calls.proofs.calls.Calls.take_back.Goals as goal

pub invariant_of-self : goal.invariant_of-self
invariant_of-self c =
    let was = c.pop.ensures.items ∙ ap (λ o. c.pop.new.self.items ++ option_to_list o) c.in-Some.is in
    let room = popped_room c.self.inside.acts c.self.inside.top c.self.inside.outers.items c.pop.new.self.items c.in-Some.outer was c.self.invariant.0 in
    let acts = c.with_those_of_call-self-inside.result in
    let few = c.with_those_of_call-self-inside.ensures.within in
    let whole = ap length c.items.ensures.list ∙ ap (λ (p : HistoryView). length p.entries) c.replace-inside.ensures.value in
    let places = c.self.invariant.1 in
    let capacity = c.pop.ensures.capacity in (
      subst (λ (p : HistoryView). Rooms acts p (turned c.pop.new.self.items)) (sym c.replace-inside.ensures.after)
          (take_rooms c.self.inside.acts acts c.self.inside.top c.in-Some.outer (turned c.pop.new.self.items) (omega (arith, few, whole)) room),
      omega (arith, places, capacity),
      c.self.invariant.2,
    )

pub returns-clause-was : goal.returns-clause-was
returns-clause-was c =
    let was = c.pop.ensures.items ∙ ap (λ o. c.pop.new.self.items ++ option_to_list o) c.in-Some.is in
    let inner = sym c.replace-inside.ensures.value in
    let outer = sym c.replace-inside.ensures.after in
    ap (λ (s : Stack). s.nest) (sym c.self.view_is)
    ∙ popped_nest c.self.inside.top c.self.inside.outers.items c.pop.new.self.items c.in-Some.outer was
    ∙ (λ i. record {
      outers = record { entries = (outer i).entries; mark = c.in-Some.outer.mark; point = c.in-Some.outer.point; kept = c.in-Some.outer.kept } ∷ levels (turned c.pop.new.self.items);
      entries = (inner i).entries;
    })
