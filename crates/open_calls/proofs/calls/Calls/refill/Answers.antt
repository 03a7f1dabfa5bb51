use Rattle.std.proofs.Common.{List, ap, sym, ◌∙◌, subst, arith}
use Rattle.std.proofs.lemmas.List.{with_items_is}
use Rattle.open_calls.specs.declared.outer.Outer.{Outer}
use Rattle.open_calls.specs.Nest.{Stack}
use Rattle.open_calls.specs.Rooms.{turned, levels, Rooms, AreRoomier}
use Rattle.open_calls.proofs.Filling.{levels-roomier, rooms_roomier, turned_length}
use Rattle.open_calls.proofs.calls.Calls.refill.Goals as goal

pub invariant_of-self-in_err-refill : goal.invariant_of-self-in_err-refill
invariant_of-self-in_err-refill c =
    let old = subst (λ (xs : List Outer). AreRoomier (turned xs) (turned c.refill.new.outers)) c.as_mut_slice.ensures.value c.refill.ensures.roomier in
    let long = turned_length c.self.inside.outers.items c.refill.new.outers old in
    let whole = c.self.inside.outers.ok.0 in
    let is = with_items_is c.self.inside.outers c.refill.new.outers (omega (arith, long, whole)) in (
      subst (λ (xs : List Outer). Rooms c.self.inside.acts c.make_in.new.list (turned xs)) (sym is)
          (rooms_roomier c.self.inside.acts c.self.inside.top c.make_in.new.list (turned c.self.inside.outers.items) (turned c.refill.new.outers) c.make_in.ensures.same old c.self.invariant.0),
      c.self.invariant.1,
      c.self.invariant.2,
    )

pub returns-in_err-refill-clause-nest : goal.returns-in_err-refill-clause-nest
returns-in_err-refill-clause-nest c =
    let old = subst (λ (xs : List Outer). AreRoomier (turned xs) (turned c.refill.new.outers)) c.as_mut_slice.ensures.value c.refill.ensures.roomier in
    let long = turned_length c.self.inside.outers.items c.refill.new.outers old in
    let whole = c.self.inside.outers.ok.0 in
    let is = with_items_is c.self.inside.outers c.refill.new.outers (omega (arith, long, whole)) in
    (λ i. record { outers = levels (turned (is i)); entries = c.make_in.ensures.same.entries i })
    ∙ (λ i. record { outers = levels-roomier (turned c.self.inside.outers.items) (turned c.refill.new.outers) old i; entries = c.self.inside.top.entries })
    ∙ ap (λ (s : Stack). s.nest) c.self.view_is

pub returns-clause-nest : goal.returns-clause-nest
returns-clause-nest c =
    let old = subst (λ (xs : List Outer). AreRoomier (turned xs) (turned c.refill.new.outers)) c.as_mut_slice.ensures.value c.refill.ensures.roomier in
    let long = turned_length c.self.inside.outers.items c.refill.new.outers old in
    let whole = c.self.inside.outers.ok.0 in
    let is = with_items_is c.self.inside.outers c.refill.new.outers (omega (arith, long, whole)) in
    (λ i. record { outers = levels (turned (is i)); entries = c.make_in.ensures.same.entries i })
    ∙ (λ i. record { outers = levels-roomier (turned c.self.inside.outers.items) (turned c.refill.new.outers) old i; entries = c.self.inside.top.entries })
    ∙ ap (λ (s : Stack). s.nest) c.self.view_is
