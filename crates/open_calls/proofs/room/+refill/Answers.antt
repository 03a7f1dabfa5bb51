use Rattle.std.proofs.Common.{◌++◌, ◌∷◌, [], sym, subst}
use Rattle.open_calls.specs.Rooms.{turned, AreRoomier, HasRoom}
use Rattle.open_calls.proofs.Filling.{turned-push, refill_push, roomier_same, on_ok}
use Rattle.open_calls.proofs.room.+refill.Goals as goal

pub returns-in_err-around-in-Some-clause-roomier : goal.returns-in_err-around-in-Some-clause-roomier
returns-in_err-around-in-Some-clause-roomier n c =
    let new = c.make_around.new.outer in
    subst (λ xs. AreRoomier (turned xs) (turned (c.in-Some.further.now ++ new ∷ []))) (sym c.in-Some.ensures.cases.0)
    (refill_push c.in-Some.further.now c.in-Some.further.now c.in-Some.outer.now new c.make_around.ensures.same (roomier_same (turned c.in-Some.further.now)))

pub returns-in_ok-around-in-Some-clause-roomier : goal.returns-in_ok-around-in-Some-clause-roomier
returns-in_ok-around-in-Some-clause-roomier n c =
    let new = c.make_around.new.outer in
    subst (λ xs. AreRoomier (turned xs) (turned (c.refill.new.outers ++ new ∷ []))) (sym c.in-Some.ensures.cases.0)
    (refill_push c.in-Some.further.now c.refill.new.outers c.in-Some.outer.now new c.make_around.ensures.same c.refill.ensures.roomier)

pub returns-in_ok-around-in-Some-clause-room : goal.returns-in_ok-around-in-Some-clause-room
returns-in_ok-around-in-Some-clause-room n c =
    on_ok c.refill.result _ _
    (λ r. subst (HasRoom c.args.entries) (sym (turned-push c.refill.new.outers c.make_around.new.outer)) (
      c.in_ok-around-in-Some.ensures.entries,
      subst (λ x. HasRoom x (turned c.refill.new.outers)) c.in_ok-around-in-Some.ensures.around r,
    ))
    c.refill.ensures.room
