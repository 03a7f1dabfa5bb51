use Rattle.rv_decode.proofs.rows.atomic.Goals as goal

pub returns-in-2 : goal.returns-in-2
returns-in-2 c = λ w. rw c.in-2.is (c.atomic_word.ensures w)

pub returns-in-3 : goal.returns-in-3
returns-in-3 c = λ w. rw c.in-3.is (c.atomic_double.ensures w)
