use Rattle.std.proofs.Common.{◌≡◌, ◌∙◌, ◌%◌, ap, slice_index_or, slice_set, subst, sym, Some, arith}
use Rattle.guest_words.specs.HartAct.{inst_at}
use Rattle.hart_step.specs.declared.known.Known.{Known}
use Rattle.hart_step.specs.Table.{place_of, IsPlaced, IsTable}
use Rattle.hart_step.proofs.Placed.{fetched_put, none_of, placed_fetched, still_arrived, still_fault, table_put}
use Rattle.hart_step.proofs.step.learn.Goals as goal

pub returns-then-is_some-clause-still : goal.returns-then-is_some-clause-still
returns-then-is_some-clause-still c _ =
    still_arrived c.args.memory.now c.args.points.now c.args.frames c.args.hart.now c.arrival.result (sym c.arrival.ensures.value) (sym c.if-is_some.ensures)

pub returns-then-hart-eq0-clause-table : goal.returns-then-hart-eq0-clause-table
returns-then-hart-eq0-clause-table c =
    let m = c.args.memory.now.space in
    let points = c.args.points.now in
    let table = c.args.table.now in
    let hart = c.args.hart.now in
    let known : Known = record { inst = (slice_index_or table 4096 _).inst; pc = c.apart_from.result } in
    subst (λ k. IsTable m points (slice_set table k known)) (sym c.place_of.ensures.value)
    (table_put m points table (place_of hart.pc) known c.requires.table (omega arith) (λ same. absurd (c.apart_from.ensures.other same)))

pub returns-then-hart-eq0-clause-placed : goal.returns-then-hart-eq0-clause-placed
returns-then-hart-eq0-clause-placed c _ =
    let m = c.args.memory.now.space in
    let points = c.args.points.now in
    let table = c.args.table.now in
    let hart = c.args.hart.now in
    let first = slice_index_or table 4096 _ in
    let known : Known = record { inst = first.inst; pc = c.apart_from.result } in
    let here : first.pc ≡ hart.pc = c.if-first-hart.true in
    let inst : inst_at m hart.pc ≡ Some first.inst = ap (inst_at m) (sym here) ∙ c.requires.table.first _ (ap (λ n. n % 4) here ∙ c.if-hart-eq0.true) in
    subst (λ k. IsPlaced m points c.args.frames hart (slice_set table k known) (place_of hart.pc)) (sym c.place_of.ensures.value)
    (placed_fetched m points c.args.frames hart _ (sym c.arrival.ensures.value ∙ none_of c.arrival.result c.if-is_some.ensures)
    (fetched_put m hart.pc table known c.requires.table.long inst))

pub returns-in-Ok-clause-placed : goal.returns-in-Ok-clause-placed
returns-in-Ok-clause-placed c _ =
    placed_fetched c.args.memory.now.space c.args.points.now c.args.frames c.args.hart.now c.fetch_at.new.table (sym c.arrival.ensures.value ∙ none_of c.arrival.result c.if-is_some.ensures)
    c.in-Ok.ensures.ok

pub returns-in-Err-clause-still : goal.returns-in-Err-clause-still
returns-in-Err-clause-still c _ =
    still_fault c.args.memory.now c.args.points.now c.args.frames c.args.hart.now c.in-Err.name (sym c.arrival.ensures.value ∙ none_of c.arrival.result c.if-is_some.ensures)
    c.in-Err.ensures.err
