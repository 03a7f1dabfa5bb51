use Rattle.std.proofs.Common.{◌≡◌, ◌∙◌, ◌+◌, ◌-◌, sym, ap, arith, length}
use Rattle.std.specs.Option.{is_none}
use Rattle.undo_log.specs.Noted.{Noted}
use Rattle.guest_memory.proofs.Noted.{notes_both, notes_none}
use Rattle.hart_step.specs.InARow.{lone, stays_open}
use Rattle.hart_step.proofs.InARow.{after_none, go_none, open_none, step_more, go_more, open_more}
use Rattle.hart_step.proofs.quantum.run.Goals as goal

pub loop-count-init : goal.loop-count-init
loop-count-init c =
    let points = c.args.points.now in
    let s = lone c.args.hart.now c.args.memory.now in (
      c.requires.table,
      c.requires.zero,
      go_none points c.args.frames s,
      after_none points c.args.frames s,
      open_none points c.args.frames c.args.top.now s,
      notes_none c.args.noted c.args.log.now.notes c.args.memory.now,
      omega arith,
      omega arith,
    )

pub returns-then-is_closed-clause-row : goal.returns-then-is_closed-clause-row
returns-then-is_closed-clause-row c =
    let points = c.args.points.now in
    let frames = c.args.frames in
    let s = lone c.args.hart.now c.args.memory.now in
    let now = lone c.loop-count.hart c.loop-count.memory in
    let next = lone c.go.new.hart c.go.new.memory in
    let n = c.loop-count.count in
    let so_far = c.loop-count.invariant in
    let less : n + 1 - 1 ≡ n = omega arith in
    record {
      goes = go_more points frames n s now so_far.3 so_far.2 (sym c.go.ensures.goes ∙ ap is_none c.in_default.is);
      after = step_more points frames n s now next so_far.3 c.go.ensures.after;
      stays = λ never. cc;
      closes = λ _. record {
        some = omega arith;
        stays = ap (λ k. stays_open points frames c.args.top.now k s) less ∙ so_far.4;
        over = sym c.is_closed.ensures.value ∙ c.if-is_closed.true;
      };
    }

pub returns-then-is_closed-clause-notes : goal.returns-then-is_closed-clause-notes
returns-then-is_closed-clause-notes c =
    notes_both c.args.noted c.args.log.now.notes c.loop-count.log.notes c.go.new.log.notes c.args.memory.now c.loop-count.memory c.go.new.memory c.loop-count.invariant.5 c.go.ensures.notes

pub loop-count-preserved : goal.loop-count-preserved
loop-count-preserved c =
    let points = c.args.points.now in
    let frames = c.args.frames in
    let top = c.args.top.now in
    let s = lone c.args.hart.now c.args.memory.now in
    let now = lone c.loop-count.hart c.loop-count.memory in
    let next = lone c.go.new.hart c.go.new.memory in
    let n = c.loop-count.count in
    let so_far = c.loop-count.invariant in
    let after = step_more points frames n s now next so_far.3 c.go.ensures.after in (
      c.go.ensures.table,
      c.go.ensures.zero,
      go_more points frames n s now so_far.3 so_far.2 (sym c.go.ensures.goes ∙ ap is_none c.in_default.is),
      after,
      open_more points frames top n s next after so_far.4 (sym c.is_closed.ensures.value ∙ c.if-is_closed.false),
      notes_both c.args.noted c.args.log.now.notes c.loop-count.log.notes c.go.new.log.notes c.args.memory.now c.loop-count.memory c.go.new.memory so_far.5 c.go.ensures.notes,
      let room = so_far.6 in
          let spare = c.go.ensures.spare in
          omega (arith, room, spare),
      let few = so_far.7 in
          let one = c.go.ensures.few in
          omega (arith, few, one),
    )

pub go-requires-clause-room : goal.go-requires-clause-room
go-requires-clause-room c = λ under.
    let room = c.requires.room under in
    let spare = c.loop-count.invariant.6 in
    omega (arith, room, spare, c.loop-count-test.true)

pub returns-in-Some-clause-few : goal.returns-in-Some-clause-few
returns-in-Some-clause-few c =
    let same = ap (λ (l : Noted). length l.notes) c.in-Some.ensures.kept in
    let few = c.loop-count.invariant.7 in
    omega (arith, same, few)

pub returns-in-Some-clause-spare : goal.returns-in-Some-clause-spare
returns-in-Some-clause-spare c =
    let same = ap (λ (l : Noted). l.spare) c.in-Some.ensures.kept in
    let room = c.loop-count.invariant.6 in
    omega (arith, same, room)
