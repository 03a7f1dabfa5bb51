use Rattle.std.proofs.Common.{rules, ◌≤◌, ◌∷◌, [], drop, length, sym, ap, ◌∙◌, arith}
use Rattle.std.proofs.lemmas.List.{drop_all, take_all}
use Rattle.undo_log.specs.Undo.{undone, gone_in}
use Rattle.undo_log.proofs.Putting.{gone_in-push, last_newer, undone-append}
use Rattle.undo_log.proofs.log.put_newer.Given as given
use Rattle.undo_log.proofs.log.put_newer.Goals as goal

pub loop-notes-init : goal.loop-notes-init
loop-notes-init g c = search rules

pub put_note-requires : goal.put_note-requires
put_note-requires g c =
    let more = c.loop-notes-test.true in
    let len = c.len.ensures in
    let whole = c.loop-notes.notes.ok.0 in
    let newer = last_newer c.args.left c.loop-notes.notes.items c.pop.new.self.items c.in-Some.note c.in-Some.ensures.items (omega (arith, more, len, whole)) in
    let all = ap gone_in newer.1 ∙ gone_in-push (drop c.args.left c.pop.new.self.items) c.in-Some.note in
    let had = c.loop-notes.invariant.room in
    record { room = omega (arith, all, had) }

pub loop-notes-preserved-in-Some : goal.loop-notes-preserved-in-Some
loop-notes-preserved-in-Some g c =
    let put_back = g.U.Restore.put_back in
    let left = c.args.left in
    let note = c.in-Some.note in
    let rest = c.pop.new.self.items in
    let more = c.loop-notes-test.true in
    let len = c.len.ensures in
    let whole = c.loop-notes.notes.ok.0 in
    let parts = last_newer left c.loop-notes.notes.items rest note c.in-Some.ensures.items (omega (arith, more, len, whole)) in
    let now = parts.1 in
    record {
      same = ap (undone put_back (drop left rest)) c.put_note.ensures.value
          ∙ sym (undone-append put_back (drop left rest) (note ∷ []) c.loop-notes.into)
          ∙ ap (λ notes. undone put_back notes c.loop-notes.into) (sym now)
          ∙ c.loop-notes.invariant.same;
      older = sym parts.0 ∙ c.loop-notes.invariant.older;
      capacity = c.in-Some.ensures.capacity ∙ c.loop-notes.invariant.capacity;
      room =
          let all = ap gone_in now ∙ gone_in-push (drop left rest) note in
          let had = c.loop-notes.invariant.room in
          let spare = c.put_note.ensures.room in
          omega (arith, all, had, spare);
    }

few : (g : given.Over) (c : goal.After-loop-notes g) → length c.loop-notes.notes.items ≤ c.args.left
few g c =
    let done = c.loop-notes-test.false in
    let len = c.len.ensures in
    let whole = c.loop-notes.notes.ok.0 in
    omega (arith, done, len, whole)

pub returns-clause-value : goal.returns-clause-value
returns-clause-value g c =
    ap (λ notes. undone g.U.Restore.put_back notes c.loop-notes.into) (sym (drop_all c.args.left c.loop-notes.notes.items (few g c)))
    ∙ c.loop-notes.invariant.same

pub returns-clause-notes : goal.returns-clause-notes
returns-clause-notes g c = sym (take_all c.args.left c.loop-notes.notes.items (few g c)) ∙ c.loop-notes.invariant.older
