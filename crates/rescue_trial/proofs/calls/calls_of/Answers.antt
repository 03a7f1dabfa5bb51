use Rattle.std.proofs.Common.{◌≡◌, ◌+◌, true, ◌∷◌, [], drop, sym, ap, ◌∙◌, subst, arith}
use Rattle.std.proofs.lemmas.Bool.{and_parts}
use Rattle.std.proofs.lemmas.List.{drop_all, drop_more}
use Rattle.guest_words.specs.State.{State}
use Rattle.run_history.specs.declared.entry.Entry.{Entry}
use Rattle.run_history.specs.After.{after}
use Rattle.run_history.specs.Legal.{legal}
use Rattle.run_history.specs.Run.{is_run}
use Rattle.rescue_trial.specs.Begins.{begins}
use Rattle.rescue_trial.specs.Path.{calls_over}
use Rattle.rescue_trial.proofs.Acts.{calls_over-first, calls_over-none}
use Rattle.rescue_trial.proofs.calls.calls_of.Goals as goal

pub loop-entry-preserved : goal.loop-entry-preserved
loop-entry-preserved c =
    let s = c.loop-entry.plain in
    let h = c.args.hart in
    let f = begins c.args.functions.now in
    let calls = c.loop-entry.calls.items in
    let es = c.args.entries.now in
    let e = c.entry-item.result in
    let rest = drop (c.loop-entry.entry-index + 1) es in
    let so_far = c.loop-entry.invariant in
    let here : drop c.loop-entry.entry-index es ≡ e ∷ rest =
    drop_more es c.loop-entry.entry-index e c.loop-entry-test.true ∙ ap (λ (x : Entry). x ∷ rest) (sym c.entry-item.is) in
    let goes : is_run s (e ∷ rest) ≡ true = ap (is_run s) (sym here) ∙ so_far.0 in
    let made = c.in_ok-plain.ensures in (
      subst (λ (t : State). is_run t rest ≡ true) (sym made.after) (and_parts (legal s e) (is_run (after s e) rest) goes).1,
      ap (λ (t : State). calls_over f h t rest c.make_entry.new.calls.items) made.after
          ∙ ap (calls_over f h (after s e) rest) made.calls
          ∙ sym (calls_over-first f h s e rest calls)
          ∙ sym (ap (λ es. calls_over f h s es calls) here)
          ∙ so_far.1,
    )

pub returns : goal.returns
returns c =
    let s = c.loop-entry.plain in
    let f = begins c.args.functions.now in
    let none : drop c.loop-entry.entry-index c.args.entries.now ≡ [] =
    drop_all c.loop-entry.entry-index c.args.entries.now (omega (arith, c.loop-entry-test.false)) in
    record {
      ok = sym (calls_over-none f c.args.hart s c.loop-entry.calls.items)
          ∙ sym (ap (λ es. calls_over f c.args.hart s es c.loop-entry.calls.items) none)
          ∙ c.loop-entry.invariant.1;
    }
