use Rattle.std.proofs.Common.{◌≡◌, ◌+◌, List, ◌∷◌, [], drop, is_some, ap, sym, ◌∙◌, subst, arith}
use Rattle.std.specs.Prelude.{IfSome, Option}
use Rattle.std.proofs.lemmas.List.{drop_all, drop_more}
use Rattle.guest_words.specs.State.{State}
use Rattle.run_history.specs.declared.entry.Entry.{Entry}
use Rattle.run_history.specs.After.{after}
use Rattle.history_file.specs.Starts.{first_illegal}
use Rattle.rescue_audit.proofs.Replaying.{counted, counted-zero, illegal_here, legal_next, legal_past}
use Rattle.rescue_audit.proofs.replay.first_illegal.Goals as goal

pub loop-index-init : goal.loop-index-init
loop-index-init c = counted-zero (first_illegal c.args.start c.args.entries.now)

pub returns-in-None : goal.returns-in-None
returns-in-None c =
    let es = c.args.entries.now in
    let i = c.loop-index.index in
    let s = c.loop-index.plain in
    let e = c.index-entries-index.result in
    let rest = drop (i + 1) es in
    let here : drop i es ≡ e ∷ rest = drop_more es i e c.loop-index-test.true ∙ ap (λ (x : Entry). x ∷ rest) (sym c.index-entries-index.is) in
    let illegal = sym c.in_ok-later.ensures.legal ∙ ap is_some c.in-None.is in
    record { ok = sym (illegal_here i s e rest illegal) ∙ sym (ap (λ (xs : List Entry). counted i (first_illegal s xs)) here) ∙ c.loop-index.invariant }

pub loop-index-preserved : goal.loop-index-preserved
loop-index-preserved c =
    let es = c.args.entries.now in
    let i = c.loop-index.index in
    let s = c.loop-index.plain in
    let e = c.index-entries-index.result in
    let rest = drop (i + 1) es in
    let here : drop i es ≡ e ∷ rest = drop_more es i e c.loop-index-test.true ∙ ap (λ (x : Entry). x ∷ rest) (sym c.index-entries-index.is) in
    let is_legal = sym c.in_ok-later.ensures.legal ∙ ap is_some c.in-Some.is in
    let later : c.in-Some.later ≡ after s e = subst (λ (o : Option State). IfSome o (λ p. p ≡ after s e)) c.in-Some.is c.in_ok-later.ensures.after in
    ap (λ (p : State). counted (i + 1) (first_illegal p rest)) later
    ∙ sym (legal_next i s e rest is_legal)
    ∙ sym (ap (λ (xs : List Entry). counted i (first_illegal s xs)) here)
    ∙ c.loop-index.invariant

pub returns : goal.returns
returns c =
    let es = c.args.entries.now in
    let i = c.loop-index.index in
    let s = c.loop-index.plain in
    let none : drop i es ≡ [] = drop_all i es (omega (arith, c.loop-index-test.false)) in
    record { ok = sym (legal_past i s) ∙ sym (ap (λ (xs : List Entry). counted i (first_illegal s xs)) none) ∙ c.loop-index.invariant }
