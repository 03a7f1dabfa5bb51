use Rattle.std.proofs.Common.{◌≡◌, ◌+◌, List, [], ◌∷◌, drop, refl, ap, sym, ◌∙◌, arith}
use Rattle.std.proofs.lemmas.List.{drop_all, drop_more}
use Rattle.guest_words.specs.declared.record.Record.{Record}
use Rattle.edge_ports.specs.DevicesMatch.{records_at}
use Rattle.run_history.specs.declared.entry.Entry.{Entry}
use Rattle.run_history.specs.Counts.{records_of, records_of_all}
use Rattle.run_history.proofs.Insides.{records_of-Rescued}
use Rattle.rescue_audit.specs.Walk.{left_after, left_behind}
use Rattle.rescue_audit.proofs.Walking.{called_here, called_there, left_after-next, left_after-none}
use Rattle.rescue_audit.proofs.walk.+walk.Goals as goal

pub left_after-returns-then-call-fd : goal.left_after-returns-then-call-fd
left_after-returns-then-call-fd t c =
    let side = c.args.side in
    let left = c.args.left.now in
    let fd = c.args.fd in
    record {
      value = c.left_by.ensures.value
          ∙ sym (ap (λ (e : Entry). left_after side left (records_at fd (records_of e))) c.in-Called.is
          ∙ called_here side left fd c.in-Called.hart c.in-Called.call c.if-call-fd.true);
    }

pub left_after-returns-else-call-fd : goal.left_after-returns-else-call-fd
left_after-returns-else-call-fd t c =
    let side = c.args.side in
    let left = c.args.left.now in
    let fd = c.args.fd in
    record {
      value = sym (ap (λ (e : Entry). left_after side left (records_at fd (records_of e))) c.in-Called.is
          ∙ called_there side left fd c.in-Called.hart c.in-Called.call c.if-call-fd.false);
    }

pub left_after-returns-in-Rescued : goal.left_after-returns-in-Rescued
left_after-returns-in-Rescued t c =
    let r = c.in-Rescued in
    let side = c.args.side in
    let left = c.args.left.now in
    let fd = c.args.fd in
    record {
      value = c.left_after_all.ensures.value
          ∙ ap (λ (es : List Entry). left_after side left (records_at fd (records_of_all es))) c.as_slice.ensures
          ∙ sym (ap (λ (e : Entry). left_after side left (records_at fd (records_of e))) r.is
          ∙ ap (λ (rs : List Record). left_after side left (records_at fd rs)) (records_of-Rescued r.hart r.point r.fault r.inside));
    }

pub left_after_all-loop-entry-init : goal.left_after_all-loop-entry-init
left_after_all-loop-entry-init t c = refl

pub left_after_all-returns-in-None : goal.left_after_all-returns-in-None
left_after_all-returns-in-None t c =
    let side = c.args.side in
    let fd = c.args.fd in
    let es = c.args.entries.now in
    let i = c.loop-entry.entry-index in
    let left = c.loop-entry.left.now in
    let e = c.entry-item.result in
    let rest = drop (i + 1) es in
    let here : drop i es ≡ e ∷ rest = drop_more es i e c.loop-entry-test.true ∙ ap (λ (x : Entry). x ∷ rest) (sym c.entry-item.is) in
    record {
      value = ap (left_behind (λ x. left_after side x (records_at fd (records_of_all rest)))) c.in-None.ensures.value
          ∙ sym (left_after-next side fd left e rest)
          ∙ sym (ap (λ (xs : List Entry). left_after side left (records_at fd (records_of_all xs))) here)
          ∙ c.loop-entry.invariant;
    }

pub left_after_all-loop-entry-preserved : goal.left_after_all-loop-entry-preserved
left_after_all-loop-entry-preserved t c =
    let side = c.args.side in
    let fd = c.args.fd in
    let es = c.args.entries.now in
    let i = c.loop-entry.entry-index in
    let left = c.loop-entry.left.now in
    let e = c.entry-item.result in
    let rest = drop (i + 1) es in
    let here : drop i es ≡ e ∷ rest = drop_more es i e c.loop-entry-test.true ∙ ap (λ (x : Entry). x ∷ rest) (sym c.entry-item.is) in
    ap (left_behind (λ x. left_after side x (records_at fd (records_of_all rest)))) c.in-Some.ensures.value
    ∙ sym (left_after-next side fd left e rest)
    ∙ sym (ap (λ (xs : List Entry). left_after side left (records_at fd (records_of_all xs))) here)
    ∙ c.loop-entry.invariant

pub left_after_all-returns : goal.left_after_all-returns
left_after_all-returns t c =
    let side = c.args.side in
    let fd = c.args.fd in
    let es = c.args.entries.now in
    let i = c.loop-entry.entry-index in
    let left = c.loop-entry.left.now in
    let none : drop i es ≡ [] = drop_all i es (omega (arith, c.loop-entry-test.false)) in
    record {
      value = sym (left_after-none side left)
          ∙ sym (ap (λ (xs : List Entry). left_after side left (records_at fd (records_of_all xs))) none)
          ∙ c.loop-entry.invariant;
    }
