use Rattle.std.proofs.Common.{◌≡◌, ◌++◌, ap, sym, ◌∙◌, subst, rules}
use Rattle.std.specs.Prelude.{OnOk}
use Rattle.std.proofs.lemmas.Result.{on_ok_weaker}
use Rattle.run_history.specs.declared.entry.Entry.{the_lemmas}
use Rattle.history_file.specs.HistoryBytes.{entry_bytes, rescued_bytes}
use Rattle.history_file.specs.Spelled.{IsShallow, InRange, AreInRange}
use Rattle.history_file.proofs.EntryLaws.{called-short, entry_bytes-Rescued, in_range-Rescued, shallow-inside}
use Rattle.history_file.proofs.spelling.+puts.Goals as goal

pub put_entry-put_record-requires : goal.put_entry-put_record-requires
put_entry-put_record-requires t c =
    called-short c.requires.0 c.in-Called.hart c.in-Called.call (subst (IsShallow c.requires.0) c.in-Called.is c.requires.1)

pub put_entry-put_rescued-requires : goal.put_entry-put_rescued-requires
put_entry-put_rescued-requires t c =
    let r = c.in-Rescued in
    let inside = shallow-inside c.requires.0 r.hart r.point r.fault r.inside (subst (IsShallow c.requires.0) r.is c.requires.1) in
    (search (rules, the_lemmas), (rw c.as_slice.ensures inside.few, (inside.room, rw c.as_slice.ensures inside.shallow)))

pub put_entry-returns-in-Rescued-clause-ok : goal.put_entry-returns-in-Rescued-clause-ok
put_entry-returns-in-Rescued-clause-ok t c =
    let r = c.in-Rescued in
    subst (λ bytes. OnOk c.put_rescued.result (c.put_rescued.new.out.items ≡ c.args.out.now.items ++ bytes))
    (ap (rescued_bytes r.hart r.point r.fault) c.as_slice.ensures ∙ sym (ap entry_bytes r.is ∙ entry_bytes-Rescued r.hart r.point r.fault r.inside))
    c.put_rescued.ensures.ok

pub put_entry-returns-in-Rescued-clause-range : goal.put_entry-returns-in-Rescued-clause-range
put_entry-returns-in-Rescued-clause-range t c =
    let r = c.in-Rescued in
    on_ok_weaker c.put_rescued.result
    (λ all. subst InRange (sym r.is) (in_range-Rescued r.hart r.point r.fault r.inside c.put_rescued.ensures.entry c.put_rescued.ensures.pc (subst AreInRange c.as_slice.ensures all)))
    c.put_rescued.ensures.range
