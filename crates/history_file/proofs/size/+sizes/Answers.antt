use Rattle.std.proofs.Common.{◌≡◌, ap, ◌∙◌, subst, length, arith}
use Rattle.std.specs.Prelude.{IfOk}
use Rattle.history_file.specs.HistoryBytes.{entry_bytes, entries_bytes}
use Rattle.history_file.proofs.EntryLaws.{entry_bytes-Rescued}
use Rattle.history_file.proofs.Lengths.{rescued_length}
use Rattle.history_file.proofs.size.+sizes.Goals as goal

pub size_of-returns-in_ok-size_of_all-in-Rescued : goal.size_of-returns-in_ok-size_of_all-in-Rescued
size_of-returns-in_ok-size_of_all-in-Rescued t c =
    let r = c.in-Rescued in
    let spelled = ap (λ e. length (entry_bytes e)) r.is ∙ ap length (entry_bytes-Rescued r.hart r.point r.fault r.inside) ∙ rescued_length r.hart r.point r.fault r.inside in
    let inside = c.in_ok-size_of_all-in-Rescued.ensures.ok in
    let same = ap (λ es. length (entries_bytes es)) c.as_slice.ensures in
    record { ok = subst (λ n. IfOk c.sum-in-Rescued.result (λ size. size ≡ n)) (omega (arith, spelled, inside, same)) c.sum-in-Rescued.ensures.ok }
