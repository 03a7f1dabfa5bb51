use Rattle.std.proofs.Common.{◌≡◌, ℕ, [], drop, ap, ◌∙◌, OnOk, OnErr, Result, Ok, Err}
use Rattle.undo_log.specs.Noted.{Noted}
use Rattle.undo_log.specs.Thin.{uncovered}
use Rattle.undo_log.specs.Undo.{undone}
use Rattle.guest_memory.specs.Kept.{AddressSpace}
use Rattle.guest_memory.specs.Returning.{put_back}
use Rattle.guest_memory.proofs.Covering.{undone-uncovered}
use Rattle.guest_memory.proofs.thinning.thin.Goals as goal

either : {A E : Type 0} (result : Result A E) (old new : Noted) (from : ℕ) → OnOk result (drop from new.notes ≡ uncovered [] (drop from old.notes)) → OnErr result (new ≡ old)
    → (memory : AddressSpace) → undone put_back (drop from new.notes) memory ≡ undone put_back (drop from old.notes) memory
either (Ok a) old new from thinned same memory = ap (λ notes. undone put_back notes memory) thinned ∙ undone-uncovered (drop from old.notes) memory
either (Err e) old new from thinned same memory = ap (λ log. undone put_back (drop from log.notes) memory) same

pub returns-clause-same : goal.returns-clause-same
returns-clause-same c = either c.thin.result c.args.log.now c.thin.new.self c.args.from c.thin.ensures.ok c.thin.ensures.err
