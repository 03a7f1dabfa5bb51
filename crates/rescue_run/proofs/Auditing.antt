-- What an audit comes to, by what its put came to.
use Rattle.std.proofs.Common.{◌≡◌, inl, inr, ℕ, Bool, true, false, if◌then◌else◌, ◌==◌, List, length, Option, Some, None, refl, sym, subst}
use Rattle.std.specs.Prelude.{option_map}
use Rattle.std.specs.Option.{option_or}
use Rattle.edge_ports.specs.End.{End}
use Rattle.history_file.specs.declared.file_fault.FileKind.{FileKind}
use Rattle.history_file.specs.declared.head.Head.{Head}
use Rattle.history_file.specs.Spelled.{IsHistoryFile}
use Rattle.history_file.specs.Starts.{first_illegal, start_by}
use Rattle.run_history.specs.declared.entry.Entry.{Entry}
use Rattle.rescue_audit.specs.AuditLines.{no_line, yes_line}
use Rattle.rescue_audit.specs.Verdict.{first_no, has_end, verdict_by, verdict_of, IsAudited, IsNo}
use Rattle.rescue_audit.specs.Matches.{first_unmatched}
use Rattle.rescue_audit.proofs.Verdicts.{as_said}
use Rattle.run_history.specs.Counts.{records_of_all}
use Rattle.rescue_audit.specs.declared.no.No.{No}
use Rattle.rescue_audit.specs.declared.no.No.TheVariants.{File, Ports, Entry as EntryNo, Unended, Device}
use Rattle.rescue_run.specs.declared.outcome.Outcome.{Outcome}
use Rattle.rescue_run.specs.declared.outcome.Outcome.TheVariants.{Audited, AuditNo, Memory}
use Rattle.rescue_run.specs.declared.task.AuditTask.{AuditTask}
use Rattle.rescue_run.specs.Audits.{IsAuditTold, PutsVerdict}
use Rattle.rescue_audit.specs.declared.no.Verdict.{Verdict}
use Rattle.rescue_audit.specs.declared.no.Verdict.TheVariants as verdict
use Rattle.rescue_run.specs.Lines.{line_of}
use Rattle.rescue_run.specs.Puts.{IsTold, PutsOwn}

pub yes_told : (audit : AuditTask) (audited : IsAudited audit.loaded.image audit.loaded.points audit.history audit.files) (result : Outcome) (old new : End)
    → PutsOwn (yes_line audited.es) Audited result old new → IsAuditTold audit result old new
yes_told audit audited result old new (inl put) =
    subst (λ (o : Outcome). IsAuditTold audit o old new) (sym put.0) (record { audited = audited; put = put.1 })
yes_told audit audited result old new (inr (inl lost)) = subst (λ (o : Outcome). IsAuditTold audit o old new) (sym lost.0) lost.1
yes_told audit audited result old new (inr (inr wants)) = subst (λ (o : Outcome). IsAuditTold audit o old new) (sym wants.0) wants.1

pub no_told : (audit : AuditTask) (refusal : No) → IsNo audit.loaded.image audit.loaded.points audit.history audit.files refusal → (result : Outcome) (old new : End)
    → PutsOwn (no_line refusal) (AuditNo refusal) result old new → IsAuditTold audit result old new
no_told audit refusal is result old new (inl put) =
    subst (λ (o : Outcome). IsAuditTold audit o old new) (sym put.0) (is, put.1)
no_told audit refusal is result old new (inr (inl lost)) = subst (λ (o : Outcome). IsAuditTold audit o old new) (sym lost.0) lost.1
no_told audit refusal is result old new (inr (inr wants)) = subst (λ (o : Outcome). IsAuditTold audit o old new) (sym wants.0) wants.1

-- no rule on a history is that of its file
never_file : (b c : Bool) (n k : ℕ) (o p : Option ℕ) (fault : FileKind) (offset : ℕ)
    → option_or (if b then None else Some (Ports n k)) (option_or (option_map EntryNo o) (option_or (if c then None else Some Unended) (option_map Device p)))
    ≡ Some (File fault offset) → ⊥
never_file false c n k o p fault offset is = cc
never_file true c n k (Some i) p fault offset is = cc
never_file true false n k None p fault offset is = cc
never_file true true n k None (Some i) fault offset is = cc
never_file true true n k None None fault offset is = cc

abbrev finds : AuditTask → Head → List Entry → Option No
finds audit head es = first_no (start_by audit.loaded.image audit.loaded.points head) head.ports es audit.files

refused_for : (audit : AuditTask) (head : Head) (es : List Entry) (refusal : No) → IsHistoryFile audit.history head es → finds audit head es ≡ Some refusal
    → IsNo audit.loaded.image audit.loaded.points audit.history audit.files refusal
refused_for audit head es (File fault offset) spells is =
    absurd (never_file (length audit.files.ports == head.ports) (has_end es) (length audit.files.ports) head.ports
    (first_illegal (start_by audit.loaded.image audit.loaded.points head) es) (first_unmatched audit.files (records_of_all es)) fault offset is)
refused_for audit head es (Ports named kept) spells is = record { head = head; es = es; spells = spells; first = is }
refused_for audit head es (EntryNo index) spells is = record { head = head; es = es; spells = spells; first = is }
refused_for audit head es Unended spells is = record { head = head; es = es; spells = spells; first = is }
refused_for audit head es (Device number) spells is = record { head = head; es = es; spells = spells; first = is }

found_told : (audit : AuditTask) (head : Head) (es : List Entry) (found : Option No) (result : Outcome) (old new : End) → IsHistoryFile audit.history head es
    → finds audit head es ≡ found → PutsVerdict (verdict_by found) es result old new → IsAuditTold audit result old new
found_told audit head es None result old new spells is puts =
    yes_told audit (record { head = head; es = es; spells = spells; as_said = as_said audit.loaded.image audit.loaded.points head es audit.files is }) result old new puts
found_told audit head es (Some refusal) result old new spells is puts =
    no_told audit refusal (refused_for audit head es refusal spells is) result old new puts

pub verdict_told : (audit : AuditTask) (head : Head) (es : List Entry) (result : Outcome) (old new : End) → IsHistoryFile audit.history head es
    → PutsVerdict (verdict_of audit.loaded.image audit.loaded.points head es audit.files) es result old new → IsAuditTold audit result old new
verdict_told audit head es result old new spells puts = found_told audit head es (finds audit head es) result old new spells refl puts

-- memory was wanting for the verdict
pub verdict_wants : (v : Verdict) (es : List Entry) (result : Outcome) (old new : End) → result ≡ Memory → IsTold (line_of Memory) old new → PutsVerdict v es result old new
verdict_wants verdict.Yes es result old new is told = inr (inr (is, told))
verdict_wants (verdict.No refusal) es result old new is told = inr (inr (is, told))
