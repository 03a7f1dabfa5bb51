-- What an audit says, by its outcome, and the line that is put.
use Rattle.std.specs.Prelude.{List, None}
use Rattle.edge_ports.specs.End.{End, Came}
use Rattle.rescue_audit.specs.AuditLines.{no_line, yes_line}
use Rattle.rescue_audit.specs.Verdict.{IsAudited, IsNo}
use Rattle.rescue_audit.specs.declared.no.Verdict.{Verdict}
use Rattle.rescue_audit.specs.declared.no.Verdict.TheVariants as verdict
use Rattle.run_history.specs.declared.entry.Entry.{Entry}
use Rattle.rescue_run.specs.declared.outcome.Outcome.{Outcome}
use Rattle.rescue_run.specs.declared.outcome.Outcome.TheVariants.{Report, Audited, AuditNo, Memory}
use Rattle.rescue_run.specs.declared.task.AuditTask.{AuditTask}
use Rattle.rescue_run.specs.Lines.{line_of}
use Rattle.rescue_run.specs.Puts.{IsLost, IsTold, PutsOwn}

-- the file spells one history, it is as it says, and the line of its sums was put
pub record IsYes (audit : AuditTask) (sink sink' : End) : Type 0 where
  pub audited : IsAudited audit.loaded.image audit.loaded.points audit.history audit.files
  pub put : Came sink.given (yes_line audited.es) sink'.given

-- yes; or no, for the first rule that is broken; or the put of either failed, or wanted memory
abbrev pub IsAuditTold : AuditTask → Outcome → End → End → Type 0
IsAuditTold audit Audited sink sink' = IsYes audit sink sink'
IsAuditTold audit (AuditNo refusal) sink sink' =
    IsNo audit.loaded.image audit.loaded.points audit.history audit.files refusal
    × Came sink.given (no_line refusal) sink'.given
IsAuditTold audit (Report None) sink sink' = IsLost sink sink'
IsAuditTold audit Memory sink sink' = IsTold (line_of Memory) sink sink'
IsAuditTold audit _ sink sink' = ⊥

-- what the put of a verdict comes to
abbrev pub PutsVerdict : Verdict → List Entry → Outcome → End → End → Type 0
PutsVerdict verdict.Yes entries result old new = PutsOwn (yes_line entries) Audited result old new
PutsVerdict (verdict.No refusal) entries result old new =
    PutsOwn (no_line refusal) (AuditNo refusal) result old new
