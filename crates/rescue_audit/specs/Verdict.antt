-- What an audit says: the first rule that a history breaks, or yes.
use Rattle.std.specs.Prelude.{◌≡◌, ℕ, ◌-◌, slice_get, ◌==◌, Bool, true, false, List, length, Option, Some, None, Err, option_map, if◌then◌else◌}
use Rattle.std.specs.Option.{option_or}
use Rattle.guest_words.specs.declared.image.Image.{Image}
use Rattle.guest_words.specs.declared.point.Point.{Point}
use Rattle.guest_words.specs.State.{State}
use Rattle.run_history.specs.declared.entry.Entry.{Entry}
use Rattle.run_history.specs.Counts.{records_of_all}
use Rattle.run_history.specs.Run.{is_ended, IsRun}
use Rattle.history_file.specs.declared.head.Head.{Head}
use Rattle.history_file.specs.Reading.{read_of}
use Rattle.history_file.specs.Spelled.{IsHistoryFile}
use Rattle.history_file.specs.Starts.{first_illegal, start_by}
use Rattle.rescue_audit.specs.declared.files.AuditFiles.{AuditFiles}
use Rattle.rescue_audit.specs.declared.no.No.{No}
use Rattle.rescue_audit.specs.declared.no.No.TheVariants.{File, Ports, Entry as EntryNo, Unended, Device}
use Rattle.rescue_audit.specs.declared.no.Verdict.{Verdict}
use Rattle.rescue_audit.specs.declared.no.Verdict.TheVariants as verdict
use Rattle.rescue_audit.specs.Matches.{first_unmatched, MatchesFiles}

-- there is an entry, and it ends the run
abbrev pub is_end : Option Entry → Bool
is_end None = false
is_end (Some e) = is_ended e

-- the last entry ends the run
abbrev pub has_end : List Entry → Bool
has_end es = is_end (slice_get es (length es - 1))

abbrev pub ports_no : ℕ → ℕ → Option No
ports_no named kept = if named == kept then None else Some (Ports named kept)

abbrev pub end_no : List Entry → Option No
end_no es = if has_end es then None else Some Unended

-- what a history breaks first, by the rules in their order
abbrev pub first_no : State → ℕ → List Entry → AuditFiles → Option No
first_no start kept es files =
    option_or (ports_no (length files.ports) kept)
    (option_or (option_map EntryNo (first_illegal start es))
    (option_or (end_no es) (option_map Device (first_unmatched files (records_of_all es)))))

abbrev pub verdict_by : Option No → Verdict
verdict_by None = verdict.Yes
verdict_by (Some refusal) = verdict.No refusal

-- what an audit of a head and a history says
abbrev pub verdict_of : Image → List Point → Head → List Entry → AuditFiles → Verdict
verdict_of image points head es files =
    verdict_by (first_no (start_by image points head) head.ports es files)

-- yes: the history is a run from the start that the head makes of an image and points, its last
-- entry alone ends it, and the files are those of its devices
pub record IsAsSaid (image : Image) (points : List Point) (head : Head) (es : List Entry)
    (files : AuditFiles) : Type 0 where
  pub ports : length files.ports ≡ head.ports
  pub run : IsRun (start_by image points head) es
  pub ends : has_end es ≡ true
  pub matches : MatchesFiles (records_of_all es) files

-- yes, of the bytes of a history file: they spell one history, and it is as it says
pub record IsAudited (image : Image) (points : List Point) (bytes : List ℕ) (files : AuditFiles)
    : Type 0 where
  pub head : Head
  pub es : List Entry
  pub spells : IsHistoryFile bytes head es
  pub as_said : IsAsSaid image points head es files

-- no, for this rule: the file breaks a rule of its format first, or it spells a history that breaks
-- this rule first
pub record IsRefusedFor (image : Image) (points : List Point) (bytes : List ℕ) (files : AuditFiles)
    (refusal : No) : Type 0 where
  pub head : Head
  pub es : List Entry
  pub spells : IsHistoryFile bytes head es
  pub first : first_no (start_by image points head) head.ports es files ≡ Some refusal

abbrev pub IsNo : Image → List Point → List ℕ → AuditFiles → No → Type 0
IsNo image points bytes files (File fault offset) = read_of bytes ≡ Err (fault, offset)
IsNo image points bytes files refusal = IsRefusedFor image points bytes files refusal
