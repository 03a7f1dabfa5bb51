-- What is answered where the ports tell what others were to tell, as opened files do what was said
-- of them by their names.
use Rattle.std.proofs.Common.{◌≡◌, ◌∙◌, ℕ, Bool, false, List, [], ◌∷◌, length, map, Option, Some, None, Result, ap, sym}
use Rattle.std.specs.Prelude.{IsNone}
use Rattle.std.proofs.lemmas.List.{length-map}
use Rattle.edge_ports.specs.End.{End}
use Rattle.edge_ports.specs.Seen.{Seen}
use Rattle.edge_ports.specs.Shelves.{Shelved}
use Rattle.rescue_run.specs.declared.task.Task.{Task}
use Rattle.rescue_run.specs.declared.refusal.Refusal.{Refusal}
use Rattle.rescue_run.specs.Headline.{ComesTo, Headline, Told}
use Rattle.rescue_run.specs.Prepares.{Prepares}
use Rattle.rescue_run.specs.Reads.{Follows}
use Rattle.rescue_run.specs.Statuses.{status_of}
use Rattle.rescue_run.specs.Top.{handed, sides, StaySame}
use Rattle.run_history.specs.HistoryView.{HistoryView}
use Rattle.edge_ports.specs.declared.devices.Devices.{Devices}
use Rattle.rescue_run.proofs.Answering.{headline_of}

handed_by : {S T P N : Type 0} (source : S → End) (sink : T → End) (port : P → End) (name : N → End) (input : S) (out err : T) (ports : List P) (names : List N)
    → map port ports ≡ map name names → handed source sink port input out err ports ≡ handed source sink name input out err names
handed_by source sink port name input out err ports names same = ap (λ (ends : List End). record {
  input = source input;
  out = sink out;
  err = sink err;
  ports = ends;
  closed = false ∷ false ∷ false ∷ [];
  shut = [];
}) same

pub headline_by : {S T P N : Type 0} (source : S → End) (sink : T → End) (port : P → End) (name : N → End) (input : S) (out err : T) (ports : List P) (names : List N)
    (threads : Bool) (words : List (List ℕ)) (old between new : Shelved) (before : Seen) (report report' : End) (count : ℕ)
    (prepared : Result Task Refusal) (told : Told) → before ≡ handed source sink port input out err ports → map port ports ≡ map name names → count ≡ length names
    → Prepares threads words count old between prepared → Follows old between → told.status ≡ status_of told.outcome
    → ComesTo words prepared before (sides between new report report') told
    → Headline threads words old new (handed source sink name input out err names) report report' told
headline_by source sink port name input out err ports names threads words old between new before report report' count prepared told same ends counts prepares follows status comes =
    let whole : before ≡ handed source sink name input out err names = same ∙ handed_by source sink port name input out err ports names ends in
    let many : length before.ports ≡ length names = ap (λ (s : Seen). length s.ports) whole ∙ length-map names name in
    headline_of threads words old between new before (handed source sink name input out err names) report report' count prepared told whole (counts ∙ sym many) prepares follows
    status comes

-- where there is no history, the streams are those that were handed in
pub streams_same : {S T P : Type 0} (history : Option HistoryView) (old new : Devices S T P) (input : S) (out err : T) → StaySame history old new
    → old.input ≡ input → old.out ≡ out → old.err ≡ err → IsNone history → (new.input ≡ input) × (new.out ≡ out) × (new.err ≡ err)
streams_same None old new input out err same i o e none = (same.input ∙ i, same.out ∙ o, same.err ∙ e)
streams_same (Some h) old new input out err same i o e none = cc
