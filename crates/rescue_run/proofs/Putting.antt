-- What the report sink was given, by what its put came to.
use Rattle.std.proofs.Common.{◌≡◌, ℕ, List, Option, Some, None, sym, subst}
use Rattle.guest_words.specs.declared.ending.Ending.{Ending}
use Rattle.guest_words.specs.declared.point.Point.{Point}
use Rattle.guest_words.specs.State.{State}
use Rattle.edge_ports.specs.End.{End, Came}
use Rattle.run_history.specs.declared.entry.Entry.{Entry}
use Rattle.run_history.specs.Run.{EndsOnce}
use Rattle.rescue_run.specs.declared.outcome.Outcome.{Outcome}
use Rattle.rescue_run.specs.declared.outcome.Outcome.TheVariants.{Words, PortCount, Shelf, TooLong, Elf, Symbols, Points, Report, Save, Ended, Listed, Audited, AuditNo, Tried, NoFault, Shown, Memory}
use Rattle.rescue_run.specs.declared.setup.Schedule.{Schedule}
use Rattle.rescue_run.specs.Puts.{PutsText, ReportsRun}
use Rattle.rescue_run.specs.Runs.{outcome_of, IsRunTo}
use Rattle.rescue_run.proofs.Coming.{with_outcome}

-- the put of bytes that are the text of the ending
pub puts_as : (bytes : List ℕ) (text : Ending → List ℕ) (x : Ending) (outcome : Outcome) (old new : End) → bytes ≡ text x
    → PutsText (λ _. bytes) (Some x) outcome old new → PutsText text (Some x) outcome old new
puts_as bytes text x (Words fault) old new is puts = absurd puts
puts_as bytes text x (PortCount named handed) old new is puts = absurd puts
puts_as bytes text x (Shelf w reason) old new is puts = absurd puts
puts_as bytes text x (TooLong w size) old new is puts = absurd puts
puts_as bytes text x (Elf fault offset) old new is puts = absurd puts
puts_as bytes text x (Symbols fault offset) old new is puts = absurd puts
puts_as bytes text x (Points fault place) old new is puts = absurd puts
puts_as bytes text x (Report None) old new is puts = absurd puts
puts_as bytes text x (Report (Some y)) old new is puts = puts
puts_as bytes text x (Ended y) old new is puts = (puts.0, subst (λ t. Came old.given t new.given) is puts.1)
puts_as bytes text x Listed old new is puts = absurd puts
puts_as bytes text x (Save z) old new is puts = absurd puts
puts_as bytes text x Audited old new is puts = absurd puts
puts_as bytes text x (AuditNo refusal) old new is puts = absurd puts
puts_as bytes text x (Tried good) old new is puts = absurd puts
puts_as bytes text x (NoFault z) old new is puts = absurd puts
puts_as bytes text x Shown old new is puts = absurd puts
puts_as bytes text x Memory old new is puts = puts

-- a text by another name
pub puts_by : (text other : Ending → List ℕ) (ending : Option Ending) (outcome : Outcome) (old new : End) → text ≡ other
    → PutsText text ending outcome old new → PutsText other ending outcome old new
puts_by text other ending outcome old new is puts = subst (λ t. PutsText t ending outcome old new) is puts

-- a run, and what the report sink was given for it
abbrev pub IsToldOf : State → Schedule → List Entry → List Point → (Ending → List ℕ) → Outcome → End → End → Type 0
IsToldOf start schedule entries points text outcome old new =
    IsRunTo start schedule entries points outcome × ReportsRun text outcome old new

told_ended : (start : State) (schedule : Schedule) (entries : List Entry) (points : List Point) (text : Ending → List ℕ) (x : Ending) (outcome : Outcome)
    (old new : End) → IsRunTo start schedule entries points (Ended x) → PutsText text (Some x) outcome old new
    → IsToldOf start schedule entries points text outcome old new
told_ended start schedule entries points text x (Words fault) old new run puts = absurd puts
told_ended start schedule entries points text x (PortCount named handed) old new run puts = absurd puts
told_ended start schedule entries points text x (Shelf w reason) old new run puts = absurd puts
told_ended start schedule entries points text x (TooLong w size) old new run puts = absurd puts
told_ended start schedule entries points text x (Elf fault offset) old new run puts = absurd puts
told_ended start schedule entries points text x (Symbols fault offset) old new run puts = absurd puts
told_ended start schedule entries points text x (Points fault place) old new run puts = absurd puts
told_ended start schedule entries points text x (Report None) old new run puts = absurd puts
told_ended start schedule entries points text x (Report (Some y)) old new run puts =
    (with_outcome start schedule entries points (Ended x) (Report (Some y)) run (subst (λ z. EndsOnce entries z) (sym puts.0) run.explains), puts.1)
told_ended start schedule entries points text x (Ended y) old new run puts = (
  with_outcome start schedule entries points (Ended x) (Ended y) run (subst (λ z. EndsOnce entries z) (sym puts.0) run.explains),
  subst (λ z. Came old.given (text z) new.given) (sym puts.0) puts.1,
)
told_ended start schedule entries points text x Listed old new run puts = absurd puts
told_ended start schedule entries points text x (Save z) old new run puts = absurd puts
told_ended start schedule entries points text x Audited old new run puts = absurd puts
told_ended start schedule entries points text x (AuditNo refusal) old new run puts = absurd puts
told_ended start schedule entries points text x (Tried good) old new run puts = absurd puts
told_ended start schedule entries points text x (NoFault z) old new run puts = absurd puts
told_ended start schedule entries points text x Shown old new run puts = absurd puts
told_ended start schedule entries points text x Memory old new run puts =
    (with_outcome start schedule entries points (Ended x) Memory run tt, puts)

told_none : (start : State) (schedule : Schedule) (entries : List Entry) (points : List Point) (text : Ending → List ℕ) (outcome : Outcome)
    (old new : End) → IsRunTo start schedule entries points Memory → PutsText text None outcome old new
    → IsToldOf start schedule entries points text outcome old new
told_none start schedule entries points text (Words fault) old new run puts = absurd puts
told_none start schedule entries points text (PortCount named handed) old new run puts = absurd puts
told_none start schedule entries points text (Shelf w reason) old new run puts = absurd puts
told_none start schedule entries points text (TooLong w size) old new run puts = absurd puts
told_none start schedule entries points text (Elf fault offset) old new run puts = absurd puts
told_none start schedule entries points text (Symbols fault offset) old new run puts = absurd puts
told_none start schedule entries points text (Points fault place) old new run puts = absurd puts
told_none start schedule entries points text (Report ending) old new run puts = absurd puts
told_none start schedule entries points text (Ended y) old new run puts = absurd puts
told_none start schedule entries points text Listed old new run puts = absurd puts
told_none start schedule entries points text (Save z) old new run puts = absurd puts
told_none start schedule entries points text Audited old new run puts = absurd puts
told_none start schedule entries points text (AuditNo refusal) old new run puts = absurd puts
told_none start schedule entries points text (Tried good) old new run puts = absurd puts
told_none start schedule entries points text (NoFault z) old new run puts = absurd puts
told_none start schedule entries points text Shown old new run puts = absurd puts
told_none start schedule entries points text Memory old new run puts = (run, puts)

pub told_of : (start : State) (schedule : Schedule) (entries : List Entry) (points : List Point) (text : Ending → List ℕ) (ending : Option Ending)
    (outcome : Outcome) (old new : End) → IsRunTo start schedule entries points (outcome_of ending) → PutsText text ending outcome old new
    → IsToldOf start schedule entries points text outcome old new
told_of start schedule entries points text (Some x) outcome old new run puts = told_ended start schedule entries points text x outcome old new run puts
told_of start schedule entries points text None outcome old new run puts = told_none start schedule entries points text outcome old new run puts
