-- What a run came to, with what was saved behind its text.
use Rattle.std.proofs.Common.{inl, inr, ℕ, List, Option, Some, None, sym, subst}
use Rattle.edge_ports.specs.End.{End, Came}
use Rattle.edge_ports.specs.Shelves.{Shelved}
use Rattle.guest_words.specs.declared.ending.Ending.{Ending}
use Rattle.guest_words.specs.declared.point.Point.{Point}
use Rattle.guest_words.specs.State.{State}
use Rattle.run_history.specs.declared.entry.Entry.{Entry}
use Rattle.run_history.specs.Run.{EndsOnce}
use Rattle.rescue_run.specs.declared.outcome.Outcome.{Outcome}
use Rattle.rescue_run.specs.declared.outcome.Outcome.TheVariants.{Words, PortCount, Shelf, TooLong, Elf, Symbols, Points, Report, Save, Ended, Listed, Audited, AuditNo, Tried, NoFault, Shown, Memory}
use Rattle.rescue_run.specs.declared.setup.Schedule.{Schedule}
use Rattle.rescue_run.specs.Puts.{PutsText}
use Rattle.rescue_run.specs.Runs.{outcome_of, IsRunTo}
use Rattle.rescue_run.specs.Saves.{IsLeft, ReportsAndSaves, SavesBehind, SavesRun, Sides}
use Rattle.rescue_run.specs.Top.{sides}
use Rattle.rescue_run.proofs.Coming.{with_outcome}
use Rattle.rescue_run.proofs.Putting.{told_of, IsToldOf}

-- a run, and what the report sink and the shelf were given for it
abbrev pub IsSavedOf : State → Schedule → List Entry → List Point → Option (List ℕ) → List ℕ → (Ending → List ℕ) → Outcome → Sides → Type 0
IsSavedOf start schedule entries points save bytes text outcome s =
    IsRunTo start schedule entries points outcome × ReportsAndSaves save bytes entries text outcome s

-- the text was put, and a name is given
saved_run : (start : State) (schedule : Schedule) (entries : List Entry) (points : List Point) (name bytes : List ℕ) (text : Ending → List ℕ) (x : Ending)
    (outcome : Outcome) (shelf shelf' : Shelved) (sink between sink' : End) → IsRunTo start schedule entries points (Ended x)
    → Came sink.given (text x) between.given → SavesRun name bytes x outcome (sides shelf shelf' between sink')
    → IsSavedOf start schedule entries points (Some name) bytes text outcome (sides shelf shelf' sink sink')
saved_run start schedule entries points name bytes text x (Words fault) shelf shelf' sink between sink' run put saves = absurd saves
saved_run start schedule entries points name bytes text x (PortCount named handed) shelf shelf' sink between sink' run put saves = absurd saves
saved_run start schedule entries points name bytes text x (Shelf w reason) shelf shelf' sink between sink' run put saves = absurd saves
saved_run start schedule entries points name bytes text x (TooLong w size) shelf shelf' sink between sink' run put saves = absurd saves
saved_run start schedule entries points name bytes text x (Elf fault offset) shelf shelf' sink between sink' run put saves = absurd saves
saved_run start schedule entries points name bytes text x (Symbols fault offset) shelf shelf' sink between sink' run put saves = absurd saves
saved_run start schedule entries points name bytes text x (Points fault place) shelf shelf' sink between sink' run put saves = absurd saves
saved_run start schedule entries points name bytes text x (Report ending) shelf shelf' sink between sink' run put saves = absurd saves
saved_run start schedule entries points name bytes text x Listed shelf shelf' sink between sink' run put saves = absurd saves
saved_run start schedule entries points name bytes text x Audited shelf shelf' sink between sink' run put saves = absurd saves
saved_run start schedule entries points name bytes text x (AuditNo refusal) shelf shelf' sink between sink' run put saves = absurd saves
saved_run start schedule entries points name bytes text x (Tried good) shelf shelf' sink between sink' run put saves = absurd saves
saved_run start schedule entries points name bytes text x (NoFault z) shelf shelf' sink between sink' run put saves = absurd saves
saved_run start schedule entries points name bytes text x Shown shelf shelf' sink between sink' run put saves = absurd saves
saved_run start schedule entries points name bytes text x (Save y) shelf shelf' sink between sink' run put saves = (
  with_outcome start schedule entries points (Ended x) (Save y) run (subst (λ z. EndsOnce entries z) (sym saves.0) run.explains),
  (subst (λ (e : End). Came sink.given (text y) e.given) (sym saves.1) (subst (λ z. Came sink.given (text z) between.given) (sym saves.0) put), saves.2),
)
saved_run start schedule entries points name bytes text x (Ended y) shelf shelf' sink between sink' run put saves = (
  with_outcome start schedule entries points (Ended x) (Ended y) run (subst (λ z. EndsOnce entries z) (sym saves.0) run.explains),
  (subst (λ (e : End). Came sink.given (text y) e.given) (sym saves.1) (subst (λ z. Came sink.given (text z) between.given) (sym saves.0) put), saves.2),
)
saved_run start schedule entries points name bytes text x Memory shelf shelf' sink between sink' run put saves = (
  with_outcome start schedule entries points (Ended x) Memory run tt,
  inr (record { ending = x; ends = run.explains; between = between; put = put; line = saves.0; wants = saves.1 }),
)

-- nothing was saved
left : (start : State) (schedule : Schedule) (entries : List Entry) (points : List Point) (save : Option (List ℕ)) (bytes : List ℕ) (text : Ending → List ℕ)
    (middle outcome : Outcome) (shelf shelf' : Shelved) (sink between sink' : End) → IsLeft middle outcome (sides shelf shelf' between sink')
    → IsSavedOf start schedule entries points save bytes text middle (sides shelf shelf' sink between)
    → IsSavedOf start schedule entries points save bytes text outcome (sides shelf shelf' sink sink')
left start schedule entries points save bytes text middle outcome shelf shelf' sink between sink' is saved =
    subst (λ (o : Outcome). IsSavedOf start schedule entries points save bytes text o (sides shelf shelf' sink sink')) (sym is.same)
    (subst (λ (e : End). IsSavedOf start schedule entries points save bytes text middle (sides shelf shelf' sink e)) (sym is.sink) saved)

-- by what the put of the text came to
behind : (start : State) (schedule : Schedule) (entries : List Entry) (points : List Point) (save : Option (List ℕ)) (bytes : List ℕ) (text : Ending → List ℕ)
    (middle outcome : Outcome) (shelf shelf' : Shelved) (sink between sink' : End) → IsToldOf start schedule entries points text middle sink between
    → SavesBehind save bytes middle outcome (sides shelf shelf' between sink')
    → IsSavedOf start schedule entries points save bytes text outcome (sides shelf shelf' sink sink')
behind start schedule entries points save bytes text (Words fault) outcome shelf shelf' sink between sink' told saves = absurd told.0.explains
behind start schedule entries points save bytes text (PortCount named handed) outcome shelf shelf' sink between sink' told saves = absurd told.0.explains
behind start schedule entries points save bytes text (Shelf w reason) outcome shelf shelf' sink between sink' told saves = absurd told.0.explains
behind start schedule entries points save bytes text (TooLong w size) outcome shelf shelf' sink between sink' told saves = absurd told.0.explains
behind start schedule entries points save bytes text (Elf fault offset) outcome shelf shelf' sink between sink' told saves = absurd told.0.explains
behind start schedule entries points save bytes text (Symbols fault offset) outcome shelf shelf' sink between sink' told saves = absurd told.0.explains
behind start schedule entries points save bytes text (Points fault place) outcome shelf shelf' sink between sink' told saves = absurd told.0.explains
behind start schedule entries points save bytes text (Report None) outcome shelf shelf' sink between sink' told saves = absurd told.0.explains
behind start schedule entries points save bytes text Listed outcome shelf shelf' sink between sink' told saves = absurd told.0.explains
behind start schedule entries points save bytes text Audited outcome shelf shelf' sink between sink' told saves = absurd told.0.explains
behind start schedule entries points save bytes text (AuditNo refusal) outcome shelf shelf' sink between sink' told saves = absurd told.0.explains
behind start schedule entries points save bytes text (Tried good) outcome shelf shelf' sink between sink' told saves = absurd told.0.explains
behind start schedule entries points save bytes text (NoFault z) outcome shelf shelf' sink between sink' told saves = absurd told.0.explains
behind start schedule entries points save bytes text Shown outcome shelf shelf' sink between sink' told saves = absurd told.0.explains
behind start schedule entries points save bytes text (Save y) outcome shelf shelf' sink between sink' told saves = absurd told.1
behind start schedule entries points None bytes text (Report (Some y)) outcome shelf shelf' sink between sink' told saves =
    left start schedule entries points None bytes text (Report (Some y)) outcome shelf shelf' sink between sink' saves (told.0, (told.1, saves.shelf))
behind start schedule entries points (Some name) bytes text (Report (Some y)) outcome shelf shelf' sink between sink' told saves =
    left start schedule entries points (Some name) bytes text (Report (Some y)) outcome shelf shelf' sink between sink' saves (told.0, (told.1, saves.shelf))
behind start schedule entries points None bytes text Memory outcome shelf shelf' sink between sink' told saves =
    left start schedule entries points None bytes text Memory outcome shelf shelf' sink between sink' saves (told.0, inl (told.1, saves.shelf))
behind start schedule entries points (Some name) bytes text Memory outcome shelf shelf' sink between sink' told saves =
    left start schedule entries points (Some name) bytes text Memory outcome shelf shelf' sink between sink' saves (told.0, inl (told.1, saves.shelf))
behind start schedule entries points None bytes text (Ended y) outcome shelf shelf' sink between sink' told saves =
    left start schedule entries points None bytes text (Ended y) outcome shelf shelf' sink between sink' saves (told.0, (told.1, saves.shelf))
behind start schedule entries points (Some name) bytes text (Ended y) outcome shelf shelf' sink between sink' told saves =
    saved_run start schedule entries points name bytes text y outcome shelf shelf' sink between sink' told.0 told.1 saves

pub saved_of : (start : State) (schedule : Schedule) (entries : List Entry) (points : List Point) (save : Option (List ℕ)) (bytes : List ℕ) (text : Ending → List ℕ)
    (ending : Option Ending) (middle outcome : Outcome) (shelf shelf' : Shelved) (sink between sink' : End) → IsRunTo start schedule entries points (outcome_of ending)
    → PutsText text ending middle sink between → SavesBehind save bytes middle outcome (sides shelf shelf' between sink')
    → IsSavedOf start schedule entries points save bytes text outcome (sides shelf shelf' sink sink')
saved_of start schedule entries points save bytes text ending middle outcome shelf shelf' sink between sink' run puts saves =
    behind start schedule entries points save bytes text middle outcome shelf shelf' sink between sink'
    (told_of start schedule entries points text ending middle sink between run puts) saves
