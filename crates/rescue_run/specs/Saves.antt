-- What is saved behind a run's text, and what the shelf and the report sink tell of it.
use Rattle.std.specs.Prelude.{◌≡◌, ◌⊎◌, ℕ, List, Option, Some, None, Ok, Err}
use Rattle.guest_words.specs.declared.ending.Ending.{Ending}
use Rattle.edge_ports.specs.End.{End, Came}
use Rattle.edge_ports.specs.Shelves.{Saves, Shelved}
use Rattle.edge_ports.specs.declared.reason.Reason.{Reason}
use Rattle.edge_ports.specs.declared.shelf.ShelfFault.TheVariants as shelf
use Rattle.run_history.specs.declared.entry.Entry.{Entry}
use Rattle.run_history.specs.Run.{EndsOnce}
use Rattle.rescue_run.specs.declared.outcome.Outcome.{Outcome}
use Rattle.rescue_run.specs.declared.outcome.Outcome.TheVariants.{Report, Save, Ended, Memory}
use Rattle.rescue_run.specs.Lines.{line_of}
use Rattle.rescue_run.specs.Puts.{IsLost, IsTold}

-- a shelf before and after, and so the report sink
pub record Sides : Type 0 where
  pub shelf : Shelved
  pub shelf' : Shelved
  pub sink : End
  pub sink' : End

-- these bytes were saved under a name
abbrev pub SavesWell : List ℕ → List ℕ → Sides → Type 0
SavesWell name bytes s = Saves {T = Unit {0}} s.shelf s.shelf' name bytes (Ok tt)

-- the shelf was asked for that, and failed, for one reason or another
abbrev pub SaveFails : List ℕ → List ℕ → Sides → Type 0
SaveFails name bytes s =
    (reason : Reason) × Saves {T = Unit {0}} s.shelf s.shelf' name bytes (Err (shelf.Failed reason))

-- memory was wanting: for the bytes, so that the shelf wasn't asked, or in the shelf
abbrev pub SaveWants : List ℕ → List ℕ → Sides → Type 0
SaveWants name bytes s =
    (s.shelf' ≡ s.shelf)
    ⊎ Saves {T = Unit {0}} s.shelf s.shelf' name bytes (Err shelf.Memory)

-- the same, where a name may be given
abbrev pub SavesIf : Option (List ℕ) → List ℕ → Sides → Type 0
SavesIf None bytes s = s.shelf' ≡ s.shelf
SavesIf (Some name) bytes s = SavesWell name bytes s

abbrev pub SaveFailsIf : Option (List ℕ) → List ℕ → Sides → Type 0
SaveFailsIf None bytes s = ⊥
SaveFailsIf (Some name) bytes s = SaveFails name bytes s

abbrev pub SaveWantsIf : Option (List ℕ) → List ℕ → Sides → Type 0
SaveWantsIf None bytes s = ⊥
SaveWantsIf (Some name) bytes s = SaveWants name bytes s

-- memory was wanting for the save of these bytes: its line stands behind the text of the ending
pub record IsUnsaved (save : Option (List ℕ)) (bytes : List ℕ) (entries : List Entry)
    (text : Ending → List ℕ) (s : Sides) : Type 0 where
  pub ending : Ending
  pub ends : EndsOnce entries ending
  pub between : End
  pub put : Came s.sink.given (text ending) between.given
  pub line : IsTold (line_of Memory) between s.sink'
  pub wants : SaveWantsIf save bytes s

-- behind a run, by the bytes of its history file and the text of its ending: the text was put, and
-- then the bytes were saved where a name is given; or they weren't; or the text was lost, and
-- nothing was saved; or memory was wanting before the text, or behind it
abbrev pub ReportsAndSaves : Option (List ℕ) → List ℕ → List Entry → (Ending → List ℕ) → Outcome
    → Sides → Type 0
ReportsAndSaves save bytes entries text (Ended ending) s =
    Came s.sink.given (text ending) s.sink'.given × SavesIf save bytes s
ReportsAndSaves save bytes entries text (Save ending) s =
    Came s.sink.given (text ending) s.sink'.given × SaveFailsIf save bytes s
ReportsAndSaves save bytes entries text (Report ending) s =
    IsLost s.sink s.sink' × (s.shelf' ≡ s.shelf)
ReportsAndSaves save bytes entries text Memory s =
    (IsTold (line_of Memory) s.sink s.sink' × (s.shelf' ≡ s.shelf))
    ⊎ IsUnsaved save bytes entries text s
ReportsAndSaves save bytes entries text _ s = ⊥

-- what the save of a run comes to that ended so, whose text was put
abbrev pub SavesRun : List ℕ → List ℕ → Ending → Outcome → Sides → Type 0
SavesRun name bytes ending (Ended x) s =
    (x ≡ ending) × (s.sink' ≡ s.sink) × SavesWell name bytes s
SavesRun name bytes ending (Save x) s =
    (x ≡ ending) × (s.sink' ≡ s.sink) × SaveFails name bytes s
SavesRun name bytes ending Memory s =
    IsTold (line_of Memory) s.sink s.sink' × SaveWants name bytes s
SavesRun name bytes ending _ s = ⊥

-- nothing is saved, and nothing put
pub record IsLeft (outcome result : Outcome) (s : Sides) : Type 0 where
  pub same : result ≡ outcome
  pub shelf : s.shelf' ≡ s.shelf
  pub sink : s.sink' ≡ s.sink

-- what comes behind a put that came to an outcome
abbrev pub SavesBehind : Option (List ℕ) → List ℕ → Outcome → Outcome → Sides → Type 0
SavesBehind (Some name) bytes (Ended ending) result s = SavesRun name bytes ending result s
SavesBehind save bytes outcome result s = IsLeft outcome result s
