-- What a shelf's answers rest on.
use Rattle.std.specs.Prelude.{◌≡◌, ◌⊎◌, ℕ, ◌<◌, ◌≤◌, All, List, [], ◌∷◌, ◌++◌, length, take, Some, option_map, Result, Err, IsTrue, IfOk}
use Rattle.edge_ports.specs.Asked.{Asked}
use Rattle.edge_ports.specs.End.{Rose}
use Rattle.edge_ports.specs.Shelves.{Shelved}
use Rattle.edge_ports.specs.declared.reason.Reason.{Reason}
use Rattle.edge_ports.specs.declared.shelf.ShelfFault.TheVariants.{Failed, TooLong}
use Rattle.rescue_run.specs.declared.outcome.Which.{Which}
use Rattle.rescue_run.specs.declared.refusal.Refusal.{Refusal}
use Rattle.rescue_run.specs.Outcomes.{limit_of}
use Rattle.rescue_run.specs.Loading.{Answers, NamedFile, Read}
use Rattle.rescue_run.specs.Refusals.{wanting}

-- a shelf's answer for a file of a name: no more bytes than are read, each below 256, and those of
-- the file where it tells; a file isn't read only where its count rose
pub record IsAnswer (old new : Shelved) (w : Which) (name : List ℕ) (answer : Read) : Type 0 where
  pub within : IfOk answer (λ bytes. length bytes ≤ limit_of w)
  pub below : IfOk answer (λ bytes. All (λ b. b < 256) bytes)
  pub told : IsTrue old.tells → IfOk answer (λ bytes. old.file name ≡ Some bytes)
  pub cause : (reason : Reason) → answer ≡ Err (Failed reason)
      → Rose (old.faults name) (new.faults name)
  pub long : (size : ℕ) → answer ≡ Err (TooLong size)
      → Rose (old.longs name (limit_of w)) (new.longs name (limit_of w))
  pub over : (size : ℕ) → answer ≡ Err (TooLong size) → limit_of w < size
  pub long_told : IsTrue old.tells → (size : ℕ) → answer ≡ Err (TooLong size)
      → option_map length (old.file name) ≡ Some size

-- the answers for files
abbrev pub AreAnswers : Shelved → Shelved → List NamedFile → Answers → Type 0
AreAnswers old new [] answers = Unit {0}
AreAnswers old new (file ∷ files) answers =
    IsAnswer old new file.0 file.1 (answers file.0) × AreAnswers old new files answers

-- a shelf after some loads: every file stays, and no count falls
pub record Follows (old new : Shelved) : Type 0 where
  pub tells : new.tells ≡ old.tells
  pub files : (n : List ℕ) → new.file n ≡ old.file n
  pub later : (n : List ℕ) → old.faults n ≤ new.faults n
  pub longs_later : (n : List ℕ) (l : ℕ) → old.longs n l ≤ new.longs n l
  pub saves : (n : List ℕ) → new.save_faults n ≡ old.save_faults n

-- this is what it is, or memory was wanting
abbrev pub IsOrMemory : {T : Type 0} → Result T Refusal → Result T Refusal → Type 0
IsOrMemory result value = (result ≡ value) ⊎ (result ≡ Err wanting)

-- a shelf was asked for these and nothing else, in this order, or, where memory was wanting, for
-- the first of them
abbrev pub IsAskedFor : Type 0 → List Asked → List Asked → List Asked → Type 0
IsAskedFor wanting old new loads =
    (new ≡ old ++ loads) ⊎ (wanting × ((count : ℕ) × (new ≡ old ++ take count loads)))
