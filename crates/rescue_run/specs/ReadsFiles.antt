-- How the files of a command are read, one after the other.
use Rattle.std.specs.Prelude.{◌≡◌, ◌⊎◌, ℕ, List, [], ◌∷◌, Option, Some, None, Result, Ok, Err}
use Rattle.guest_words.specs.declared.elf_fault.ElfFault.{ElfFault}
use Rattle.guest_words.specs.declared.point.Point.{Point}
use Rattle.guest_words.specs.Image.{first_fault}
use Rattle.edge_ports.specs.Shelves.{Loads, Shelved}
use Rattle.edge_ports.specs.declared.shelf.ShelfFault.{ShelfFault}
use Rattle.elf_symbols.specs.declared.sym_fault.SymFault.{SymFault}
use Rattle.elf_symbols.specs.declared.symbol.Symbol.{Symbol}
use Rattle.elf_symbols.specs.SymbolTable.{first_symbol_fault}
use Rattle.rescue_audit.specs.declared.files.PortFile.{PortFile}
use Rattle.rescue_run.specs.declared.files.Files.{Files}
use Rattle.rescue_run.specs.declared.further.Further.{Further}
use Rattle.rescue_run.specs.declared.start.Loaded.{Loaded}
use Rattle.rescue_run.specs.declared.outcome.Which.TheVariants as which
use Rattle.rescue_run.specs.declared.refusal.Refusal.{Refusal}
use Rattle.rescue_run.specs.declared.outcome.Outcome.TheVariants.{Elf, Symbols}
use Rattle.rescue_run.specs.Outcomes.{limit_of, of_shelf_fault}
use Rattle.rescue_run.specs.Loading.{image_of, listed_by, loaded_of, loads_of_files, named_files, points_read, with_points, Answers, NamedFile, Read}
use Rattle.rescue_run.specs.Reads.{AreAnswers, IsAskedFor, IsOrMemory}
use Rattle.rescue_run.specs.Refusals.{plain, wanting}

-- the rule that a program breaks first, or want of memory
pub record BreaksElf (program : List ℕ) (refusal : Refusal) : Type 0 where
  pub broken : ElfFault × ℕ
  pub first : first_fault program ≡ Some broken
  pub names : refusal ≡ plain (Elf broken.0 broken.1)

abbrev pub IsUnaccepted : List ℕ → Refusal → Type 0
IsUnaccepted program refusal = BreaksElf program refusal ⊎ (refusal ≡ wanting)

-- the rule that its symbols break first
pub record BreaksSymbols (program : List ℕ) (refusal : Refusal) : Type 0 where
  pub broken : SymFault × ℕ
  pub first : first_symbol_fault program ≡ Some broken
  pub names : refusal ≡ plain (Symbols broken.0 broken.1)

-- the rescue file of a name was loaded, and gave this
pub record ReadsName (name program : List ℕ) (old new : Shelved)
    (result : Result (List Point) Refusal) : Type 0 where
  pub answer : Read
  pub loads : Loads old new name (limit_of which.Points) answer
  pub value : IsOrMemory result (points_read program answer)

-- the same, or no rescue file is named
abbrev pub ReadsPoints : Option (List ℕ) → List ℕ → Shelved → Shelved
    → Result (List Point) Refusal → Type 0
ReadsPoints None program old new result = (new ≡ old) × (result ≡ Ok [])
ReadsPoints (Some name) program old new result = ReadsName name program old new result

-- a program was refused, or is accepted and the rescue file, if one is named, was loaded
pub record ReadsOn (name : Option (List ℕ)) (program : List ℕ) (old new : Shelved)
    (result : Result Loaded Refusal) : Type 0 where
  pub accepted : first_fault program ≡ None
  pub points : Result (List Point) Refusal
  pub reads : ReadsPoints name program old new points
  pub gives : result ≡ with_points (image_of program) points

pub record StopsAt (program : List ℕ) (old new : Shelved) (result : Result Loaded Refusal) : Type 0
  where
    pub refusal : Refusal
    pub cause : IsUnaccepted program refusal
    pub same : new ≡ old
    pub gives : result ≡ Err refusal

abbrev pub ReadsLater : Option (List ℕ) → List ℕ → Shelved → Shelved → Result Loaded Refusal
    → Type 0
ReadsLater name program old new result =
    ReadsOn name program old new result ⊎ StopsAt program old new result

-- the files were loaded, and gave this
pub record ReadsFiles (f : Files) (old new : Shelved) (result : Result Loaded Refusal) : Type 0
  where
    pub answers : Answers
    pub answered : AreAnswers old new (named_files f) answers
    pub asked : IsAskedFor (result ≡ Err wanting) old.asked new.asked (loads_of_files f answers)
    pub value : IsOrMemory result (loaded_of f answers)

-- the program of a name was loaded, and gave these symbols
pub record ReadsSymbols (name : List ℕ) (old new : Shelved)
    (result : Result (List Symbol) Refusal) : Type 0 where
  pub answer : Read
  pub loads : Loads old new name (limit_of which.Program) answer
  pub value : IsOrMemory result (listed_by answer)

-- files were loaded, one after the other, and have these bytes
abbrev pub ReadsAll : List NamedFile → Shelved → Shelved → List (List ℕ) → Type 0
ReadsAll [] old new [] = new ≡ old
ReadsAll (file ∷ files) old new (bytes ∷ more) =
    (between : Shelved) × (Loads old between file.1 (limit_of file.0) (Ok bytes)
    × ReadsAll files between new more)
ReadsAll files old new bytes = ⊥

-- one of them wasn't read, and none behind it was asked for
pub record StopsHere (file : NamedFile) (old new : Shelved) (refusal : Refusal) : Type 0 where
  pub fault : ShelfFault
  pub loads : Loads old new file.1 (limit_of file.0) (Err fault)
  pub names : refusal ≡ of_shelf_fault file.0 fault

abbrev pub StopsAmong : List NamedFile → Shelved → Shelved → Refusal → Type 0
StopsAmong [] old new refusal = ⊥
StopsAmong (file ∷ files) old new refusal =
    StopsHere file old new refusal
    ⊎ ((between : Shelved) × ((bytes : List ℕ)
    × (Loads old between file.1 (limit_of file.0) (Ok bytes)
    × StopsAmong files between new refusal)))

-- either, by the bytes of a value
abbrev pub ReadsTo : {T : Type 0} → (T → List (List ℕ)) → List NamedFile → Shelved → Shelved
    → Result T Refusal → Type 0
ReadsTo bytes files old new (Ok value) = ReadsAll files old new (bytes value)
ReadsTo bytes files old new (Err refusal) = StopsAmong files old new refusal

-- the bytes of the files of ports, and of all further files, in order
abbrev pub port_bytes : List PortFile → List (List ℕ)
port_bytes [] = []
port_bytes (port ∷ ports) = port.input ∷ port.output ∷ port_bytes ports

abbrev pub further_bytes : Further → List (List ℕ)
further_bytes f =
    f.history ∷ f.files.input ∷ f.files.out ∷ f.files.err ∷ port_bytes f.files.ports
