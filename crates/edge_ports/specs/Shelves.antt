-- What a shelf tells of its files, and what a load and a save do.
use Rattle.std.specs.Prelude.{◌≡◌, ◌≢◌, ℕ, ◌≤◌, ◌<◌, List, [], ◌∷◌, ◌++◌, length, All, Bool, true, false, IsTrue, None, Some, Err, IfOk, MatchResult, option_map, find}
use Rattle.std.specs.Result.{result_err}
use Rattle.std.specs.Str.{bytes_eq}
use Rattle.std.specs.declared.option.Option.{Option}
use Rattle.std.specs.declared.result.Result.{Result}
use Rattle.edge_ports.specs.Asked.{Asked, Loaded, Saved}
use Rattle.edge_ports.specs.End.{Rose}
use Rattle.edge_ports.specs.InMemory.{CallCount}
use Rattle.edge_ports.specs.declared.reason.Reason.{Reason}
use Rattle.edge_ports.specs.declared.shelf.ShelfFault.{ShelfFault}
use Rattle.edge_ports.specs.declared.shelf.ShelfFault.TheVariants.{Failed, TooLong}
use Rattle.edge_ports.specs.declared.shelf_file.ShelfFile.{ShelfFile}

-- whether it tells its files; the bytes of each file; for each name a count of loads that failed
-- and one of saves that failed; a count of long answers for each name and limit; and all that it
-- was asked for so far, in order, told or not
pub record Shelved : Type 0 where
  pub tells : Bool
  pub file : List ℕ → Option (List ℕ)
  pub faults : List ℕ → ℕ
  pub save_faults : List ℕ → ℕ
  pub longs : List ℕ → ℕ → ℕ
  pub asked : List Asked

-- what an answer to a load of this name under this limit says; where told, Ok is the file, and
-- TooLong has its length, so that neither comes where the file is absent
pub record Loads (old new : Shelved) (name : List ℕ) (limit : ℕ)
    (result : Result (List ℕ) ShelfFault) : Type 0 where
  pub within : IfOk result (λ bytes. length bytes ≤ limit)
  pub below : IfOk result (λ bytes. All (λ b. b < 256) bytes)
  pub told : IsTrue old.tells → IfOk result (λ bytes. old.file name ≡ Some bytes)
  pub cause : (reason : Reason) → result ≡ Err (Failed reason)
      → Rose (old.faults name) (new.faults name)
  pub long : (size : ℕ) → result ≡ Err (TooLong size)
      → Rose (old.longs name limit) (new.longs name limit)
  pub over : (size : ℕ) → result ≡ Err (TooLong size) → limit < size
  pub long_told : IsTrue old.tells → (size : ℕ) → result ≡ Err (TooLong size)
      → option_map length (old.file name) ≡ Some size
  -- it was asked for this name once, and for nothing else
  pub asked : new.asked ≡ old.asked ++ Loaded name result ∷ []
  -- whatever it answers, every file stays, and no count falls
  pub tells : new.tells ≡ old.tells
  pub files : (n : List ℕ) → new.file n ≡ old.file n
  pub later : (n : List ℕ) → old.faults n ≤ new.faults n
  pub longs_later : (n : List ℕ) (l : ℕ) → old.longs n l ≤ new.longs n l
  pub saves : (n : List ℕ) → new.save_faults n ≡ old.save_faults n

-- what an answer to a save of these bytes under this name says; where told, after Ok the file is
-- just these bytes, and else it is what it was
pub record Saves {T : Type 0} (old new : Shelved) (name bytes : List ℕ)
    (result : Result T ShelfFault) : Type 0 where
  pub file : IsTrue old.tells → MatchResult result (λ _. new.file name ≡ Some bytes)
      (λ _. new.file name ≡ old.file name)
  pub others : (n : List ℕ) → n ≢ name → new.file n ≡ old.file n
  pub cause : (reason : Reason) → result ≡ Err (Failed reason)
      → Rose (old.save_faults name) (new.save_faults name)
  -- no save is too long
  pub short : (size : ℕ) → result ≢ Err (TooLong size)
  -- it was asked for this once, and for nothing else
  pub asked : new.asked ≡ old.asked ++ Saved name bytes (result_err result) ∷ []
  pub tells : new.tells ≡ old.tells
  pub later : (n : List ℕ) → old.save_faults n ≤ new.save_faults n
  pub loads : (n : List ℕ) → new.faults n ≡ old.faults n
  pub longs : (n : List ℕ) (l : ℕ) → new.longs n l ≡ old.longs n l

-- the bytes of the first file of that name
abbrev pub first_named : List ShelfFile → List ℕ → Option (List ℕ)
first_named files name =
    option_map (λ file. file.bytes) (find (λ file. bytes_eq file.name name) files)

-- a shelf in memory: its files; its loads and saves together, with how many loads failed; how many
-- saves failed; how many answers were long; and what it was asked for
pub record ShelfState : Type 0 where
  pub files : List ShelfFile
  pub calls : CallCount
  pub save_faults : ℕ
  pub longs : ℕ
  pub asked : List Asked

abbrev pub shelf_of : ShelfState → Shelved
shelf_of s = record {
  tells = true;
  file = first_named s.files;
  faults = λ n. s.calls.faults;
  save_faults = λ n. s.save_faults;
  longs = λ n l. s.longs;
  asked = s.asked;
}

-- a shelf that doesn't tell, with one count of each kind for all names
abbrev pub untold_shelf : ℕ → ℕ → ℕ → List Asked → Shelved
untold_shelf faults save_faults longs asked = record {
  tells = false;
  file = λ n. None;
  faults = λ n. faults;
  save_faults = λ n. save_faults;
  longs = λ n l. longs;
  asked = asked;
}

-- whether a call failed, and whether it answered that the file is too long
abbrev pub is_failed : {T : Type 0} → Result T ShelfFault → Bool
is_failed (Err (Failed reason)) = true
is_failed _ = false

abbrev pub is_long : {T : Type 0} → Result T ShelfFault → Bool
is_long (Err (TooLong size)) = true
is_long _ = false
