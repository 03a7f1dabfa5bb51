-- Rans that stand apart: none directly behind another.
use Rattle.std.specs.Prelude.{Bool, true, false, not, ◌&&◌, List, [], ◌∷◌}
use Rattle.run_history.specs.declared.entry.Entry.{Entry, Ran, Entered, Called, Rescued', Ended, Row_of-Entry, end_of-Entry, more_of-Entry}

abbrev pub is_ran : Entry → Bool
is_ran (Ran h count) = true
is_ran _ = false

unfoldable mutual
  -- in each inside of an entry the Rans stand apart
  pub is_apart : Entry → Bool
  is_apart (Ran h count) = true
  is_apart (Entered h point) = true
  is_apart (Called h call) = true
  is_apart (Rescued' h point fault shape inside) = is_apart_row false inside
  is_apart (Ended ending) = true

  -- the Rans of an inside and of its insides stand apart, with a Ran standing before it or not
  pub is_apart_row : {m : _} → Bool → Row_of-Entry m → Bool
  is_apart_row ran end_of-Entry = true
  is_apart_row ran (more_of-Entry e rest) =
      not (ran && is_ran e) && is_apart e && is_apart_row (is_ran e) rest

-- the same of a list of entries
abbrev pub are_apart : Bool → List Entry → Bool
are_apart ran [] = true
are_apart ran (e ∷ es) = not (ran && is_ran e) && is_apart e && are_apart (is_ran e) es
