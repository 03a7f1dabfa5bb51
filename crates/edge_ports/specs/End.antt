-- What a source, a sink or a port tells of itself, and what a call does to it.
use Rattle.std.specs.Prelude.{◌≡◌, ℕ, suc, zero, ◌+◌, ◌-◌, ◌^◌, ◌≤◌, min, List, ◌++◌, length, take, Bool, true, false, None, option_map, IfSome, IfOk, IsOk, is_err, MatchResult}
use Rattle.std.specs.declared.option.Option.{Option}
use Rattle.std.specs.declared.result.Result.{Result}

-- the bytes that it has left and those that it was given, None where it doesn't tell them; how
-- many of its calls failed; and how often it was closed
pub record End : Type 0 where
  pub left : Option (List ℕ)
  pub given : Option (List ℕ)
  pub faults : ℕ
  pub closes : ℕ

-- an object that tells no bytes
abbrev pub untold : ℕ → ℕ → End
untold faults closes = record { left = None; given = None; faults = faults; closes = closes }

-- one more, in a counter of 64 bits that stands still at its last value
abbrev pub raised : ℕ → ℕ
raised count = min (count + 1) (2 ^ 64 - 1)

-- a count that rose where the test holds
abbrev pub raised_if : Bool → ℕ → ℕ
raised_if true count = raised count
raised_if false count = count

-- a count that rose so many times
abbrev pub raised_by : ℕ → ℕ → ℕ
raised_by zero count = count
raised_by (suc n) count = raised (raised_by n count)

-- a count rose, or stands at the last value of a counter
abbrev pub Rose : ℕ → ℕ → Type 0
Rose before now = raised before ≤ now

-- these bytes went from the front of what was left
abbrev pub Went : Option (List ℕ) → List ℕ → Option (List ℕ) → Type 0
Went old bytes new = old ≡ option_map (λ rest. bytes ++ rest) new

-- these bytes came behind what was given
abbrev pub Came : Option (List ℕ) → List ℕ → Option (List ℕ) → Type 0
Came old bytes new = new ≡ option_map (λ given. given ++ bytes) old

-- what a `take` does: n bytes went to the first n of these places, or it failed and none went
pub record Takes {E : Type 0} (old new : End) (places : List ℕ) (result : Result ℕ E) : Type 0 where
  pub within : IfOk result (λ n. n ≤ length places)
  -- where told, n is the lesser of the places and the bytes left
  pub count : IfOk result (λ n. IfSome old.left (λ left. n ≡ min (length places) (length left)))
  pub left :
      MatchResult result (λ n. Went old.left (take n places) new.left) (λ _. new.left ≡ old.left)
  pub given : new.given ≡ old.given
  pub closes : new.closes ≡ old.closes
  -- one fault more where it failed, and else none
  pub faults : new.faults ≡ raised_if (is_err result) old.faults
  -- with no place it answers Ok, and nothing happens
  pub empty : length places ≡ 0 → IsOk result × (new ≡ old)

-- what a `put` does: all of these bytes came, or it failed and, where told, none came
pub record Puts {T E : Type 0} (old new : End) (bytes : List ℕ) (result : Result T E) : Type 0 where
  pub given : MatchResult result (λ _. Came old.given bytes new.given) (λ _. new.given ≡ old.given)
  pub left : new.left ≡ old.left
  pub closes : new.closes ≡ old.closes
  -- one fault more where it failed, and else none
  pub faults : new.faults ≡ raised_if (is_err result) old.faults
  -- with no byte it answers Ok, and nothing happens
  pub empty : length bytes ≡ 0 → IsOk result × (new ≡ old)

-- after a close: all that it tells stays, but that it was closed once more
abbrev pub ended : End → End
ended end = record end { closes = raised end.closes }
