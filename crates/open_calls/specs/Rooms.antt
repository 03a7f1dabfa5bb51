-- Room for what open calls may hand out to what encloses them.
use Rattle.std.specs.Prelude.{◌≡◌, ℕ, ◌+◌, ◌≤◌, List, [], ◌∷◌, ◌++◌, length, vec_capacity}
use Rattle.std.specs.Global.{Vec}
use Rattle.guest_words.specs.declared.limits.TheConstants.{FRAMES}
use Rattle.run_history.specs.HistoryView.{HistoryView}
use Rattle.open_calls.specs.declared.list.TheConstants.{ENTRIES}
use Rattle.open_calls.specs.declared.outer.Outer.{Outer}
use Rattle.open_calls.specs.Nest.{Level, Nest}

-- no entry, and room for some and for an entering
pub record IsFresh (list : HistoryView) : Type 0 where
  pub entries : list.entries ≡ []
  pub room : ENTRIES + 1 ≤ list.spare

-- the last one first
abbrev pub turned : List Outer → List Outer
turned [] = []
turned (o ∷ os) = turned os ++ o ∷ []

abbrev pub level_of : Outer → Level
level_of o =
    record { entries = o.entries.entries; mark = o.mark; point = o.point; kept = o.kept }

abbrev pub levels : List Outer → List Level
levels [] = []
levels (o ∷ os) = level_of o ∷ levels os

abbrev pub nest_of : HistoryView → List Outer → Nest
nest_of top outers = record { outers = levels (turned outers); entries = top.entries }

-- what encloses calls, the innermost first, has room for so many entries, for the entering, and for
-- all of its own further out
abbrev pub HasRoom : ℕ → List Outer → Type 0
HasRoom entries [] = Unit {0}
HasRoom entries (o ∷ os) =
    (entries + 1 ≤ o.entries.spare) × HasRoom (entries + 1 + length o.entries.entries) os

-- so many acts, and an ending, have room at each level
pub record Rooms (acts : ℕ) (top : HistoryView) (outers : List Outer) : Type 0 where
  pub entries : acts + 1 ≤ top.spare
  pub above : HasRoom (length top.entries + acts + 1) outers

-- there is a place for each call that a hart can have open
abbrev pub HasPlaces : Vec Outer → Type 0
HasPlaces outers = FRAMES ≤ vec_capacity outers

-- the same but for more room
pub record IsWider (p q : HistoryView) : Type 0 where
  pub entries : q.entries ≡ p.entries
  pub spare : p.spare ≤ q.spare

pub record IsRoomier (o p : Outer) : Type 0 where
  pub entries : IsWider o.entries p.entries
  pub mark : p.mark ≡ o.mark
  pub point : p.point ≡ o.point
  pub kept : p.kept ≡ o.kept

abbrev pub AreRoomier : List Outer → List Outer → Type 0
AreRoomier [] [] = Unit {0}
AreRoomier (o ∷ os) (p ∷ ps) = IsRoomier o p × AreRoomier os ps
AreRoomier _ _ = ⊥
