-- What stays along a run: the instructions in memory, and that a hart arrives at no point.
use Rattle.std.specs.Prelude.{◌≡◌, ℕ, ◌<◌, ◌≤◌, Bool, true, false, List, Option, None}
use Rattle.std.specs.FinMap.{get}
use Rattle.guest_words.specs.declared.hart.Hart.{Hart}
use Rattle.guest_words.specs.declared.image.Cell.{Cell}
use Rattle.guest_words.specs.declared.image.Image.{Image}
use Rattle.guest_words.specs.declared.limits.TheConstants.{MAP_FROM}
use Rattle.guest_words.specs.declared.point.Point.{Point}
use Rattle.guest_words.specs.HartAct.{arrival_of, inst_at}
use Rattle.guest_words.specs.Image.{IsLoadList}
use Rattle.guest_words.specs.Space.{has_right}
use Rattle.guest_words.specs.Start.{start_of}
use Rattle.guest_words.specs.State.{State}
use Rattle.run_history.specs.declared.entry.Entry.{Entry}
use Rattle.run_history.specs.After.{state_after}
use Rattle.run_history.specs.Run.{IsRun}

abbrev pub writes : Option Cell → Bool
writes byte = has_right (λ rights. rights.write) byte

abbrev pub executes : Option Cell → Bool
executes byte = has_right (λ rights. rights.exec) byte

-- no act of a hart reaches a byte that can be executed
pub record IsTextSafe (s : State) : Type 0 where
  -- no byte that can be written can be executed
  pub apart : (a : ℕ) → writes (get s.memory a) ≡ true → executes (get s.memory a) ≡ false
  -- each byte that can be executed lies below the heap
  pub below : (a : ℕ) → executes (get s.memory a) ≡ true → a < s.low
  -- the heap ends no lower than it begins, and begins no higher than the area of mapped pages
  pub heap : s.low ≤ s.brk
  pub area : s.low ≤ MAP_FROM

-- after a run each address has the instruction that it had at the start, or none as then
abbrev pub TextStays : Type 0
TextStays =
    (start : State) (es : List Entry) → IsTextSafe start → IsRun start es
    → (pc : ℕ) → inst_at (state_after start es).memory pc ≡ inst_at start.memory pc

-- a hart that arrives at no point at the start arrives at none after a run: points only get spent
abbrev pub FewerArrivals : Type 0
FewerArrivals =
    (start : State) (es : List Entry) → IsRun start es
    → (hart : Hart) → arrival_of start.points 0 hart ≡ None
    → arrival_of (state_after start es).points 0 hart ≡ None

-- the start of a program that was accepted is safe
abbrev pub StartIsTextSafe : Type 0
StartIsTextSafe =
    (image : Image) (points : List Point) (harts ports budget : ℕ) → IsLoadList image.loads
    → IsTextSafe (start_of image points harts ports budget)
