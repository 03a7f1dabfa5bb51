-- One file of a device against the records of the device, one after the other.
use Rattle.std.specs.Prelude.{ℕ, ◌&&◌, Bool, true, List, [], ◌∷◌, drop, length, Option, Some, None, if◌then◌else◌}
use Rattle.guest_words.specs.declared.record.Record.{Record}
use Rattle.edge_ports.specs.Records.{given_bytes, taken_bytes}
use Rattle.rescue_audit.specs.declared.walk.Side.{Side}
use Rattle.rescue_audit.specs.declared.walk.Side.TheVariants.{Input, Output}
use Rattle.rescue_audit.specs.Matches.{begins, is_at_end}

-- the bytes that a call moved on a side
abbrev pub side_bytes : Side → Record → List ℕ
side_bytes Input r = taken_bytes r
side_bytes Output r = given_bytes r

-- a call may stand where so much is left
abbrev pub may_stand : Side → List ℕ → Record → Bool
may_stand Input left r = is_at_end left r
may_stand Output left r = true

-- what a call leaves of a file, if its bytes stand next there
abbrev pub left_by : Side → List ℕ → Record → Option (List ℕ)
left_by side left r =
    if may_stand side left r && begins left (side_bytes side r)
    then Some (drop (length (side_bytes side r)) left)
    else None

-- what is left by the rest of the records, if anything was left by those before
abbrev pub left_behind : (List ℕ → Option (List ℕ)) → Option (List ℕ) → Option (List ℕ)
left_behind later None = None
left_behind later (Some left) = later left

-- what records leave of a file, if their bytes stand there in order
unfoldable pub left_after : Side → List ℕ → List Record → Option (List ℕ)
left_after side left [] = Some left
left_after side left (r ∷ records) =
    left_behind (λ rest. left_after side rest records) (left_by side left r)
