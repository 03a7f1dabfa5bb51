-- Tests of what a hart does next, by its name.
use Rattle.std.specs.Prelude.{ℕ, Bool, false, ◌==◌, Option, Some}
use Rattle.guest_words.specs.declared.fault.FaultName.{FaultName}
use Rattle.guest_words.specs.declared.point.PointRef.{PointRef}
use Rattle.guest_words.specs.Endings.{is_same_name}
use Rattle.hart_step.specs.declared.next_act.NextAct.{NextAct}
use Rattle.hart_step.specs.declared.next_act.NextAct.TheVariants as next_act

-- it comes to the entry of this point
abbrev pub sees_arrival : PointRef → Option NextAct → Bool
sees_arrival point (Some (next_act.Arrival other)) = point.entry == other.entry
sees_arrival point _ = false

-- it makes this fault
abbrev pub sees_fault : FaultName → Option NextAct → Bool
sees_fault name (Some (next_act.Fault other)) = is_same_name name other
sees_fault name _ = false

-- it ends the run with this code
abbrev pub sees_end : ℕ → Option NextAct → Bool
sees_end code (Some (next_act.End other)) = code == other
sees_end code _ = false
