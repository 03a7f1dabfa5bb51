-- Rescue points: which are active, what they return, how many rescues are left to them, and the
-- list of them.
use Rattle.std.specs.Prelude.{ℕ, ◌≤◌, ◌-◌, ◌==◌, Bool, true, false, not, ◌&&◌, List, length, map, Option, Some, None, find, option_map, unwrap_or, slice_get, ◌≢◌, if◌then◌else◌}
use Rattle.std.specs.List.{AllPairs, list_any}
use Rattle.guest_words.specs.declared.point.Ret.{Ret}
use Rattle.guest_words.specs.declared.point.Ret.TheVariants.{Void}
use Rattle.guest_words.specs.declared.point.Kind.{Kind}
use Rattle.guest_words.specs.declared.point.Kind.TheVariants.{Blocking, Loose, Off}
use Rattle.guest_words.specs.declared.point.Point.{Point}
use Rattle.guest_words.specs.declared.point.PointRef.{PointRef}
use Rattle.guest_words.specs.declared.fault.FaultName.{FaultName}
use Rattle.guest_words.specs.declared.limits.TheConstants.{POINTS}
use Rattle.guest_words.specs.Names.{order_of}

abbrev pub is_on : Kind → Bool
is_on Blocking = true
is_on Loose = true
is_on Off = false

-- no rescue is left
abbrev pub is_spent : Option ℕ → Bool
is_spent None = false
is_spent (Some left) = left == 0

-- a point is active where its kind isn't Off and a rescue is left
abbrev pub is_active : Point → Bool
is_active p = is_on p.kind && not (is_spent p.left)

abbrev pub is_loose : Point → Bool
is_loose p = is_loose_kind p.kind
  where
    is_loose_kind : Kind → Bool
    is_loose_kind Loose = true
    is_loose_kind _ = false

abbrev pub has_loose : List Point → Bool
has_loose points = list_any is_loose points

abbrev pub reference_of : Point → PointRef
reference_of p = record { entry = p.entry }

-- the active point with this entry
abbrev pub active_at : List Point → ℕ → Option PointRef
active_at points pc = option_map reference_of (find (λ p. is_active p && (p.entry == pc)) points)

-- what a point returns for a fault: its codes are in the order of the faults
abbrev pub code_in : Point → FaultName → Ret
code_in p name = unwrap_or (slice_get p.codes (order_of name)) Void

-- what the point with this entry returns for a fault
abbrev pub code_of : List Point → ℕ → FaultName → Ret
code_of points entry name =
    unwrap_or (option_map (λ p. code_in p name) (find (λ p. p.entry == entry) points)) Void

-- a point with one rescue less, where they are counted and one is left
abbrev pub spent_once : Point → Point
spent_once p = record p { left = option_map (λ left. left - 1) p.left }

abbrev pub spent_at : ℕ → Point → Point
spent_at entry p = if p.entry == entry then spent_once p else p

-- the points after a rescue from the one with this entry
abbrev pub spent : List Point → ℕ → List Point
spent points entry = map (spent_at entry) points

-- at most 256 points, no two at one entry
pub record IsPointList (points : List Point) : Type 0 where
  pub count : length points ≤ POINTS
  pub distinct : AllPairs (λ p q. p.entry ≢ q.entry) points
