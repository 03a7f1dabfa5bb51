-- A machine that a step left as it was.
use Rattle.std.proofs.Common.{◌≡◌, ◌⊎◌, ℕ, Option, Some, None, sym, subst, refl}
use Rattle.guest_words.specs.declared.point.PointRef.{PointRef}
use Rattle.guest_words.specs.State.{State}
use Rattle.machine_core.specs.declared.stepped.Stepped.{Stepped}
use Rattle.machine_core.specs.declared.stepped.Stepped.TheVariants as stepped
use Rattle.machine_core.specs.Machine.{Machine}
use Rattle.machine_core.specs.QuietSteps.{HasArrived}
use Rattle.lone_schedule.specs.Drives.{CanTurn, GivesUp, MakesTurn}

pub arrived_point : (x : Option Stepped) → HasArrived x → (p : PointRef) × (x ≡ Some (stepped.Arrived p))
arrived_point None is = absurd is
arrived_point (Some stepped.Moved) is = absurd is
arrived_point (Some (stepped.Arrived p)) is = (p, refl)
arrived_point (Some (stepped.Idle t)) is = absurd is
arrived_point (Some (stepped.Ended x)) is = absurd is

pub can_still : (start : State) (m k : Machine) → k ≡ m → CanTurn start m → CanTurn start k
can_still start m k same can = subst (CanTurn start) (sym same) can

pub gives_still : (m k n : Machine) → k ≡ m → GivesUp k n → GivesUp m n
gives_still m k n same given = subst (λ (x : Machine). GivesUp x n) same given

pub still_call : (h : ℕ) (m k n : Machine) → k ≡ m → GivesUp k n ⊎ MakesTurn h k.history k.state n → GivesUp m n ⊎ MakesTurn h m.history m.state n
still_call h m k n same call = subst (λ (x : Machine). GivesUp x n ⊎ MakesTurn h x.history x.state n) same call
