-- A step that ends the run leaves a machine that is over, and one that arrives has a point.
use Rattle.std.proofs.Common.{◌≡◌, ◌∙◌, Bool, true, false, ◌||◌, Option, Some, None, is_some, IsTrue, refl, ap}
use Rattle.guest_words.specs.declared.ending.Ending.{Ending}
use Rattle.guest_words.specs.declared.point.PointRef.{PointRef}
use Rattle.guest_words.specs.State.{State}
use Rattle.run_history.specs.declared.entry.Entry.{Ended}
use Rattle.run_history.specs.After.{after}
use Rattle.machine_core.specs.declared.stepped.Stepped.{Stepped}
use Rattle.machine_core.specs.declared.stepped.Stepped.TheVariants as stepped
use Rattle.machine_core.specs.Beginnings.{is_over}
use Rattle.machine_core.specs.Machine.{Machine}
use Rattle.machine_core.specs.QuietSteps.{EndsBy, HasArrived}

over_by : (abandoned : Bool) (o : Option Ending) (x : Ending) → o ≡ Some x → IsTrue (abandoned || is_some o)
over_by true o x is = refl
over_by false o x is = ap is_some is

ending_of : (x : Ending) (s : State) → (after s (Ended x)).ending ≡ Some x
unfolding after
ending_of x s = refl

pub ended_over : (x : Ending) (m n : Machine) → EndsBy x m n → IsTrue (is_over n)
ended_over x m n r = over_by n.abandoned n.state.ending x (ap (λ (k : Machine). k.state.ending) r.same ∙ ending_of x m.state)

pub arrived_point : (x : Option Stepped) → HasArrived x → (p : PointRef) × (x ≡ Some (stepped.Arrived p))
arrived_point None is = absurd is
arrived_point (Some stepped.Moved) is = absurd is
arrived_point (Some (stepped.Arrived p)) is = (p, refl)
arrived_point (Some (stepped.Idle t)) is = absurd is
arrived_point (Some (stepped.Ended x)) is = absurd is
