-- Stretches that workers make outside the turn.
use Rattle.std.specs.Prelude.{◌≡◌, ℕ, true}
use Rattle.guest_words.specs.declared.hart.Hart.{Hart}
use Rattle.guest_words.specs.Harts.{is_ready}
use Rattle.guest_words.specs.State.{State}
use Rattle.hart_step.specs.InPlace.{HasZero}
use Rattle.machine_core.specs.Commits.{IsStretchFrom}

-- so many register acts lead from one hart to another
pub record Made : Type 0 where
  pub base : Hart
  pub after : Hart
  pub count : ℕ

-- they are acts of a ready hart, by the text and the points of the start
pub record IsMade (start : State) (m : Made) : Type 0 where
  pub ready : is_ready m.base.state ≡ true
  pub zero : HasZero m.base
  pub made : IsStretchFrom start m.base m.after m.count
