-- A stretch begins with no acts.
use Rattle.std.proofs.Common.{◌≡◌, true, List, Some, refl}
use Rattle.guest_words.specs.declared.hart.Hart.{Hart}
use Rattle.guest_words.specs.declared.point.Point.{Point}
use Rattle.guest_words.specs.Harts.{is_ready}
use Rattle.guest_words.specs.State.{State}
use Rattle.hart_step.specs.InPlace.{HasZero}
use Rattle.hart_step.specs.Registers.{registers, IsTextOf, Stretch}
use Rattle.hart_workers.specs.Stretches.{IsMade}

no_acts : (text : List Stretch) (points : List Point) (hart : Hart) → registers text points hart 0 ≡ Some hart
unfolding registers
no_acts text points hart = refl

pub begun : (start : State) (text : List Stretch) (hart : Hart) → IsTextOf text start.memory → is_ready hart.state ≡ true → HasZero hart → IsMade start (record { base = hart; after = hart; count = 0 })
begun start text hart tells ready zero = record {
  ready = ready;
  zero = zero;
  made = record { text = text; tells = tells; made = no_acts text start.points hart };
}
