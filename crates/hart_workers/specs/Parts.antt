-- Parts of the workers of a gate, each worker with a pass of its own.
use Rattle.std.specs.Prelude.{◌≡◌, ℕ, ◌+◌, ◌<◌, ◌≤◌, List, length, All, Option, IfSome, IsSome}
use Rattle.std.specs.Thread.{IsSend, IsSync}
use denote.RattleType.{RattleType}
use Rattle.guest_words.specs.declared.limits.TheConstants.{HARTS}
use Rattle.guest_words.specs.declared.point.Point.{Point}
use Rattle.guest_words.specs.State.{State}
use Rattle.hart_step.specs.Registers.{IsTextOf, Stretch}
use Rattle.stop_gate.specs.Passes.{Identity, Pass, IsOf}

module _ {O : Type 0} where
  -- a pass of this gate waits here for its worker
  abbrev pub IsWaiting : Identity O → Option (Pass O) → Type 0
  IsWaiting gate place = IsSome place × IfSome place (λ pass. IsOf gate pass)

  -- workers for the harts from this one on, one at least, of a run that began so, and the passes
  -- that wait for them
  pub record IsPart (start : State) (gate : Identity O) (first : ℕ)
      (places : List (Option (Pass O))) : Type 0 where
    pub some : 0 < length places
    pub within : first + length places ≤ length start.slots
    pub few : first + length places ≤ HARTS
    pub each : All (IsWaiting gate) places

-- the instructions and the points of the start of a run
pub record IsOfStart (start : State) (words : List Stretch) (list : List Point) : Type 0 where
  pub text : IsTextOf words start.memory
  pub points : list ≡ start.points

-- what threads share, and what goes from one to another: the runtime, the door, the origin, the
-- devices and the machine
pub record Crosses (runtime door origin source sink port machine : RattleType) : Type 0 where
  pub shares_runtime : IsSync runtime
  pub shares_door : IsSync door
  pub shares_origin : IsSync origin
  pub sends_origin : IsSend origin
  pub sends_source : IsSend source
  pub sends_sink : IsSend sink
  pub sends_port : IsSend port
  pub sends_machine : IsSend machine
