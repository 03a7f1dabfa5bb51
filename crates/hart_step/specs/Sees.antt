-- What a hart does next, by name.
use Rattle.std.specs.Prelude.{◌≡◌, ℕ, Bool, true, false, Option, Some, None}
use Rattle.guest_words.specs.Act.{StateAct, Ordinary, Fault, Request, Arrival, End, Absent, act_of}
use Rattle.guest_words.specs.State.{State}
use Rattle.hart_step.specs.declared.next_act.NextAct.{NextAct}
use Rattle.hart_step.specs.declared.next_act.NextAct.TheVariants as next_act

-- the name of an act; a slot that isn't there has none
abbrev pub named : StateAct → Option NextAct
named (Ordinary t) = Some next_act.Ordinary
named (Fault name) = Some (next_act.Fault name)
named (Request way port asked place) =
    Some (next_act.Request (record { way = way; port = port; asked = asked; place = place }))
named (Arrival point) = Some (next_act.Arrival point)
named (End code) = Some (next_act.End code)
named Absent = None

-- this is what the hart in a slot does next
abbrev pub Sees : State → ℕ → NextAct → Type 0
Sees s h is = named (act_of s h) ≡ Some is

abbrev pub is_ordinary_act : NextAct → Bool
is_ordinary_act next_act.Ordinary = true
is_ordinary_act _ = false
