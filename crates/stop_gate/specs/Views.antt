-- What a pass knows after each kind of step, and at first.
use Rattle.std.specs.Prelude.{ℕ, ◌+◌, ◌-◌, false}
use Rattle.stop_gate.specs.declared.view.View.{View}
use Rattle.stop_gate.specs.declared.view.Place.{Place}
use Rattle.stop_gate.specs.declared.view.Place.TheVariants.{Out, Inside, Turning, Alone, AloneTurning}
use Rattle.stop_gate.specs.Words.{length_in, over_bit}

-- where a pass is after it has taken the turn, and after it has given it back
abbrev pub turning : Place → Place
turning Inside = Turning
turning Alone = AloneTurning
turning at = at

abbrev pub settled : Place → Place
settled Turning = Inside
settled AloneTurning = Alone
settled at = at

module _ {O : Type 0} where
  -- the view after a step that found the word n and left the pass at this place
  abbrev pub moved : View O → Place → ℕ → View O
  moved v at n = record v { at = at; made = v.made + 1; last = n }

  -- the view after a step that took the value, of which n told
  abbrev pub took : View O → ℕ → View O
  took v n = record (moved v (turning v.at) n) {
    seen = length_in n;
    taken = length_in n;
    over = over_bit n;
  }

  -- the view after a step that gave the value back, of which `new` tells
  abbrev pub gave : View O → ℕ → ℕ → View O
  gave v new n = record (moved v (settled v.at) n) { seen = length_in new; over = over_bit new }

  -- a view that has made no step and has seen nothing
  abbrev pub new_view : ℕ → O → View O
  new_view spare began = record {
    at = Out;
    seen = 0;
    taken = 0;
    over = false;
    made = 0;
    last = 0;
    spare = spare;
    origin = began;
  }

  -- a split: what it leaves of a view, and the view that it adds
  abbrev pub with_less : View O → View O
  with_less v = record v { spare = v.spare - 1 }

  abbrev pub another : View O → View O
  another v = new_view 0 v.origin
