use Rattle.stop_gate.proofs.RuleSays as says
use Rattle.stop_gate.proofs.gate.Gate.rule.Goals as goal

pub returns : goal.returns
returns g c = record {
  low_part = says.low_part_counts g.C.Held;
  stop_bit = says.stop_bit_is_raised g.C.Held;
  stopper = says.stopper_has_the_bit g.C.Held;
  one_stops = says.one_stops g.C.Held;
  alone = says.alone_is_alone g.C.Held;
  odd = says.odd_is_taken g.C.Held;
  taker = says.taker_makes_odd g.C.Held;
  one_turns = says.one_turns g.C.Held;
  taken = says.taker_knows g.C.Held;
  home = says.even_is_home g.C.Held;
  seen = says.seen_is_there g.C.Held;
  over = says.over_is_told g.C.Held;
  few = says.few_passes g.C.Held;
}
