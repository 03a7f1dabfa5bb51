-- What the rule says of single passes.
use Rattle.std.proofs.Common.{ℕ, ◌≤◌, ◌<◌, Bool, ap, arith, Option}
use native.Mathlib.Decide.{ℕ_discrete}
use Rattle.atomic_table.specs.Table.{State}
use Rattle.stop_gate.specs.declared.held.Held.{Ghosts as Held}
use Rattle.stop_gate.specs.declared.view.View.{View}
use Rattle.stop_gate.specs.declared.view.Place.{Place}
use Rattle.stop_gate.specs.Places.{is_stopping, is_inside, is_alone, has_turn, count_at}
use Rattle.stop_gate.specs.Consequences.{IsPass, SomePass, NeverTwo, LowPartCounts, StopBitIsRaised, StopperHasTheBit, OneStops, AloneIsAlone, OddIsTaken, TakerMakesOdd, OneTurns, TakerKnows, EvenIsHome, SeenIsThere, OverIsTold, FewPasses}
use Rattle.stop_gate.proofs.Words.{stop_true, stop_set}
use Rattle.stop_gate.proofs.Sums.{sum_by-here, sum_by-two, sum_by-some}
use Rattle.stop_gate.proofs.PlaceFacts.{weight, weight_true, weighs}

module _ {C O : Type 0} (s : State (Option C) (View O)) (p : Place → Bool) where
  -- a pass at such a place is counted
  counted : (k : ℕ) (v : View O) → IsPass s p k v → 1 ≤ count_at p s.views
  counted k v is = let one = ap weight is.1 in omega (arith, sum_by-here (weighs p) s.views k v is.0)

  some_pass : 0 < count_at p s.views → SomePass s p
  some_pass more =
      let found = sum_by-some (weighs p) s.views more in
      (found.0, found.1, (found.2, weight_true (p found.1.at) found.3))

  never_two : count_at p s.views ≤ 1 → NeverTwo s p
  never_two one j k v w is_v is_w = elim (ℕ_discrete j k) [
    | yes same ↦ same
    | no apart ↦ absurd (let a = ap weight is_v.1 in let b = ap weight is_w.1 in omega (arith, sum_by-two (weighs p) s.views j k v w is_v.0 is_w.0 apart))
  ]

module _ {C O : Type 0} (held : Held C O) where
  pub low_part_counts : LowPartCounts held
  low_part_counts began s r = r.low_part

  pub stop_bit_is_raised : StopBitIsRaised held
  stop_bit_is_raised began s r up = let bit = r.stop_bit in some_pass s is_stopping (let high = stop_true _ up in omega arith)

  pub stopper_has_the_bit : StopperHasTheBit held
  stopper_has_the_bit began s r k v is = let bit = r.stop_bit in stop_set _ (let more = counted s is_stopping k v is in omega arith)

  pub one_stops : OneStops held
  one_stops began s r = never_two s is_stopping r.one_stops

  pub alone_is_alone : AloneIsAlone held
  alone_is_alone began s r alone k v is =
      let none = r.alone (let more = counted s is_alone alone.0 alone.1 alone.2 in omega arith) in
      let more = counted s is_inside k v is in
      omega arith

  pub odd_is_taken : OddIsTaken held
  odd_is_taken began s r odd = let turn = r.one_turns in some_pass s has_turn (omega arith)

  pub taker_makes_odd : TakerMakesOdd held
  taker_makes_odd began s r k v is = let turn = r.one_turns in let more = counted s has_turn k v is in omega arith

  pub one_turns : OneTurns held
  one_turns began s r = let turn = r.one_turns in never_two s has_turn (omega arith)

  pub taker_knows : TakerKnows held
  taker_knows began s r k v is = (r.knows k v is.0).taken is.1

  pub even_is_home : EvenIsHome held
  even_is_home began s r = r.home

  pub seen_is_there : SeenIsThere held
  seen_is_there began s r k v here = (r.knows k v here).seen

  pub over_is_told : OverIsTold held
  over_is_told began s r k v here = (r.knows k v here).over

  pub few_passes : FewPasses held
  few_passes began s r = let room = r.room in omega arith
