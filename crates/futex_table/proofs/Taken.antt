-- The places of a queue, as its calls change them.
use Rattle.std.proofs.Common.{◌≡◌, ◌<◌, ◌+◌, ℕ, suc, false, List, [], ◌∷◌, ◌++◌, length, take, set, ap, sym, ◌∙◌, subst, length-set, arith}
use Rattle.std.proofs.lemmas.List.{length-take}
use Rattle.std.proofs.Math.Seq.{take-suc-set}
use Rattle.guest_words.specs.declared.hart.Waiter.{Waiter}
use Rattle.guest_words.specs.declared.limits.TheConstants.{HARTS}
use Rattle.futex_table.specs.Slots.{has_slot, HasOwnSlots, IsTaken}
use Rattle.futex_table.proofs.OwnSlots.{HasOwnSlots-push, room-own}

pub length-taken : (places : List Waiter) (count : ℕ) → IsTaken places count → length (take count places) ≡ count
length-taken places count taken = omega (arith, length-take count places, taken.size, taken.within)

-- a hart that doesn't wait leaves a place
pub room : (places : List Waiter) (count slot : ℕ) → IsTaken places count → slot < HARTS → has_slot slot (take count places) ≡ false
    → count < HARTS
room places count slot taken below absent =
    omega (arith, length-taken places count taken, room-own (take count places) slot taken.own below absent)

pub take-enqueued : (places : List Waiter) (count slot : ℕ) (new : Waiter) → IsTaken places count → slot < HARTS → has_slot slot (take count places) ≡ false
    → take (count + 1) (set places count new) ≡ take count places ++ new ∷ []
take-enqueued places count slot new taken below absent =
    let fits : count < length places = omega (arith, room places count slot taken below absent, taken.size) in
    let one : count + 1 ≡ suc count = omega arith in
    ap (λ n. take n (set places count new)) one ∙ take-suc-set places count new fits

pub IsTaken-enqueued : (places : List Waiter) (count slot place : ℕ) → IsTaken places count → slot < HARTS → has_slot slot (take count places) ≡ false
    → IsTaken (set places count (record { slot = slot; place = place })) (count + 1)
IsTaken-enqueued places count slot place taken below absent = record {
  size = length-set places count (record { slot = slot; place = place }) ∙ taken.size;
  within = omega (arith, room places count slot taken below absent);
  own =
      subst HasOwnSlots (sym (take-enqueued places count slot (record { slot = slot; place = place }) taken below absent))
      (HasOwnSlots-push (take count places) slot place taken.own below absent);
}
