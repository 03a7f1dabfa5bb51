-- Harts without a reservation have none to be ended.
use Rattle.std.proofs.Common.{◌≡◌, ℕ, zero, suc, [], ◌∷◌, arith, List, Option, map, refl, ap, sym, ◌∙◌}
use Rattle.std.proofs.lemmas.List.Folds.{map_fixed}
use Rattle.std.specs.List.{All}
use Rattle.guest_words.specs.declared.hart.Hart.{Hart}
use Rattle.guest_words.specs.declared.hart.Reserved.{Reserved}
use Rattle.guest_words.specs.Harts.{touched, unreserved, kept_reservation}
use Rattle.guest_atomics.specs.Free.{IsFree}

with_reservation : Hart → Option Reserved → Hart
with_reservation hart reservation = record hart { reservation = reservation }

pub touched-free : (address size : ℕ) (hart : Hart) → IsFree hart → touched address size hart ≡ hart
unfolding with_reservation
touched-free address size hart free =
    ap (λ r. with_reservation hart (kept_reservation address size r)) free ∙ ap (with_reservation hart) (sym free)

pub unreserved-free : (hart : Hart) → IsFree hart → unreserved hart ≡ hart
unfolding with_reservation
unreserved-free hart free = ap (with_reservation hart) (sym free)

pub map-touched-free : (address size : ℕ) (harts : List Hart) → All IsFree harts → map (touched address size) harts ≡ harts
map-touched-free address size harts free =
    map_fixed _ harts (λ k d within. touched-free address size _ (free k d within))

pub map-unreserved-free : (harts : List Hart) → All IsFree harts → map unreserved harts ≡ harts
map-unreserved-free harts free = map_fixed _ harts (λ k d within. unreserved-free _ (free k d within))

pub All-unreserved : (harts : List Hart) → All IsFree (map unreserved harts)
All-unreserved [] k d within = absurd (omega (arith, within))
All-unreserved (hart ∷ harts) zero d within = refl
All-unreserved (hart ∷ harts) (suc k) d within = All-unreserved harts k d (omega (arith, within))
