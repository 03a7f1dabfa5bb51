-- A slot whose hart isn't ready.
use Rattle.std.proofs.Common.{◌≡◌, ◌<◌, ℕ, zero, suc, List, [], ◌∷◌, false, length, get_or, refl, arith, slice_get}
use Rattle.guest_words.specs.declared.hart.Frame.{Frame}
use Rattle.guest_words.specs.declared.hart.Hart.{Hart}
use Rattle.guest_words.specs.Harts.{is_ready}
use Rattle.run_history.specs.Legal.{is_ready_slot}
use Rattle.hart_slots.specs.Rejoined.{joined}

pub idle-joined : (hs : List Hart) (fs : List (List Frame)) (h : ℕ)
    → ((d : Hart) → h < length hs → is_ready (get_or hs h d).state ≡ false)
    → is_ready_slot (slice_get (joined hs fs) h) ≡ false
idle-joined [] fs h idle = refl
idle-joined (hart ∷ hs) [] h idle = refl
idle-joined (hart ∷ hs) (frames ∷ fs) zero idle = idle hart (omega arith)
idle-joined (hart ∷ hs) (frames ∷ fs) (suc h) idle = idle-joined hs fs h (λ d within. idle d (omega (arith, within)))
