-- The first hart and the empty slots, put together.
use Rattle.std.proofs.Common.{◌≡◌, ℕ, zero, suc, ◌-◌, ◌≤◌, [], ◌∷◌, replicate, refl, ap, ◌∙◌, arith}
use Rattle.guest_words.specs.declared.hart.Hart.{Hart}
use Rattle.guest_words.specs.Start.{empty_hart, first_hart, slot_of, start_slots}
use Rattle.hart_slots.specs.Rejoined.{joined}

joined-replicate : (hart : Hart) (n : ℕ) → joined (replicate n hart) (replicate n []) ≡ replicate n (slot_of hart)
joined-replicate hart zero = refl
joined-replicate hart (suc n) = ap (λ slots. slot_of hart ∷ slots) (joined-replicate hart n)

pub joined-start : (entry n : ℕ) → 1 ≤ n → joined (first_hart entry ∷ replicate (n - 1) empty_hart) (replicate n []) ≡ start_slots entry n
joined-start entry n some =
    let all : n ≡ suc (n - 1) = omega (arith, some) in
    ap (λ k. joined (first_hart entry ∷ replicate (n - 1) empty_hart) (replicate k [])) all
    ∙ ap (λ slots. slot_of (first_hart entry) ∷ slots) (joined-replicate empty_hart (n - 1))
