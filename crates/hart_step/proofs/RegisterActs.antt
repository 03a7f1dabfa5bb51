-- Register acts in a row.
use Rattle.std.proofs.Common.{◌≡◌, ℕ, suc, ◌+◌, List, Some, refl, ap, ◌∙◌, arith}
use Rattle.guest_words.specs.declared.hart.Hart.{Hart}
use Rattle.guest_words.specs.declared.point.Point.{Point}
use Rattle.hart_step.specs.Registers.{Stretch, register_next, registers, then_next}

pub registers-none : (text : List Stretch) (points : List Point) (base : Hart) → registers text points base 0 ≡ Some base
unfolding registers
registers-none text points base = refl

pub registers-more : (text : List Stretch) (points : List Point) (base mid after : Hart) (n : ℕ) → registers text points base n ≡ Some mid → register_next text points mid ≡ Some after
    → registers text points base (n + 1) ≡ Some after
unfolding registers
registers-more text points base mid after n so_far one =
    let more : n + 1 ≡ suc n = omega arith in
    ap (registers text points base) more ∙ ap (then_next text points) so_far ∙ one
