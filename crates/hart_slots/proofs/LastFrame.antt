-- The innermost of some frames.
use Rattle.std.proofs.Common.{◌≡◌, suc, ◌-◌, ◌≤◌, List, [], ◌∷◌, length, get_or, Some, refl, ap, ◌∙◌, arith}
use Rattle.guest_words.specs.declared.hart.Frame.{Frame}
use Rattle.hart_slots.specs.Rejoined.{last_of}

pub last-read : (frames : List Frame) (d : Frame) → 1 ≤ length frames → Some (get_or frames (length frames - 1) d) ≡ last_of frames
last-read [] d some = absurd (omega (arith, some))
last-read (frame ∷ []) d some = refl
last-read (frame ∷ (inner ∷ rest)) d some =
    let next : suc (suc (length rest)) - 1 ≡ suc (suc (length rest) - 1) = omega arith in
    ap (λ k. Some (get_or (frame ∷ (inner ∷ rest)) k d)) next ∙ last-read (inner ∷ rest) d (omega arith)
