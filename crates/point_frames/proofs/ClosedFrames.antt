-- The frames that stay, by the innermost one.
use Rattle.std.proofs.Common.{◌≡◌, ℕ, zero, suc, ◌+◌, ◌-◌, ◌<◌, ◌≤◌, Bool, true, false, List, [], ◌∷◌, ◌++◌, refl, ap, sym, ◌∙◌, subst, if◌then◌else◌, length, take, get_or, slice_index_or, arith}
use Rattle.std.proofs.Math.Seq.{take-length, take-suc}
use Rattle.guest_words.specs.declared.hart.Hart.{Hart}
use Rattle.guest_words.specs.declared.hart.Frame.{Frame}
use Rattle.guest_words.specs.Harts.{is_over, close_frames, kept_below}

-- an innermost frame that is over closes, and then those below it
pub close_frames-over : (hart : Hart) (frames : List Frame) (frame : Frame) → is_over hart frame ≡ true → close_frames hart (frames ++ frame ∷ []) ≡ close_frames hart frames
unfolding close_frames
close_frames-over hart [] frame over = ap (λ b. if b then [] else frame ∷ []) over
close_frames-over hart (outer ∷ frames) frame over = ap (kept_below hart outer) (close_frames-over hart frames frame over)

kept_below-append : (hart : Hart) (outer : Frame) (frames : List Frame) (frame : Frame) → kept_below hart outer (frames ++ frame ∷ []) ≡ outer ∷ (frames ++ frame ∷ [])
kept_below-append hart outer [] frame = refl
kept_below-append hart outer (inner ∷ frames) frame = refl

-- one that isn't over stays, and all that it is inside of
pub close_frames-stays : (hart : Hart) (frames : List Frame) (frame : Frame) → is_over hart frame ≡ false → close_frames hart (frames ++ frame ∷ []) ≡ frames ++ frame ∷ []
unfolding close_frames
close_frames-stays hart [] frame stays = ap (λ b. if b then [] else frame ∷ []) stays
close_frames-stays hart (outer ∷ frames) frame stays =
    ap (kept_below hart outer) (close_frames-stays hart frames frame stays) ∙ kept_below-append hart outer frames frame

pub close_frames-none : (hart : Hart) → close_frames hart [] ≡ []
unfolding close_frames
close_frames-none hart = refl

-- the frames, with the innermost apart
innermost : (frames : List Frame) (d : Frame) → 1 ≤ length frames → frames ≡ take (length frames - 1) frames ++ get_or frames (length frames - 1) d ∷ []
innermost frames d some =
    let within : length frames - 1 < length frames = omega (arith, some) in
    let all : suc (length frames - 1) ≡ length frames = omega (arith, some) in
    sym (take-length frames) ∙ ap (λ n. take n frames) (sym all) ∙ take-suc frames (length frames - 1) d within

pub close_frames-innermost_over : (hart : Hart) (frames : List Frame) (d : Frame) → 1 ≤ length frames → is_over hart (get_or frames (length frames - 1) d) ≡ true
    → close_frames hart frames ≡ close_frames hart (take (length frames - 1) frames)
close_frames-innermost_over hart frames d some over =
    ap (close_frames hart) (innermost frames d some) ∙ close_frames-over hart (take (length frames - 1) frames) _ over

pub close_frames-innermost_stays : (hart : Hart) (frames : List Frame) (d : Frame) → 1 ≤ length frames → is_over hart (get_or frames (length frames - 1) d) ≡ false
    → close_frames hart frames ≡ frames
close_frames-innermost_stays hart frames d some stays =
    ap (close_frames hart) (innermost frames d some) ∙ close_frames-stays hart (take (length frames - 1) frames) _ stays ∙ sym (innermost frames d some)

-- fewer of the first frames, of a part of them
pub take-part : (frames : List Frame) (n k : ℕ) → n ≤ length (take k frames) → take n (take k frames) ≡ take n frames
take-part frames zero k within = refl
take-part frames (suc n) zero within = absurd (omega (arith, within))
take-part [] (suc n) (suc k) within = absurd (omega (arith, within))
take-part (f ∷ fs) (suc n) (suc k) within = ap (λ xs. f ∷ xs) (take-part fs n k (omega (arith, within)))

pub close_frames-empty : (hart : Hart) (frames : List Frame) → length frames < 1 → close_frames hart frames ≡ take (length frames) frames
close_frames-empty hart [] none = close_frames-none hart
close_frames-empty hart (f ∷ fs) none = absurd (omega (arith, none))
