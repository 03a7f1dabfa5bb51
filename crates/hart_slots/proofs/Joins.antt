-- Harts and their frames, put together and taken apart.
use Rattle.std.proofs.Common.{◌≡◌, ℕ, zero, suc, List, [], ◌∷◌, length, map, set, get_or, refl, ap, sym, ◌∙◌, arith, slice_get, option_map}
use Rattle.std.proofs.lemmas.Option.{slice_get-map}
use Rattle.guest_words.specs.declared.hart.Frame.{Frame}
use Rattle.guest_words.specs.declared.hart.Hart.{Hart}
use Rattle.guest_words.specs.State.{changed, on_each, on_hart}
use Rattle.hart_slots.specs.Parts.{on_frames}
use Rattle.hart_slots.specs.Rejoined.{frames_of, hart_of, joined, rejoined}
use Rattle.hart_slots.proofs.OneChange.{changed-next, changed-none}

pub map-hart_of-joined : (hs : List Hart) (fs : List (List Frame)) → length hs ≡ length fs → map hart_of (joined hs fs) ≡ hs
map-hart_of-joined [] fs same = refl
map-hart_of-joined (h ∷ hs) [] same = absurd (omega (arith, same))
map-hart_of-joined (h ∷ hs) (f ∷ fs) same = ap (λ xs. h ∷ xs) (map-hart_of-joined hs fs (omega (arith, same)))

pub map-frames-joined : (hs : List Hart) (fs : List (List Frame)) → length hs ≡ length fs → map (λ slot. slot.frames) (joined hs fs) ≡ fs
map-frames-joined [] [] same = refl
map-frames-joined [] (f ∷ fs) same = absurd (omega (arith, same))
map-frames-joined (h ∷ hs) [] same = absurd (omega (arith, same))
map-frames-joined (h ∷ hs) (f ∷ fs) same = ap (λ xs. f ∷ xs) (map-frames-joined hs fs (omega (arith, same)))

pub length-joined : (hs : List Hart) (fs : List (List Frame)) → length hs ≡ length fs → length (joined hs fs) ≡ length fs
length-joined [] [] same = refl
length-joined [] (f ∷ fs) same = absurd (omega (arith, same))
length-joined (h ∷ hs) [] same = absurd (omega (arith, same))
length-joined (h ∷ hs) (f ∷ fs) same = ap suc (length-joined hs fs (omega (arith, same)))

-- the hart of a slot, and its frames
pub hart-joined : (hs : List Hart) (fs : List (List Frame)) (k : ℕ) → length hs ≡ length fs → slice_get hs k ≡ option_map hart_of (slice_get (joined hs fs) k)
hart-joined hs fs k same =
    ap (λ xs. slice_get xs k) (sym (map-hart_of-joined hs fs same)) ∙ slice_get-map hart_of (joined hs fs) k

pub frames-joined : (hs : List Hart) (fs : List (List Frame)) (k : ℕ) → length hs ≡ length fs → get_or fs k [] ≡ frames_of (slice_get (joined hs fs) k)
frames-joined [] [] k same = refl
frames-joined [] (f ∷ fs) k same = absurd (omega (arith, same))
frames-joined (h ∷ hs) [] k same = absurd (omega (arith, same))
frames-joined (h ∷ hs) (f ∷ fs) zero same = refl
frames-joined (h ∷ hs) (f ∷ fs) (suc k) same = frames-joined hs fs k (omega (arith, same))

-- changes

pub joined-map : (f : Hart → Hart) (hs : List Hart) (fs : List (List Frame)) → joined (map f hs) fs ≡ on_each f (joined hs fs)
joined-map f [] fs = refl
joined-map f (h ∷ hs) [] = refl
joined-map f (h ∷ hs) (frames ∷ fs) = ap (λ xs. record { hart = f h; frames = frames } ∷ xs) (joined-map f hs fs)

pub joined-set : (x : Hart) (k : ℕ) (hs : List Hart) (fs : List (List Frame)) → joined (set hs k x) fs ≡ changed (on_hart (λ before. x)) k (joined hs fs)
unfolding changed
joined-set x k [] fs = sym (changed-none (on_hart (λ before. x)) k)
joined-set x zero (h ∷ hs) [] = sym (changed-none (on_hart (λ before. x)) zero)
joined-set x (suc k) (h ∷ hs) [] = sym (changed-none (on_hart (λ before. x)) (suc k))
joined-set x zero (h ∷ hs) (f ∷ fs) = refl
joined-set x (suc k) (h ∷ hs) (f ∷ fs) =
    ap (λ xs. record { hart = h; frames = f } ∷ xs) (joined-set x k hs fs) ∙ sym (changed-next (on_hart (λ before. x)) k (record { hart = h; frames = f }) (joined hs fs))

pub joined-frames : (f : List Frame → List Frame) (k : ℕ) (hs : List Hart) (fs : List (List Frame)) (d : List Frame)
    → joined hs (set fs k (f (get_or fs k d))) ≡ changed (on_frames f) k (joined hs fs)
unfolding changed
joined-frames f k [] fs d = sym (changed-none (on_frames f) k)
joined-frames f zero (h ∷ hs) [] d = sym (changed-none (on_frames f) zero)
joined-frames f (suc k) (h ∷ hs) [] d = sym (changed-none (on_frames f) (suc k))
joined-frames f zero (h ∷ hs) (frames ∷ fs) d = refl
joined-frames f (suc k) (h ∷ hs) (frames ∷ fs) d =
    ap (λ xs. record { hart = h; frames = frames } ∷ xs) (joined-frames f k hs fs d) ∙ sym (changed-next (on_frames f) k (record { hart = h; frames = frames }) (joined hs fs))

pub rejoined-joined : (kept hs : List Hart) (fs : List (List Frame)) → length hs ≡ length fs → rejoined kept (joined hs fs) ≡ joined kept fs
rejoined-joined [] hs fs same = refl
rejoined-joined (x ∷ kept) [] [] same = refl
rejoined-joined (x ∷ kept) [] (f ∷ fs) same = absurd (omega (arith, same))
rejoined-joined (x ∷ kept) (h ∷ hs) [] same = refl
rejoined-joined (x ∷ kept) (h ∷ hs) (f ∷ fs) same =
    ap (λ xs. record { hart = x; frames = f } ∷ xs) (rejoined-joined kept hs fs (omega (arith, same)))
