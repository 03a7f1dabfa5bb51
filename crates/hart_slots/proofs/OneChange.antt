-- A change of one slot.
use Rattle.std.proofs.Common.{◌≡◌, ℕ, zero, suc, ◌-◌, ◌<◌, false, List, [], ◌∷◌, ◌++◌, length, take, set, refl, ap, sym, ◌∙◌, Option, Some, None, slice_get, option_map, arith}
use Rattle.guest_words.specs.declared.hart.Hart.{Hart}
use Rattle.guest_words.specs.declared.hart.Slot.{Slot}
use Rattle.guest_words.specs.State.{changed, changed_by, on_hart}
use Rattle.guest_words.specs.declared.hart.Frame.{Frame}
use Rattle.guest_words.specs.declared.point.PointRef.{PointRef}
use Rattle.guest_words.specs.declared.hart.HartState.TheVariants.{Gone}
use Rattle.guest_words.specs.Harts.{close_frames, frame_of, opened}
use Rattle.guest_words.specs.State.{closed}
use Rattle.guest_words.specs.CallChanges.{departed, with_child}
use Rattle.hart_slots.specs.Parts.{on_frames}
use Rattle.hart_slots.specs.Rejoined.{frames_of, hart_of, reopened}

pub changed-none : (f : Slot → Slot) (k : ℕ) → changed f k [] ≡ []
unfolding changed
changed-none f zero = refl
changed-none f (suc k) = refl

pub changed-next : (f : Slot → Slot) (k : ℕ) (slot : Slot) (slots : List Slot) → changed f (suc k) (slot ∷ slots) ≡ slot ∷ changed f k slots
unfolding changed
changed-next f k slot slots = by (slice_get slots k)
  where
    by : (o : Option Slot) → changed_by f (suc k) (slot ∷ slots) o ≡ slot ∷ changed_by f k slots o
    by None = refl
    by (Some it) = refl

-- two changes that do the same to the slot
pub changed-alike : (f g : Slot → Slot) (k : ℕ) (slots : List Slot) → ((slot : Slot) → slice_get slots k ≡ Some slot → f slot ≡ g slot)
    → changed f k slots ≡ changed g k slots
unfolding changed
changed-alike f g k slots alike = by (slice_get slots k) refl
  where
    by : (o : Option Slot) → slice_get slots k ≡ o → changed_by f k slots o ≡ changed_by g k slots o
    by None is = refl
    by (Some slot) is = ap (set slots k) (alike slot is)

pub changed-twice : (f g : Slot → Slot) (k : ℕ) (slots : List Slot) → changed g k (changed f k slots) ≡ changed (λ slot. g (f slot)) k slots
unfolding changed
changed-twice f g k [] = changed-none g k ∙ sym (changed-none (λ slot. g (f slot)) k)
changed-twice f g zero (slot ∷ slots) = refl
changed-twice f g (suc k) (slot ∷ slots) =
    ap (changed g (suc k)) (changed-next f k slot slots) ∙ changed-next g k slot (changed f k slots)
    ∙ ap (λ xs. slot ∷ xs) (changed-twice f g k slots) ∙ sym (changed-next (λ slot. g (f slot)) k slot slots)

abbrev hart_or : Hart → Option Hart → Hart
hart_or d None = d
hart_or d (Some hart) = hart

-- the hart that was read is the one in the slot
pub same-hart : (slots : List Slot) (k : ℕ) (hart : Hart) (slot : Slot) → Some hart ≡ option_map hart_of (slice_get slots k) → slice_get slots k ≡ Some slot → hart ≡ slot.hart
same-hart slots k hart slot read is = ap (hart_or hart) (read ∙ ap (option_map hart_of) is)

-- another hart, made from the one that was read
pub changed-put : (f : Hart → Hart) (k : ℕ) (slots : List Slot) (hart x : Hart) → Some hart ≡ option_map hart_of (slice_get slots k) → x ≡ f hart
    → changed (on_hart (λ before. x)) k slots ≡ changed (on_hart f) k slots
changed-put f k slots hart x read made =
    changed-alike (on_hart (λ before. x)) (on_hart f) k slots (λ slot is.
    ap (λ (h : Hart). record slot { hart = h }) (made ∙ ap f (same-hart slots k hart slot read is)))

pub changed-absent : (f : Slot → Slot) (k : ℕ) (slots : List Slot) → None ≡ option_map hart_of (slice_get slots k) → slots ≡ changed f k slots
unfolding changed
changed-absent f k slots none = by (slice_get slots k) none
  where
    by : (o : Option Slot) → None ≡ option_map hart_of o → slots ≡ changed_by f k slots o
    by None is = refl
    by (Some slot) is = absurd (cc)

changed-to : (to : Slot) (k : ℕ) (slots : List Slot) → changed (λ slot. to) k slots ≡ set slots k to
unfolding changed
changed-to to zero [] = refl
changed-to to (suc k) [] = refl
changed-to to zero (slot ∷ slots) = refl
changed-to to (suc k) (slot ∷ slots) = changed-next (λ slot. to) k slot slots ∙ ap (λ xs. slot ∷ xs) (changed-to to k slots)

-- a new hart, without frames, made from its parent's
pub child-added : (child : Slot → Slot) (x : Hart) (h k : ℕ) (slots : List Slot) (parent : Hart) → Some parent ≡ option_map hart_of (slice_get slots h)
    → ((slot : Slot) → parent ≡ slot.hart → record { hart = x; frames = [] } ≡ child slot)
    → changed (on_frames (take 0)) k (changed (on_hart (λ before. x)) k slots) ≡ with_child k child (slice_get slots h) slots
child-added child x h k slots parent read made =
    changed-twice (on_hart (λ before. x)) (on_frames (take 0)) k slots
    ∙ changed-to (record { hart = x; frames = [] }) k slots ∙ by (slice_get slots h) refl
  where
    by : (o : Option Slot) → slice_get slots h ≡ o → set slots k (record { hart = x; frames = [] }) ≡ with_child k child o slots
    by None is = let no : Some parent ≡ None = read ∙ ap (option_map hart_of) is in cc
    by (Some slot) is = ap (set slots k) (made slot (same-hart slots h parent slot read is))

pub child-absent : (child : Slot → Slot) (h k : ℕ) (slots : List Slot) → None ≡ option_map hart_of (slice_get slots h) → slots ≡ with_child k child (slice_get slots h) slots
child-absent child h k slots none = by (slice_get slots h) none
  where
    by : (o : Option Slot) → None ≡ option_map hart_of o → slots ≡ with_child k child o slots
    by None is = refl
    by (Some slot) is = absurd (cc)

-- the hart gone, and then its frames
pub departed-twice : (code k : ℕ) (slots : List Slot) (hart : Hart) → Some hart ≡ option_map hart_of (slice_get slots k)
    → changed (on_frames (take 0)) k (changed (on_hart (λ before. record hart { arrived = false; reservation = None; state = Gone code })) k slots)
    ≡ changed (departed code) k slots
departed-twice code k slots hart read =
    let x : Hart = record hart { arrived = false; reservation = None; state = Gone code } in
    changed-twice (on_hart (λ before. x)) (on_frames (take 0)) k slots
    ∙ changed-alike (λ slot. on_frames (take 0) (on_hart (λ before. x) slot)) (departed code) k slots (λ slot is.
    ap (λ (h : Hart). departed code (record slot { hart = h })) (same-hart slots k hart slot read is))

-- a change of the frames leaves the hart
pub hart-on_frames : (f : List Frame → List Frame) (k : ℕ) (slots : List Slot) → option_map hart_of (slice_get (changed (on_frames f) k slots) k) ≡ option_map hart_of (slice_get slots k)
unfolding changed
hart-on_frames f zero [] = refl
hart-on_frames f (suc k) [] = refl
hart-on_frames f zero (slot ∷ slots) = refl
hart-on_frames f (suc k) (slot ∷ slots) = ap (λ xs. option_map hart_of (slice_get xs (suc k))) (changed-next (on_frames f) k slot slots) ∙ hart-on_frames f k slots

-- the frame opened, and then the hart no more at the point
pub opened-twice : (point : PointRef) (frame : Frame) (k : ℕ) (slots : List Slot) (hart : Hart) → Some hart ≡ option_map hart_of (slice_get slots k)
    → frame ≡ frame_of hart point
    → changed (on_hart (λ before. record hart { arrived = false })) k (changed (on_frames (λ frames. frames ++ frame ∷ [])) k slots)
    ≡ changed (opened point) k slots
opened-twice point frame k slots hart read made =
    let x : Hart = record hart { arrived = false } in
    changed-twice (on_frames (λ frames. frames ++ frame ∷ [])) (on_hart (λ before. x)) k slots
    ∙ changed-alike (λ slot. on_hart (λ before. x) (on_frames (λ frames. frames ++ frame ∷ []) slot)) (opened point) k slots (λ slot is.
    ap (λ (f : Frame). record { hart = x; frames = slot.frames ++ f ∷ [] }) made
    ∙ ap (λ (h : Hart). opened point (record slot { hart = h })) (same-hart slots k hart slot read is))

-- the same, where the hart is changed in place
pub hart-within : (slots : List Slot) (k : ℕ) (hart : Hart) → Some hart ≡ option_map hart_of (slice_get slots k) → k < length slots
hart-within [] zero hart is = absurd (cc)
hart-within [] (suc k) hart is = absurd (cc)
hart-within (slot ∷ slots) zero hart is = omega arith
hart-within (slot ∷ slots) (suc k) hart is = let n = hart-within slots k hart is in omega (arith, n)

pub opened-read : (frame : Frame) (k : ℕ) (slots new : List Slot) (hart : Hart) → Some hart ≡ option_map hart_of (slice_get slots k)
    → new ≡ changed (on_frames (λ frames. frames ++ frame ∷ [])) k slots → Some hart ≡ option_map hart_of (slice_get new k)
opened-read frame k slots new hart read is =
    read ∙ sym (hart-on_frames (λ frames. frames ++ frame ∷ []) k slots) ∙ sym (ap (λ xs. option_map hart_of (slice_get xs k)) is)

pub opened-in_place : (point : PointRef) (frame : Frame) (k : ℕ) (slots new : List Slot) (hart lent : Hart) → Some hart ≡ option_map hart_of (slice_get slots k)
    → frame ≡ frame_of hart point → new ≡ changed (on_frames (λ frames. frames ++ frame ∷ [])) k slots → option_map hart_of (slice_get new k) ≡ Some lent
    → changed (on_hart (λ before. record lent { arrived = false })) k new ≡ changed (opened point) k slots
opened-in_place point frame k slots new hart lent read made is now =
    ap (λ (x : Hart). changed (on_hart (λ before. record x { arrived = false })) k new) (sym (ap (hart_or hart) (opened-read frame k slots new hart read is ∙ now)))
    ∙ ap (changed (on_hart (λ before. record hart { arrived = false })) k) is ∙ opened-twice point frame k slots hart read made

-- the frames that stay open
pub closed-kept : (k count : ℕ) (slots : List Slot) (hart : Hart) (frames : List Frame) → Some hart ≡ option_map hart_of (slice_get slots k)
    → frames ≡ frames_of (slice_get slots k) → close_frames hart frames ≡ take count frames
    → changed (on_frames (take count)) k slots ≡ changed closed k slots
closed-kept k count slots hart frames read has closes =
    changed-alike (on_frames (take count)) closed k slots (λ slot is.
    let same : frames ≡ slot.frames = has ∙ ap frames_of is in
    ap (λ (fs : List Frame). record slot { frames = fs })
    (ap (take count) (sym same) ∙ sym closes ∙ ap (λ h. close_frames h frames) (same-hart slots k hart slot read is) ∙ ap (close_frames slot.hart) same))

pub reopened-kept : (k : ℕ) (slots : List Slot) (frames : List Frame) → frames ≡ frames_of (slice_get slots k)
    → changed (on_frames (take (length frames - 1))) k slots ≡ changed reopened k slots
reopened-kept k slots frames has =
    changed-alike (on_frames (take (length frames - 1))) reopened k slots (λ slot is.
    ap (λ (fs : List Frame). record slot { frames = take (length fs - 1) slot.frames }) (has ∙ ap frames_of is))
