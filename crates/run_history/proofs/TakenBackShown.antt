-- What a rescue leaves: frames outside that are over close with it, and pages and breaks are as at
-- the entry.
use Rattle.std.proofs.Common.{◌≡◌, ℕ, Bool, true, false, if◌then◌else◌, List, [], ◌∷◌, refl, ap, ◌∙◌, Some, None, slice_set, replicate}
use Rattle.std.specs.FinMap.{get}
use Rattle.guest_words.specs.declared.fault.Fault.{Fault as FaultAt}
use Rattle.guest_words.specs.declared.fault.FaultName.TheVariants.{Breakpoint}
use Rattle.guest_words.specs.declared.hart.Frame.{Frame}
use Rattle.guest_words.specs.declared.hart.Hart.{Hart}
use Rattle.guest_words.specs.declared.image.Cell.{Cell}
use Rattle.guest_words.specs.declared.image.Rights.{Rights}
use Rattle.guest_words.specs.declared.point.Kind.TheVariants.{Blocking}
use Rattle.guest_words.specs.declared.point.Point.{Point}
use Rattle.guest_words.specs.declared.point.PointRef.{PointRef}
use Rattle.guest_words.specs.declared.point.Ret.TheVariants.{Code}
use Rattle.guest_words.specs.CallChanges.{breaks, maps, unmaps}
use Rattle.guest_words.specs.Harts.{close_frames}
use Rattle.guest_words.specs.Space.{Space, with_zeros, without, zero_cell}
use Rattle.guest_words.specs.Start.{first_hart}
use Rattle.guest_words.specs.State.{State, changed, enter}
use Rattle.guest_words.proofs.SpaceLaws.{get-with_zeros, get-without, is_within}
use Rattle.run_history.specs.After.{rescued_from}

-- a point of which two rescues are left
abbrev points : List Point
points = record { entry = 0x10010; codes = replicate 8 (Code 7); kind = Blocking; left = Some 2 } ∷ []

abbrev point : PointRef
point = record { entry = 0x10010 }

abbrev fault : FaultAt
fault = record { name = Breakpoint; pc = 0x10020 }

-- the hart at the point, to return to 0x10004
abbrev arrived : Hart
arrived = record (first_hart 0x10010) { regs = slice_set (slice_set (replicate 32 0) 2 0x3fffffffc0) 1 0x10004; arrived = true }

abbrev returned : Hart
returned = record (first_hart 0x10004) { regs = slice_set (slice_set (slice_set (replicate 32 0) 2 0x3fffffffc0) 1 0x10004) 10 7 }

abbrev state_with : Space → List Frame → State
state_with m frames =
    record {
      memory = m;
      low = 0x11000;
      brk = 0x11000;
      slots = record { hart = arrived; frames = frames } ∷ [];
      waiting = [];
      next_tid = 2;
      records = [];
      steps = 5;
      ending = None;
      points = points;
      ports = 0;
      budget = 5000000;
    }

-- the call of another point that ended by a jump to this one, and one outside of it
abbrev over : Frame
over = record { point = record { entry = 0x10030 }; ra = 0x10004; sp = 0x3fffffffc0 }

abbrev outside : Frame
outside = record { point = record { entry = 0x10040 }; ra = 0x10050; sp = 0x3fffffffe0 }

-- the rescue returns from both, and the call outside goes on
pub rescue-closes_further_frames : (m : Space) (t : State)
    → (rescued_from (state_with m (outside ∷ over ∷ [])) 0 point fault t).slots ≡ (record { hart = returned; frames = outside ∷ [] }) ∷ []
unfolding rescued_from changed close_frames
rescue-closes_further_frames m t = refl

-- a call that is over and its rescue leave what was left before, less one
pub rescue-takes_one_from_what_the_inside_left : (m : Space)
    → (rescued_from (state_with m []) 0 point fault (record (state_with m []) { points = record { entry = 0x10010; codes = replicate 8 (Code 7); kind = Blocking; left = Some 1 } ∷ [] })).points
    ≡ (record { entry = 0x10010; codes = replicate 8 (Code 7); kind = Blocking; left = Some 0 }) ∷ []
unfolding rescued_from
rescue-takes_one_from_what_the_inside_left m = refl

-- a page that is there with a 9
abbrev writable : Rights
writable = record { read = true; write = true; exec = false }

abbrev nine : Cell
nine = record { byte = 9; rights = writable }

-- the point unmaps it, maps two pages and raises the break by a page
abbrev at_fault : State → State
at_fault s = breaks (maps (unmaps (enter s 0 point) 0 0x3f80000000 1) 0 0x3f80000000 2 writable) 0 0x12000

module _ (m : Space) where
  abbrev begun : State
  begun = state_with m []

  abbrev mapped : Space
  mapped = with_zeros (without m 0x3f80000000 4096) 0x3f80000000 8192 writable

  memory-at_fault : (at_fault begun).memory ≡ without (with_zeros mapped 0x11000 4096 writable) 0x12000 0
  unfolding enter
  memory-at_fault = refl

  at : (a : ℕ) (b c : Bool) → get mapped a ≡ Some (zero_cell writable) → get (without (with_zeros mapped 0x11000 4096 writable) 0x12000 0) a ≡ (if b then None else (if c then Some (zero_cell writable) else get mapped a))
      → b ≡ false → get (at_fault begun).memory a ≡ Some (zero_cell writable)
  at a true c is found none = absurd (cc none)
  at a false true is found none = ap (λ s. get s a) memory-at_fault ∙ found
  at a false false is found none = ap (λ s. get s a) memory-at_fault ∙ found ∙ is

  found : (a : ℕ) → get mapped a ≡ Some (zero_cell writable) → is_within 0x12000 0 a ≡ false → get (at_fault begun).memory a ≡ Some (zero_cell writable)
  found a is none =
      at a (is_within 0x12000 0 a) (is_within 0x11000 4096 a) is
      (get-without (with_zeros mapped 0x11000 4096 writable) 0x12000 0 a ∙ ap (λ c. if is_within 0x12000 0 a then None else c) (get-with_zeros mapped 0x11000 4096 writable a)) none

  -- at the fault the first page has a 0, the next one is there, and the break is a page on
  pub mappings-first_page : get (at_fault begun).memory 0x3f80000000 ≡ Some (zero_cell writable)
  mappings-first_page = found 0x3f80000000 (get-with_zeros (without m 0x3f80000000 4096) 0x3f80000000 8192 writable 0x3f80000000) refl

  pub mappings-next_page : get (at_fault begun).memory 0x3f80001000 ≡ Some (zero_cell writable)
  mappings-next_page = found 0x3f80001000 (get-with_zeros (without m 0x3f80000000 4096) 0x3f80000000 8192 writable 0x3f80001000) refl

  pub mappings-break : (at_fault begun).brk ≡ 0x12000
  mappings-break = refl

  -- after the rescue the page is there with its 9, the next one isn't, and the break is back
  pub mappings_taken_back-page : get m 0x3f80000000 ≡ Some nine → get (rescued_from begun 0 point fault (at_fault begun)).memory 0x3f80000000 ≡ Some nine
  unfolding rescued_from
  mappings_taken_back-page is = is

  pub mappings_taken_back-next_page : get m 0x3f80001000 ≡ None → get (rescued_from begun 0 point fault (at_fault begun)).memory 0x3f80001000 ≡ None
  unfolding rescued_from
  mappings_taken_back-next_page is = is

  pub mappings_taken_back-break : (rescued_from begun 0 point fault (at_fault begun)).brk ≡ 0x11000
  unfolding rescued_from
  mappings_taken_back-break = refl
