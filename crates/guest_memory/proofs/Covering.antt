-- Notes that an earlier note covers, and memory with the notes put back into it.
use Rattle.std.proofs.Common.{◌≡◌, ℕ, ◌+◌, ◌-◌, ◌&&◌, ◌||◌, ◌==◌, nat_le, nat_lt, Bool, true, false, List, [], ◌∷◌, Option, Some, None, refl, sym, ap, subst, ◌∙◌, arith, if◌then◌else◌, slice_index}
use Rattle.std.proofs.lemmas.Bool.Decides.{nat_tests}
use Rattle.std.specs.Cmp.{nat_cmp_total}
use Rattle.std.specs.FinMap.{get, same_map, nat_cmp-IsAntisymmetric}
use Rattle.guest_words.specs.declared.image.Cell.{Cell}
use Rattle.guest_words.specs.declared.width.Width.{Width}
use Rattle.guest_words.specs.Space.{Space, low_bytes, with_number}
use Rattle.guest_words.specs.Widths.{bytes_in}
use Rattle.guest_words.proofs.SpaceLaws.{is_within}
use Rattle.guest_words.proofs.Blanks.{get-with_bytes, overwritten}
use Rattle.guest_pages.proofs.Lows.{length-low_bytes}
use Rattle.undo_log.specs.declared.note.Note.{Note}
use Rattle.undo_log.specs.declared.note.Note.TheVariants.{Bytes, Made, Gone, Break}
use Rattle.undo_log.specs.Thin.{is_noted, uncovered}
use Rattle.undo_log.specs.Undo.{undone}
use Rattle.guest_memory.specs.Kept.{AddressSpace}
use Rattle.guest_memory.specs.Returning.{put_back}

-- whether a note before, with only notes of bytes since, puts back the byte at an address
abbrev is_touched : List Note → ℕ → Bool
is_touched [] q = false
is_touched (Bytes address width old ∷ older) q = is_within address (bytes_in width) q || is_touched older q
is_touched (Made from count ∷ older) q = false
is_touched (Gone page ∷ older) q = false
is_touched (Break at ∷ older) q = false

-- a cell, without its byte where that is put back later on
abbrev faded : Bool → Option Cell → Option Cell
faded true cell = overwritten (Some 0) cell
faded false cell = cell

-- the same memory, but for the bytes that the notes before put back
record Alike (before : List Note) (s t : AddressSpace) : Type 0 where
  cells : (q : ℕ) → faded (is_touched before q) (get s.space q) ≡ faded (is_touched before q) (get t.space q)
  low : s.low ≡ t.low
  brk : s.brk ≡ t.brk
  spare : s.spare ≡ t.spare

same-from_alike : (before : List Note) (s t : AddressSpace) → ((q : ℕ) → is_touched before q ≡ false) → Alike before s t → s ≡ t
same-from_alike before s t none alike =
    let cells : (q : ℕ) → get s.space q ≡ get t.space q = λ q. let P : Bool → Type 0 = λ b. faded b (get s.space q) ≡ faded b (get t.space q) in subst P (none q) (alike.cells q) in
    λ i. record { space = same_map nat_cmp_total nat_cmp-IsAntisymmetric s.space t.space cells i; low = alike.low i; brk = alike.brk i; spare = alike.spare i }

alike-from_same : (before : List Note) (s t : AddressSpace) → s ≡ t → Alike before s t
alike-from_same before s t same = record {
  cells = λ q. ap (λ m. faded (is_touched before q) (get m.space q)) same;
  low = ap (λ m. m.low) same;
  brk = ap (λ m. m.brk) same;
  spare = ap (λ m. m.spare) same;
}

get-with_number : (m : Space) (a w v q : ℕ) → get (with_number m a w v) q ≡ overwritten (if is_within a w q then Some (slice_index (low_bytes w v) (q - a)) else None) (get m q)
get-with_number m a w v q =
    get-with_bytes m a (low_bytes w v) q
    ∙ ap (λ n. overwritten (if nat_le a q && nat_lt q (a + n) then Some (slice_index (low_bytes w v) (q - a)) else None) (get m q)) (length-low_bytes w v)

-- of two bytes put over a cell the second stays
over_twice : (x y : ℕ) (cell : Option Cell) → overwritten (Some x) (overwritten (Some y) cell) ≡ overwritten (Some x) cell
over_twice x y None = refl
over_twice x y (Some cell) = refl

-- a note that stays
cell_stays : (within touched : Bool) (b : ℕ) (c d : Option Cell) → faded (within || touched) c ≡ faded (within || touched) d
    → faded touched (overwritten (if within then Some b else None) c) ≡ faded touched (overwritten (if within then Some b else None) d)
cell_stays true touched b c d same = ap (faded touched) (sym (over_twice b 0 c) ∙ ap (overwritten (Some b)) same ∙ over_twice b 0 d)
cell_stays false touched b c d same = same

-- a note that goes
cell_goes : (within touched : Bool) (b : ℕ) (c d : Option Cell) → (within ≡ true → touched ≡ true) → faded (within || touched) c ≡ faded (within || touched) d
    → faded touched c ≡ faded touched (overwritten (if within then Some b else None) d)
cell_goes true true b c d covers same = same ∙ sym (over_twice 0 b d)
cell_goes true false b c d covers same = let never = covers refl in cc
cell_goes false touched b c d covers same = same

same_range : (other width address size q : ℕ) → (other == address && width == size) ≡ true → is_within address size q ≡ true → is_within other width q ≡ true
same_range other width address size q same within = grind (arith, nat_tests, same, within)

or-right : (b c : Bool) → c ≡ true → (b || c) ≡ true
or-right true c is = refl
or-right false c is = is

or-either : (a b c d : Bool) → (a || b) ≡ true → (a ≡ true → c ≡ true) → (b ≡ true → d ≡ true) → (c || d) ≡ true
or-either true b c d is first second = ap (λ x. x || d) (first refl)
or-either false b c d is first second = or-right c d (second is)

-- the bytes of a place that was noted are put back
noted-touched : (before : List Note) (address size q : ℕ) → is_noted before address size ≡ true → is_within address size q ≡ true → is_touched before q ≡ true
noted-touched [] address size q noted within = cc
noted-touched (Bytes other width old ∷ older) address size q noted within =
    or-either (other == address && bytes_in width == size) (is_noted older address size) (is_within other (bytes_in width) q) (is_touched older q) noted
    (λ same. same_range other (bytes_in width) address size q same within)
    (λ earlier. noted-touched older address size q earlier within)
noted-touched (Made from count ∷ older) address size q noted within = cc
noted-touched (Gone page ∷ older) address size q noted within = cc
noted-touched (Break at ∷ older) address size q noted within = cc

stays : (before : List Note) (address : ℕ) (width : Width) (old : ℕ) (s t : AddressSpace) → Alike (Bytes address width old ∷ before) s t
    → Alike before (put_back s (Bytes address width old)) (put_back t (Bytes address width old))
stays before address width old s t alike = record {
  cells = λ q.
      let touched = is_touched before q in
      let byte = slice_index (low_bytes (bytes_in width) old) (q - address) in
      ap (faded touched) (get-with_number s.space address (bytes_in width) old q)
      ∙ cell_stays (is_within address (bytes_in width) q) touched byte (get s.space q) (get t.space q) (alike.cells q)
      ∙ sym (ap (faded touched) (get-with_number t.space address (bytes_in width) old q));
  low = alike.low;
  brk = alike.brk;
  spare = alike.spare;
}

goes : (before : List Note) (address : ℕ) (width : Width) (old : ℕ) (s t : AddressSpace) → is_noted before address (bytes_in width) ≡ true → Alike (Bytes address width old ∷ before) s t
    → Alike before s (put_back t (Bytes address width old))
goes before address width old s t noted alike = record {
  cells = λ q.
      let touched = is_touched before q in
      let byte = slice_index (low_bytes (bytes_in width) old) (q - address) in
      cell_goes (is_within address (bytes_in width) q) touched byte (get s.space q) (get t.space q) (noted-touched before address (bytes_in width) q noted) (alike.cells q)
      ∙ sym (ap (faded touched) (get-with_number t.space address (bytes_in width) old q));
  low = alike.low;
  brk = alike.brk;
  spare = alike.spare;
}

stays_or_goes : (b : Bool) (before : List Note) (address : ℕ) (width : Width) (old : ℕ) (less more : List Note) (memory : AddressSpace) → is_noted before address (bytes_in width) ≡ b
    → Alike (Bytes address width old ∷ before) (undone put_back less memory) (undone put_back more memory)
    → Alike before (undone put_back (if b then less else Bytes address width old ∷ less) memory) (undone put_back (Bytes address width old ∷ more) memory)
stays_or_goes true before address width old less more memory is alike = goes before address width old (undone put_back less memory) (undone put_back more memory) is alike
stays_or_goes false before address width old less more memory is alike = stays before address width old (undone put_back less memory) (undone put_back more memory) alike

barrier : (before : List Note) (note : Note) (less more : List Note) (memory : AddressSpace) → ((q : ℕ) → is_touched (note ∷ before) q ≡ false)
    → Alike (note ∷ before) (undone put_back less memory) (undone put_back more memory) → Alike before (undone put_back (note ∷ less) memory) (undone put_back (note ∷ more) memory)
barrier before note less more memory none alike =
    let s = undone put_back less memory in
    let t = undone put_back more memory in
    alike-from_same before (put_back s note) (put_back t note) (ap (λ m. put_back m note) (same-from_alike (note ∷ before) s t none alike))

uncovered-alike : (before notes : List Note) (memory : AddressSpace) → Alike before (undone put_back (uncovered before notes) memory) (undone put_back notes memory)
uncovered-alike before [] memory = alike-from_same before memory memory refl
uncovered-alike before (Bytes address width old ∷ later) memory =
    let note = Bytes address width old in
    stays_or_goes (is_noted before address (bytes_in width)) before address width old (uncovered (note ∷ before) later) later memory refl (uncovered-alike (note ∷ before) later memory)
uncovered-alike before (Made from count ∷ later) memory =
    let note = Made from count in
    barrier before note (uncovered (note ∷ before) later) later memory (λ q. refl) (uncovered-alike (note ∷ before) later memory)
uncovered-alike before (Gone page ∷ later) memory =
    let note = Gone page in
    barrier before note (uncovered (note ∷ before) later) later memory (λ q. refl) (uncovered-alike (note ∷ before) later memory)
uncovered-alike before (Break at ∷ later) memory =
    let note = Break at in
    barrier before note (uncovered (note ∷ before) later) later memory (λ q. refl) (uncovered-alike (note ∷ before) later memory)

-- put back, the notes that no earlier one covers make the same of memory as all notes
pub undone-uncovered : (notes : List Note) (memory : AddressSpace) → undone put_back (uncovered [] notes) memory ≡ undone put_back notes memory
undone-uncovered notes memory = same-from_alike [] (undone put_back (uncovered [] notes) memory) (undone put_back notes memory) (λ q. refl) (uncovered-alike [] notes memory)
