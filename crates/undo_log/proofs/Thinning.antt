-- The notes that stay.
use Rattle.std.proofs.Common.{◌≡◌, ℕ, suc, ◌+◌, ◌-◌, ◌<◌, ◌≤◌, Bool, true, false, not, cond, List, [], ◌∷◌, ◌++◌, length, take, drop, get_or, refl, sym, ap, ◌∙◌, arith, if◌then◌else◌}
use Rattle.std.proofs.lemmas.List.{append_assoc, drop_at, length-append, length-drop, length-take-le, take-set-le, take_at, take_more, take_rest, drop-set-lt, drop_more}
use Rattle.std.proofs.lemmas.List.Sums.{sum_by-cons, sum_by-take-drop}
use Rattle.std.specs.List.{SwappedAt}
use Rattle.guest_words.specs.declared.width.Width.{Width}
use Rattle.undo_log.specs.declared.note.Note.{Note}
use Rattle.undo_log.specs.declared.note.Note.TheVariants.{Bytes, Made, Gone, Break}
use Rattle.undo_log.specs.Thin.{are_uncovered, is_covered, marked, uncovered}
use Rattle.undo_log.specs.Undo.{gone_in, is_gone}

-- the notes marked as uncovered are the uncovered ones
marked_or_not : (b : Bool) (note : Note) (left right : List Note) → left ≡ right → (if not b then note ∷ left else left) ≡ (if b then right else note ∷ right)
marked_or_not true note left right same = same
marked_or_not false note left right same = ap (λ notes. note ∷ notes) same

pub marked-are_uncovered : (before notes : List Note) → marked (are_uncovered before notes) notes ≡ uncovered before notes
marked-are_uncovered before [] = refl
marked-are_uncovered before (note ∷ later) = marked_or_not (is_covered before note) note _ _ (marked-are_uncovered (note ∷ before) later)

pub length-are_uncovered : (before notes : List Note) → length (are_uncovered before notes) ≡ length notes
length-are_uncovered before [] = refl
length-are_uncovered before (note ∷ later) = ap suc (length-are_uncovered (note ∷ before) later)

length_or_less : (b : Bool) (note : Note) (left right : List Note) → length left ≤ length right → length (if b then left else note ∷ left) ≤ length (note ∷ right)
length_or_less true note left right less = omega (arith, less)
length_or_less false note left right less = omega (arith, less)

pub length-uncovered : (before notes : List Note) → length (uncovered before notes) ≤ length notes
length-uncovered before [] = omega arith
length-uncovered before (note ∷ later) = length_or_less (is_covered before note) note _ _ (length-uncovered (note ∷ before) later)

-- as many pages come back
gone_or_not : (b : Bool) (address : ℕ) (width : Width) (old : ℕ) (left right : List Note) → gone_in left ≡ gone_in right
    → gone_in (if b then left else Bytes address width old ∷ left) ≡ gone_in (Bytes address width old ∷ right)
gone_or_not true address width old left right same = same
gone_or_not false address width old left right same = same

pub gone_in-uncovered : (before notes : List Note) → gone_in (uncovered before notes) ≡ gone_in notes
gone_in-uncovered before [] = refl
gone_in-uncovered before (Bytes address width old ∷ later) =
    let note = Bytes address width old in
    gone_or_not (is_covered before note) address width old (uncovered (note ∷ before) later) later (gone_in-uncovered (note ∷ before) later)
gone_in-uncovered before (Made from count ∷ later) = gone_in-uncovered (Made from count ∷ before) later
gone_in-uncovered before (Gone page ∷ later) =
    let gone : Note → ℕ = λ n. cond (is_gone n) 1 0 in
    sum_by-cons gone (Gone page) (uncovered (Gone page ∷ before) later)
    ∙ ap (λ n. 1 + n) (gone_in-uncovered (Gone page ∷ before) later)
    ∙ sym (sum_by-cons gone (Gone page) later)
gone_in-uncovered before (Break at ∷ later) = gone_in-uncovered (Break at ∷ before) later

-- a further mark
pub mark_next : (marks : List Bool) (before notes : List Note) (note : Note) (i : ℕ) (is : Bool) → i < length notes → note ≡ get_or notes i note → is ≡ is_covered before note
    → marks ++ not is ∷ [] ++ are_uncovered (note ∷ before) (drop (i + 1) notes) ≡ marks ++ are_uncovered before (drop i notes)
mark_next marks before notes note i is within there covered =
    let rest = are_uncovered (note ∷ before) (drop (i + 1) notes) in
    append_assoc marks (not is ∷ []) rest
    ∙ ap (λ b. marks ++ (not b ∷ rest)) covered
    ∙ ap (λ n. marks ++ are_uncovered before (n ∷ drop (i + 1) notes)) there
    ∙ sym (ap (λ ns. marks ++ are_uncovered before ns) (drop_more notes i note within))

-- a note that isn't marked is passed over
pub passed_over : (marks : List Bool) (notes : List Note) (i j : ℕ) → i < length marks → get_or marks i false ≡ false
    → j < length notes → marked (drop (i + 1) marks) (drop (j + 1) notes) ≡ marked (drop i marks) (drop j notes)
passed_over marks [] i j marking unmarked within = absurd (omega (arith, within))
passed_over marks (d ∷ more) i j marking unmarked within =
    let notes = d ∷ more in
    let marks_are : drop i marks ≡ false ∷ drop (i + 1) marks = drop_more marks i false marking ∙ ap (λ m. m ∷ drop (i + 1) marks) unmarked in
    sym (λ t. marked (marks_are t) (drop_more notes j d within t))

-- a marked note is kept behind those that were kept
pub kept_behind : (marks : List Bool) (old new : List Note) (k i j : ℕ) → k ≤ j → j < length old → i < length marks → get_or marks i false ≡ true → length new ≡ length old → SwappedAt old new k j
    → take (k + 1) new ++ marked (drop (i + 1) marks) (drop (j + 1) new) ≡ take k old ++ marked (drop i marks) (drop j old)
kept_behind marks [] new k i j behind within marking is_marked long swapped = absurd (omega (arith, within))
kept_behind marks (d ∷ more) new k i j behind within marking is_marked long swapped =
    let old = d ∷ more in
    let a = get_or old j d in
    let b = get_or old k d in
    let front : take k new ≡ take k old = ap (take k) (swapped.3 d) ∙ take-set-le k _ j b behind ∙ take-set-le k old k a (omega arith) in
    let back : drop (j + 1) new ≡ drop (j + 1) old = ap (drop (j + 1)) (swapped.3 d) ∙ drop-set-lt (j + 1) _ j b (omega arith) ∙ drop-set-lt (j + 1) old k a (omega (arith, behind)) in
    let first : take (k + 1) new ≡ take k old ++ a ∷ [] = take_more new k d (omega (arith, behind, within, long)) ∙ (λ i. front i ++ swapped.0 d i ∷ []) in
    let marks_are : drop i marks ≡ true ∷ drop (i + 1) marks = drop_more marks i false marking ∙ ap (λ m. m ∷ drop (i + 1) marks) is_marked in
    let notes_are : drop j old ≡ a ∷ drop (j + 1) old = drop_more old j d within in
    (λ t. first t ++ marked (drop (i + 1) marks) (back t))
    ∙ append_assoc (take k old) (a ∷ []) (marked (drop (i + 1) marks) (drop (j + 1) old))
    ∙ sym (λ t. take k old ++ marked (marks_are t) (notes_are t))

-- the marks of the notes from a position on
pub tail_marks : (marks : List Bool) (lent notes : List Note) (from : ℕ) → marks ≡ are_uncovered [] (take (length lent - from) (drop from lent)) → lent ≡ notes → marks ≡ are_uncovered [] (drop from notes)
tail_marks marks lent notes from is same =
    is ∙ ap (are_uncovered []) (take_rest lent from) ∙ ap (λ ns. are_uncovered [] (drop from ns)) same

-- what the marks leave
pub record IsThinned (old new : List Note) (from : ℕ) : Type 0 where
  pub tail : drop from new ≡ uncovered [] (drop from old)
  pub fewer : length new ≤ length old
  pub pages : gone_in new ≡ gone_in old

pub thinned : (marks : List Bool) (old new : List Note) (from : ℕ) → from ≤ length old → marks ≡ are_uncovered [] (drop from old) → new ≡ take from old ++ marked marks (drop from old) → IsThinned old new from
thinned marks old new from within marks_are new_is =
    let tail = drop from old in
    let is : new ≡ take from old ++ uncovered [] tail =
    new_is ∙ ap (λ m. take from old ++ marked m tail) marks_are ∙ ap (λ ns. take from old ++ ns) (marked-are_uncovered [] tail) in
    let front = length-take-le from old within in
    let behind : drop from new ≡ uncovered [] tail = ap (drop from) is ∙ drop_at (take from old) (uncovered [] tail) from front in
    let long = ap length is ∙ length-append (take from old) (uncovered [] tail) in
    let older : take from new ≡ take from old = ap (take from) is ∙ take_at (take from old) (uncovered [] tail) from front in
    let gone : Note → ℕ = λ n. cond (is_gone n) 1 0 in
    let few = length-uncovered [] tail in
    let rest = length-drop from old in
    record {
      tail = behind;
      fewer = omega (arith, long, few, rest, front, within);
      pages =
          sym (sum_by-take-drop gone new from)
          ∙ (λ i. gone_in (older i) + (ap gone_in behind ∙ gone_in-uncovered [] tail) i)
          ∙ sum_by-take-drop gone old from;
    }
