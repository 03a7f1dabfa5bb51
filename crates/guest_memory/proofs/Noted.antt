-- Changes that are noted, one after another.
use Rattle.std.proofs.Common.{◌≡◌, ℕ, ◌+◌, Bool, true, false, List, [], ◌∷◌, ◌++◌, cond, refl, sym, ap, ◌∙◌, arith}
use Rattle.std.proofs.lemmas.List.{append-nil, append_assoc}
use Rattle.std.proofs.lemmas.List.Sums.{sum_by-append}
use Rattle.guest_words.specs.declared.image.Page.{Page}
use Rattle.guest_words.specs.declared.width.Width.{Width}
use Rattle.undo_log.specs.declared.note.Note.{Note}
use Rattle.undo_log.specs.declared.note.Note.TheVariants.{Bytes, Made, Gone, Break}
use Rattle.undo_log.specs.Undo.{gone_in, undone, is_gone}
use Rattle.undo_log.proofs.Putting.{undone-append}
use Rattle.guest_memory.specs.Kept.{AddressSpace}
use Rattle.guest_memory.specs.Noting.{Notes}
use Rattle.guest_memory.specs.Returning.{put_back}

-- nothing has changed
pub notes_none : (noted : Bool) (notes : List Note) (memory : AddressSpace) → Notes noted notes notes memory memory
notes_none noted notes memory = record {
  more = [];
  behind = sym (append-nil notes);
  lead = λ _. refl;
  none = λ _. refl;
  spare = omega arith;
}

gone_in-append : (a b : List Note) → gone_in (a ++ b) ≡ gone_in a + gone_in b
gone_in-append a b = sum_by-append (λ n. cond (is_gone n) 1 0) a b

-- two in a row
pub notes_both : (noted : Bool) (first second third : List Note) (old middle new : AddressSpace) → Notes noted first second old middle → Notes noted second third middle new
    → Notes noted first third old new
notes_both noted first second third old middle new a b =
    let x = a.spare in
    let y = b.spare in
    let z = gone_in-append a.more b.more in
    record {
      more = a.more ++ b.more;
      behind = b.behind ∙ ap (λ notes. notes ++ b.more) a.behind ∙ append_assoc first a.more b.more;
      lead = λ is. undone-append put_back a.more b.more new ∙ ap (undone put_back a.more) (b.lead is) ∙ a.lead is;
      none = λ is. ap (λ notes. notes ++ b.more) (a.none is) ∙ b.none is;
      spare = omega (arith, x, y, z);
    }

-- one note that leads back
pub notes_one : (note : Note) (before : List Note) (old new : AddressSpace) → put_back new note ≡ old → new.spare ≡ old.spare + gone_in (note ∷ []) → Notes true before (before ++ note ∷ []) old new
notes_one note before old new back spare = record {
  more = note ∷ [];
  behind = refl;
  lead = λ _. back;
  none = λ is. cc;
  spare = spare;
}

-- a change that is not noted
pub notes_without : (notes : List Note) (old new : AddressSpace) → new.spare ≡ old.spare → Notes false notes notes old new
notes_without notes old new same = record {
  more = [];
  behind = sym (append-nil notes);
  lead = λ is. cc;
  none = λ _. refl;
  spare = omega (arith, same);
}

-- a number that is stored over another
pub notes_bytes : (address : ℕ) (width : Width) (stood : ℕ) (before : List Note) (old new : AddressSpace) → put_back new (Bytes address width stood) ≡ old → new.spare ≡ old.spare
    → Notes true before (before ++ Bytes address width stood ∷ []) old new
notes_bytes address width stood before old new back same = notes_one (Bytes address width stood) before old new back (omega (arith, same))

-- pages that came
pub notes_made : (from count : ℕ) (before : List Note) (old new : AddressSpace) → put_back new (Made from count) ≡ old → new.spare ≡ old.spare
    → Notes true before (before ++ Made from count ∷ []) old new
notes_made from count before old new back same = notes_one (Made from count) before old new back (omega (arith, same))

-- a page that went
pub notes_gone : (page : Page) (before : List Note) (old new : AddressSpace) → put_back new (Gone page) ≡ old → new.spare ≡ old.spare + 1
    → Notes true before (before ++ Gone page ∷ []) old new
notes_gone page before old new back one = notes_one (Gone page) before old new back (omega (arith, one))

-- the break that moved
pub notes_break : (at : ℕ) (before : List Note) (old new : AddressSpace) → put_back new (Break at) ≡ old → new.spare ≡ old.spare → Notes true before (before ++ Break at ∷ []) old new
notes_break at before old new back same = notes_one (Break at) before old new back (omega (arith, same))
