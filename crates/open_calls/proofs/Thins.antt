-- Calls open within calls, where notes of the innermost go that nothing is put back by.
use Rattle.std.proofs.Common.{◌≡◌, ℕ, ◌≤◌, List, [], ◌∷◌, drop, length, take, ap, sym, ◌∙◌, subst, arith}
use Rattle.std.proofs.lemmas.List.{length-take, length-take-le}
use Rattle.guest_words.specs.State.{State}
use Rattle.guest_memory.specs.Kept.{AddressSpace}
use Rattle.guest_memory.specs.Returning.{put_back}
use Rattle.undo_log.specs.declared.note.Note.{Note}
use Rattle.undo_log.specs.Undo.{undone}
use Rattle.run_history.specs.declared.entry.Entry.{Entry}
use Rattle.open_calls.specs.Nest.{Level, newest_mark}
use Rattle.open_calls.specs.Stacked.{Fact, Stacked}

-- a mark stays within notes that are the same before it
still_marked : (mark : ℕ) (ns ks : List Note) → mark ≤ length ns → take mark ks ≡ take mark ns → mark ≤ length ks
still_marked mark ns ks marked older =
    let long = length-take-le mark ns marked in
    let same = ap length older in
    let short = length-take mark ks in
    omega (arith, long, same, short)

-- other notes do, if they are the same before the innermost mark and those behind it make the same
-- of memory
pub thins : (Back : Fact) (start : State) (h : ℕ) (os : List Level) (es : List Entry) (ns ks : List Note) (t : State) (n : AddressSpace)
    → take (newest_mark os) ks ≡ take (newest_mark os) ns
    → ((memory : AddressSpace) → undone put_back (drop (newest_mark os) ks) memory ≡ undone put_back (drop (newest_mark os) ns) memory)
    → Stacked Back start h os es ns t n → Stacked Back start h os es ks t n
thins Back start h [] es ns ks t n older same is = is
thins Back start h (o ∷ os) es ns ks t n older same (b, m, is, rest) = (
  b,
  m,
  record {
    depth_is = is.depth_is;
    enters = is.enters;
    goes = is.goes;
    reaches = is.reaches;
    keeps = is.keeps;
    marked = still_marked o.mark ns ks is.marked older;
    undoes = same n ∙ is.undoes;
    space = is.space;
    back = is.back;
  },
  subst (λ xs. Stacked Back start h os o.entries xs b m) (sym older) rest,
)
