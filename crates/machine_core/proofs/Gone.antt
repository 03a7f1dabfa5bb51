-- How many pages may come back: as notes are joined, put back and closed away.
use Rattle.std.proofs.Common.{◌≡◌, ◌+◌, ◌-◌, ◌≤◌, List, [], ◌∷◌, ◌++◌, cond, arith}
use Rattle.std.proofs.lemmas.List.Sums.{sum_by-append}
use Rattle.guest_memory.specs.Kept.{AddressSpace}
use Rattle.guest_memory.specs.Returning.{can_return, is_in_heap, put_back}
use Rattle.guest_pages.specs.Paged.{with_page}
use Rattle.undo_log.specs.declared.note.Note.{Note}
use Rattle.undo_log.specs.declared.note.Note.TheVariants as note
use Rattle.undo_log.specs.Undo.{undone, gone_in, is_gone}
use Rattle.run_history.proofs.Ands.{if_by}

pub gone_in-append : (xs ys : List Note) → gone_in (xs ++ ys) ≡ gone_in xs + gone_in ys
gone_in-append xs ys = sum_by-append (λ n. cond (is_gone n) 1 0) xs ys

gone_in-cons : (x : Note) (xs : List Note) → gone_in (x ∷ xs) ≡ gone_in (x ∷ []) + gone_in xs
gone_in-cons x xs = gone_in-append (x ∷ []) xs

-- a note that is put back uses room for a page where one is gone, and else none
put_back_spare : (m : AddressSpace) (x : Note) → m.spare ≤ (put_back m x).spare + gone_in (x ∷ [])
put_back_spare m (note.Bytes address width old) = omega arith
put_back_spare m (note.Made from count) = omega arith
put_back_spare m (note.Gone page) =
    if_by (λ (k : AddressSpace). m.spare ≤ k.spare + 1) (can_return m.space page) (record m { space = with_page m.space page; spare = m.spare - 1 }) m (λ e. omega arith) (λ e. omega arith)
put_back_spare m (note.Break old) =
    if_by (λ (k : AddressSpace). m.spare ≤ k.spare + 0) (is_in_heap m old) (record m { brk = old }) m (λ e. omega arith) (λ e. omega arith)

pub undone_spare : (ns : List Note) (m : AddressSpace) → m.spare ≤ (undone put_back ns m).spare + gone_in ns
undone_spare [] m = omega arith
undone_spare (x ∷ ns) m =
    let newer = undone_spare ns m in
    let this = put_back_spare (undone put_back ns m) x in
    let all = gone_in-cons x ns in
    omega (arith, newer, this, all)
