-- Reading entries one after the other, as a loop does.
use Rattle.std.proofs.Common.{◌≡◌, ℕ, suc, ◌-◌, ◌+◌, ◌≤◌, ◌<◌, List, [], ◌∷◌, ◌++◌, Ok, Err, refl, sym, ap, ◌∙◌, append_assoc, arith}
use Rattle.std.proofs.lemmas.List.{append-nil}
use Rattle.run_history.specs.declared.entry.Entry.{Entry}
use Rattle.history_file.specs.declared.refused.Refused.{Refused}
use Rattle.history_file.specs.declared.refused.Refused.TheVariants as refused
use Rattle.history_file.specs.Reading.{◌>>=◌, Front, Fails, entries_by}

-- what was read before, and what is still read
abbrev pub with_front : List Entry → Front (List Entry) → Front (List Entry)
with_front front read = read >>= λ x. Ok (front ++ x.0, x.1)

regroup : (front : List Entry) (e : Entry) (read : Front (List Entry)) → with_front front (read >>= λ x. Ok (e ∷ x.0, x.1)) ≡ with_front (front ++ e ∷ []) read
regroup front e (Ok x) = ap (λ (es : List Entry). Ok (es, x.1)) (simp append_assoc)
regroup front e (Err f) = refl

pub goes_on : (one : List ℕ → Front Entry) (front : List Entry) (count i : ℕ) (bytes : List ℕ) (e : Entry) (behind : List ℕ) (total : Front (List Entry)) → i < count → one bytes ≡ Ok (e, behind)
    → with_front front (entries_by one (count - i) bytes) ≡ total → with_front (front ++ e ∷ []) (entries_by one (count - (i + 1)) behind) ≡ total
goes_on one front count i bytes e behind total lt h so_far =
    let k : count - i ≡ suc (count - (i + 1)) = omega arith in
    let next : with_front front (entries_by one (count - i) bytes) ≡ with_front (front ++ e ∷ []) (entries_by one (count - (i + 1)) behind) =
    rw (k, h) (regroup front e (entries_by one (count - (i + 1)) behind)) in
    sym next ∙ so_far

pub ends : (r : Refused) (one : List ℕ → Front Entry) (front : List Entry) (count i : ℕ) (bytes : List ℕ) (total : Front (List Entry)) → i < count → Fails r (one bytes)
    → with_front front (entries_by one (count - i) bytes) ≡ total → Fails r total
ends refused.Memory one front count i bytes total lt h so_far = tt
ends (refused.At fault left) one front count i bytes total lt h so_far =
    let k : count - i ≡ suc (count - (i + 1)) = omega arith in
    let next : with_front front (entries_by one (count - i) bytes) ≡ Err (fault, left) = rw (k, h) refl in
    sym so_far ∙ next

pub is_done : (one : List ℕ → Front Entry) (front : List Entry) (count i : ℕ) (bytes : List ℕ) (total : Front (List Entry)) → count ≤ i → with_front front (entries_by one (count - i) bytes) ≡ total → total ≡ Ok (front, bytes)
is_done one front count i bytes total le so_far =
    let k : count - i ≡ 0 = omega arith in
    let next : with_front front (entries_by one (count - i) bytes) ≡ Ok (front, bytes) = rw k (ap (λ (es : List Entry). Ok (es, bytes)) (append-nil front)) in
    sym so_far ∙ next
