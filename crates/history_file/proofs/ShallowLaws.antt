-- Whether entries are shallow, by the first of them and those behind it.
use Rattle.std.proofs.Common.{◌≡◌, ◌↔◌, ℕ, zero, suc, ◌^◌, ◌<◌, Bool, true, false, IsTrue, List, ◌∷◌, length, refl, subst, arith}
use Rattle.std.proofs.lemmas.Bool.{both_ways}
use Rattle.guest_words.specs.declared.ending.Ending.{Ending}
use Rattle.guest_words.specs.declared.fault.Fault.{Fault as FaultAt}
use Rattle.guest_words.specs.declared.point.PointRef.{PointRef}
use Rattle.guest_words.specs.declared.record.Record.{Record}
use Rattle.run_history.specs.declared.entry.Entry.{Entry, Ran, Entered, Called, Rescued', Ended, items-the_row-Entry}
use Rattle.run_history.specs.declared.entry.Entry.TheViews as v
use Rattle.history_file.specs.Shallow.{IsShallowInside}
use Rattle.history_file.specs.Spelled.{IsShallow, AreShallow}
use Rattle.history_file.proofs.Inside.{opened}
use Rattle.history_file.proofs.EntryLaws.{row-shallow, row_length-is, shallow-Rescued}

pub passed : (room : ℕ) (e : Entry) (rest whole : List Entry) → (AreShallow room whole ↔ AreShallow room (e ∷ rest)) → IsShallow room e
    → (AreShallow room whole ↔ AreShallow room rest)
passed room e rest whole iff is = (λ all. (iff.0 all).1, λ behind. iff.1 (is, behind))

pub stopped : (room : ℕ) (e : Entry) (rest whole : List Entry) → (AreShallow room whole ↔ AreShallow room (e ∷ rest)) → (IsTrue false ↔ IsShallow room e)
    → (IsTrue false ↔ AreShallow room whole)
stopped room e rest whole iff is = (λ t. absurd (both_ways false refl t), λ all. is.1 (iff.0 all).0)

pub ran_shallow : (room h n : ℕ) → (IsTrue true ↔ IsShallow room (Ran h n))
unfolding IsShallow
ran_shallow zero h n = (λ t. tt, λ s. refl)
ran_shallow (suc room) h n = (λ t. tt, λ s. refl)

pub entered_shallow : (room h : ℕ) (p : PointRef) → (IsTrue true ↔ IsShallow room (Entered h p))
unfolding IsShallow
entered_shallow zero h p = (λ t. tt, λ s. refl)
entered_shallow (suc room) h p = (λ t. tt, λ s. refl)

pub ended_shallow : (room : ℕ) (x : Ending) → (IsTrue true ↔ IsShallow room (Ended x))
unfolding IsShallow
ended_shallow zero x = (λ t. tt, λ s. refl)
ended_shallow (suc room) x = (λ t. tt, λ s. refl)

pub called_shallow : (room h : ℕ) (r : Record) (b : Bool) → (IsTrue b ↔ (length r.bytes < 2 ^ 32)) → (IsTrue b ↔ IsShallow room (Called h r))
unfolding IsShallow
called_shallow zero h r b iff = iff
called_shallow (suc room) h r b iff = iff

within : (room h : ℕ) (p : PointRef) (f : FaultAt) (shape : _) (row : _) (xs : List Entry) → items-the_row-Entry _ row ≡ xs
    → IsShallow room (Rescued' h p f shape row) → IsShallowInside room xs
unfolding IsShallow
within zero h p f shape row xs is s = absurd s
within (suc room) h p f shape row xs is s =
    subst (IsShallowInside (suc room)) is
    (omega arith, (let len = row_length-is _ row in let lt = s.0 in omega arith), subst (λ n. AreShallow n (items-the_row-Entry _ row)) (omega arith) (row-shallow room _ row s.1))

with_room : (room h : ℕ) (p : PointRef) (f : FaultAt) (xs : List Entry) → IsShallowInside room xs → IsShallow room (v.Rescued h p f xs)
with_room zero h p f xs s = absurd (let no = s.0 in omega arith)
with_room (suc room) h p f xs s = shallow-Rescued room h p f xs s.1 (subst (λ n. AreShallow n xs) (omega arith) s.2)

pub rescued_shallow : (room h : ℕ) (p : PointRef) (f : FaultAt) (xs : List Entry) (b : Bool) → (IsTrue b ↔ IsShallowInside room xs)
    → (IsTrue b ↔ IsShallow room (v.Rescued h p f xs))
rescued_shallow room h p f xs b iff = (
  λ t. with_room room h p f xs (iff.0 t),
  λ s. iff.1 (opened (λ e. IsShallow room e → IsShallowInside room xs) h p f xs (λ shape row is. within room h p f shape row xs is) s),
)
