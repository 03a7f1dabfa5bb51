-- Entries are read as they are spelled.
use Rattle.std.proofs.Common.{◌≡◌, ℕ, zero, suc, ◌^◌, ◌<◌, List, [], ◌∷◌, ◌++◌, length, Ok, Err, refl, sym, ap, subst, ◌∙◌, append_assoc, arith}
use Rattle.guest_words.specs.declared.ending.Ending.{Ending}
use Rattle.guest_words.specs.declared.fault.Fault.{Fault as FaultAt}
use Rattle.guest_words.specs.declared.point.PointRef.{PointRef}
use Rattle.guest_words.specs.declared.record.Record.{Record}
use Rattle.run_history.specs.declared.entry.Entry.{Entry, Ran, Entered, Called, Rescued', Ended, Row_of-Entry, end_of-Entry, more_of-Entry, items-the_row-Entry}
use Rattle.run_history.specs.declared.entry.Entry.TheViews as v
use Rattle.history_file.specs.declared.file_fault.FileKind.{FileKind}
use Rattle.history_file.specs.declared.file_fault.FileKind.TheVariants.{Deep}
use Rattle.history_file.specs.Numbers.{word, double}
use Rattle.history_file.specs.HistoryBytes.{fault_bytes, record_bytes, ending_bytes, rescue_bytes, entry_bytes, row_bytes, row_length, entries_bytes, rescued_bytes}
use Rattle.history_file.specs.Spelled.{IsShallow, IsShallowRow, AreShallow, InRange, InRangeRow, AreInRange, IsEnding}
use Rattle.history_file.specs.Reading.{◌>>=◌, Front, broken, byte_at, word_at, double_at, fault_at, record_at, ran_at, entered_at, called_at, ended_at, ending_of, entries_by, rescued_by, entry_of, entry_at}
use Rattle.history_file.proofs.Exact.{IsBytes, Takes, Takes-then, step, bind_ok, parts, parts_again, ok_is, made}
use Rattle.history_file.proofs.FieldLaws.{one, Always, byte_law, Below, word_law, double_law}
use Rattle.history_file.proofs.RecordLaws.{IsFault, fault_law, IsCall, record_law, ending_law, of_kind}
use Rattle.history_file.proofs.Inside.{opened, rescued-is}

-- ---- by lists

pub row_length-is : (n : _) (row : Row_of-Entry n) → row_length row ≡ length (items-the_row-Entry n row)
row_length-is n end_of-Entry = refl
row_length-is n (more_of-Entry e rest) = ap suc (row_length-is _ rest)

row_bytes-is : (n : _) (row : Row_of-Entry n) → row_bytes row ≡ entries_bytes (items-the_row-Entry n row)
unfolding entry_bytes
row_bytes-is n end_of-Entry = refl
row_bytes-is n (more_of-Entry e rest) = ap (λ bs. entry_bytes e ++ bs) (row_bytes-is _ rest)

shallow-row : (room n : _) (row : Row_of-Entry n) → AreShallow room (items-the_row-Entry n row) → IsShallowRow room row
unfolding IsShallow
shallow-row room n end_of-Entry h = tt
shallow-row room n (more_of-Entry e rest) h = (h.0, shallow-row room _ rest h.1)

in_range-row : (n : _) (row : Row_of-Entry n) → AreInRange (items-the_row-Entry n row) → InRangeRow row
unfolding InRange
in_range-row n end_of-Entry h = tt
in_range-row n (more_of-Entry e rest) h = (h.0, in_range-row _ rest h.1)

pub entry_bytes-Rescued : (h : ℕ) (p : PointRef) (f : FaultAt) (xs : List Entry) → entry_bytes (v.Rescued h p f xs) ≡ rescued_bytes h p f xs
unfolding entry_bytes
entry_bytes-Rescued h p f xs =
    opened (λ e. entry_bytes e ≡ rescued_bytes h p f xs) h p f xs (λ shape row is.
    ap (λ n. 4 ∷ rescue_bytes h p f n ++ row_bytes row) (row_length-is _ row)
    ∙ ap (λ bs. 4 ∷ rescue_bytes h p f (length (items-the_row-Entry _ row)) ++ bs) (row_bytes-is _ row)
    ∙ ap (rescued_bytes h p f) is)

pub shallow-Rescued : (room h : ℕ) (p : PointRef) (f : FaultAt) (xs : List Entry) → length xs < 2 ^ 32 → AreShallow room xs → IsShallow (suc room) (v.Rescued h p f xs)
unfolding IsShallow
shallow-Rescued room h p f xs few shallow =
    opened (IsShallow (suc room)) h p f xs (λ shape row is.
    (let len = row_length-is _ row ∙ ap length is in omega arith, shallow-row room _ row (subst (AreShallow room) (sym is) shallow)))

pub in_range-Rescued : (h : ℕ) (p : PointRef) (f : FaultAt) (xs : List Entry) → p.entry < 2 ^ 64 → f.pc < 2 ^ 64 → AreInRange xs → InRange (v.Rescued h p f xs)
unfolding InRange
in_range-Rescued h p f xs entry pc all =
    opened InRange h p f xs (λ shape row is. (entry, pc, in_range-row _ row (subst AreInRange (sym is) all)))

-- ---- what is read is spelled so

-- an entry that has a spelling
pub record IsGood (room : ℕ) (e : Entry) : Type 0 where
  pub shallow : IsShallow room e
  pub in_range : InRange e

pub record TakesEntry (room : ℕ) (bytes : List ℕ) (e : Entry) (rest : List ℕ) : Type 0 where
  pub taken : Takes bytes (entry_bytes e) rest
  pub good : IsGood room e

behind : (n : ℕ) (bytes text rest : List ℕ) → Takes bytes text rest → Takes (n ∷ bytes) (n ∷ text) rest
behind n bytes text rest t = record { parts = ap (λ (bs : List ℕ). n ∷ bs) t.parts; rest_fits = t.rest_fits }

good-ran : (room h n : ℕ) → n < 2 ^ 32 → IsGood room (Ran h n)
unfolding IsShallow InRange
good-ran zero h n lt = record { shallow = tt; in_range = lt }
good-ran (suc room) h n lt = record { shallow = tt; in_range = lt }

good-entered : (room h : ℕ) (p : PointRef) → p.entry < 2 ^ 64 → IsGood room (Entered h p)
unfolding IsShallow InRange
good-entered zero h p lt = record { shallow = tt; in_range = lt }
good-entered (suc room) h p lt = record { shallow = tt; in_range = lt }

good-called : (room h : ℕ) (r : Record) → IsCall r → IsGood room (Called h r)
unfolding IsShallow InRange
good-called zero h r is = record { shallow = is.short; in_range = is.is_record }
good-called (suc room) h r is = record { shallow = is.short; in_range = is.is_record }

good-ended : (room : ℕ) (x : Ending) → IsEnding x → IsGood room (Ended x)
unfolding IsShallow InRange
good-ended zero x is = record { shallow = tt; in_range = is }
good-ended (suc room) x is = record { shallow = tt; in_range = is }

ran_takes : (room : ℕ) (bytes : List ℕ) (e : Entry) (rest : List ℕ) → IsBytes bytes → ran_at bytes ≡ Ok (e, rest) → TakesEntry room (1 ∷ bytes) e rest
unfolding ran_at entry_bytes
ran_takes room bytes e rest fits read =
    let p = parts byte_at one Always word_at word (Below (2 ^ 32)) Ran byte_law word_law bytes (e, rest) fits read in
    subst (λ (x : Entry). TakesEntry room (1 ∷ bytes) x rest) p.is (record { taken = behind 1 bytes _ rest p.taken; good = good-ran room p.first p.second p.second_holds })

entered_by : ℕ → ℕ → Entry
entered_by h entry = Entered h (record { entry = entry })

entered_takes : (room : ℕ) (bytes : List ℕ) (e : Entry) (rest : List ℕ) → IsBytes bytes → entered_at bytes ≡ Ok (e, rest) → TakesEntry room (2 ∷ bytes) e rest
unfolding entered_at entry_bytes entered_by
entered_takes room bytes e rest fits read =
    let p = parts byte_at one Always double_at double (Below (2 ^ 64)) entered_by byte_law double_law bytes (e, rest) fits read in
    subst (λ (x : Entry). TakesEntry room (2 ∷ bytes) x rest) p.is (record { taken = behind 2 bytes _ rest p.taken; good = good-entered room p.first (record { entry = p.second }) p.second_holds })

called_takes : (room : ℕ) (bytes : List ℕ) (e : Entry) (rest : List ℕ) → IsBytes bytes → called_at bytes ≡ Ok (e, rest) → TakesEntry room (3 ∷ bytes) e rest
unfolding called_at entry_bytes
called_takes room bytes e rest fits read =
    let p = parts byte_at one Always record_at record_bytes IsCall Called byte_law record_law bytes (e, rest) fits read in
    subst (λ (x : Entry). TakesEntry room (3 ∷ bytes) x rest) p.is (record { taken = behind 3 bytes _ rest p.taken; good = good-called room p.first p.second p.second_holds })

abbrev finished : Ending × List ℕ → Front Entry
finished x = Ok (Ended x.0, x.1)

ended_takes : (room : ℕ) (bytes : List ℕ) (e : Entry) (rest : List ℕ) → IsBytes bytes → ended_at bytes ≡ Ok (e, rest) → TakesEntry room (5 ∷ bytes) e rest
unfolding ended_at entry_bytes
ended_takes room bytes e rest fits read =
    let k = step byte_at one Always byte_law bytes (λ kind. ending_of kind.0 bytes kind.1 >>= finished) (e, rest) fits read in
    let x = bind_ok (ending_of k.value bytes k.rest) finished (e, rest) k.then_ in
    let t = of_kind k.value bytes k.rest x.value.0 x.value.1 k.taken.rest_fits x.is in
    let taken : Takes bytes (ending_bytes x.value.0) x.value.1 = record { parts = k.taken.parts ∙ t.0.parts; rest_fits = t.0.rest_fits } in
    let h = ok_is {A = Entry × List ℕ} (Ended x.value.0, x.value.1) (e, rest) x.then_ in
    subst (λ (y : Entry × List ℕ). TakesEntry room (5 ∷ bytes) y.0 y.1) h (record { taken = behind 5 bytes (ending_bytes x.value.0) x.value.1 taken; good = good-ended room x.value.0 t.1 })

-- entries, each as `one` reads it
pub record TakesAll (room : ℕ) (bytes : List ℕ) (n : ℕ) (es : List Entry) (rest : List ℕ) : Type 0 where
  pub taken : Takes bytes (entries_bytes es) rest
  pub count : length es ≡ n
  pub shallow : AreShallow room es
  pub in_range : AreInRange es

abbrev Reads : ℕ → (List ℕ → Front Entry) → Type 0
Reads room read = (bytes : List ℕ) (e : Entry) (rest : List ℕ) → IsBytes bytes → read bytes ≡ Ok (e, rest) → TakesEntry room bytes e rest

abbrev joined : Entry → List Entry → List Entry
joined e es = e ∷ es

entries_take : (room : ℕ) (read : List ℕ → Front Entry) → Reads room read → (n : ℕ) (bytes : List ℕ) (es : List Entry) (rest : List ℕ) → IsBytes bytes → entries_by read n bytes ≡ Ok (es, rest) → TakesAll room bytes n es rest
entries_take room read law zero bytes es rest fits e =
    subst (λ (y : List Entry × List ℕ). TakesAll room bytes 0 y.0 y.1) (ok_is {A = List Entry × List ℕ} ([], bytes) (es, rest) e)
    (record { taken = record { parts = refl; rest_fits = fits }; count = refl; shallow = tt; in_range = tt })
entries_take room read law (suc n) bytes es rest fits e =
    let a = bind_ok (read bytes) (λ first. entries_by read n first.1 >>= λ others. made joined first others) (es, rest) e in
    let b = bind_ok (entries_by read n a.value.1) (λ others. made joined a.value others) (es, rest) a.then_ in
    let first = law bytes a.value.0 a.value.1 fits a.is in
    let others = entries_take room read law n a.value.1 b.value.0 b.value.1 first.taken.rest_fits b.is in
    let both = Takes-then bytes (entry_bytes a.value.0) a.value.1 (entries_bytes b.value.0) b.value.1 first.taken others.taken in
    subst (λ (y : List Entry × List ℕ). TakesAll room bytes (suc n) y.0 y.1) (ok_is {A = List Entry × List ℕ} (a.value.0 ∷ b.value.0, b.value.1) (es, rest) b.then_)
    (record { taken = both; count = ap suc others.count; shallow = (first.good.shallow, others.shallow); in_range = (first.good.in_range, others.in_range) })

-- a rescued call

abbrev rescued_with : ℕ × List ℕ → ℕ × List ℕ → FaultAt × List ℕ → List Entry × List ℕ → Front Entry
rescued_with hart entry fault inside = Ok (v.Rescued hart.0 (record { entry = entry.0 }) fault.0 inside.0, inside.1)

regroup : (h : ℕ) (a b c d rest : List ℕ) → (h ∷ a ++ (b ++ c) ++ d) ++ rest ≡ one h ++ (a ++ (b ++ (c ++ (d ++ rest))))
regroup h a b c d rest = simp append_assoc

rescued_takes : (room : ℕ) (read : List ℕ → Front Entry) → Reads room read → (bytes : List ℕ) (e : Entry) (rest : List ℕ) → IsBytes bytes → rescued_by read bytes ≡ Ok (e, rest) → TakesEntry (suc room) (4 ∷ bytes) e rest
unfolding rescued_by rescue_bytes
rescued_takes room read law bytes e rest fits is =
    let a = step byte_at one Always byte_law bytes (λ hart. double_at hart.1 >>= λ entry. fault_at entry.1 >>= λ fault. word_at fault.1 >>= λ count. entries_by read count.0 count.1 >>= λ inside. rescued_with hart entry fault inside) (e, rest) fits is in
    let b = step double_at double (Below (2 ^ 64)) double_law a.rest (λ entry. fault_at entry.1 >>= λ fault. word_at fault.1 >>= λ count. entries_by read count.0 count.1 >>= λ inside. rescued_with (a.value, a.rest) entry fault inside) (e, rest) a.taken.rest_fits a.then_ in
    let c = step fault_at fault_bytes IsFault fault_law b.rest (λ fault. word_at fault.1 >>= λ count. entries_by read count.0 count.1 >>= λ inside. rescued_with (a.value, a.rest) (b.value, b.rest) fault inside) (e, rest) b.taken.rest_fits b.then_ in
    let d = step word_at word (Below (2 ^ 32)) word_law c.rest (λ count. entries_by read count.0 count.1 >>= λ inside. rescued_with (a.value, a.rest) (b.value, b.rest) (c.value, c.rest) inside) (e, rest) c.taken.rest_fits c.then_ in
    let x = bind_ok (entries_by read d.value d.rest) (λ inside. rescued_with (a.value, a.rest) (b.value, b.rest) (c.value, c.rest) inside) (e, rest) d.then_ in
    let all = entries_take room read law d.value d.rest x.value.0 x.value.1 d.taken.rest_fits x.is in
    let point : PointRef = record { entry = b.value } in
    let text : bytes ≡ rescue_bytes a.value point c.value d.value ++ entries_bytes x.value.0 ++ x.value.1 =
    a.taken.parts ∙ ap (λ (bs : List ℕ). one a.value ++ bs) (b.taken.parts ∙ ap (λ (bs : List ℕ). double b.value ++ bs) (c.taken.parts ∙ ap (λ (bs : List ℕ). fault_bytes c.value ++ bs) (d.taken.parts ∙ ap (λ (bs : List ℕ). word d.value ++ bs) all.taken.parts)))
    ∙ sym (regroup a.value (double b.value) (fault_bytes c.value) (word d.value) (entries_bytes x.value.0) x.value.1) in
    let counted : bytes ≡ rescue_bytes a.value point c.value (length x.value.0) ++ entries_bytes x.value.0 ++ x.value.1 =
    text ∙ ap (λ (n : ℕ). rescue_bytes a.value point c.value n ++ entries_bytes x.value.0 ++ x.value.1) (sym all.count) in
    let spelled : 4 ∷ bytes ≡ entry_bytes (v.Rescued a.value point c.value x.value.0) ++ x.value.1 =
    ap (λ (bs : List ℕ). 4 ∷ bs) counted ∙ ap (λ (bs : List ℕ). bs ++ x.value.1) (sym (entry_bytes-Rescued a.value point c.value x.value.0)) in
    let few : length x.value.0 < 2 ^ 32 = (let count = all.count in let holds = d.holds in omega arith) in
    subst (λ (y : Entry × List ℕ). TakesEntry (suc room) (4 ∷ bytes) y.0 y.1) (ok_is {A = Entry × List ℕ} (v.Rescued a.value point c.value x.value.0, x.value.1) (e, rest) x.then_)
    (record {
      taken = record { parts = spelled; rest_fits = all.taken.rest_fits };
      good = record { shallow = shallow-Rescued room a.value point c.value x.value.0 few all.shallow; in_range = in_range-Rescued a.value point c.value x.value.0 b.holds c.holds all.in_range };
    })

-- an entry, by its tag
of_tag : (room : ℕ) (rescued : Front Entry) (place bytes : List ℕ) (e : Entry) (rest : List ℕ) → IsBytes bytes → (rescued ≡ Ok (e, rest) → TakesEntry room (4 ∷ bytes) e rest) → (tag : ℕ) → entry_of rescued tag place bytes ≡ Ok (e, rest) → TakesEntry room (tag ∷ bytes) e rest
unfolding entry_of
of_tag room rescued place bytes e rest fits by zero is = absurd cc
of_tag room rescued place bytes e rest fits by (suc zero) is = ran_takes room bytes e rest fits is
of_tag room rescued place bytes e rest fits by (suc (suc zero)) is = entered_takes room bytes e rest fits is
of_tag room rescued place bytes e rest fits by (suc (suc (suc zero))) is = called_takes room bytes e rest fits is
of_tag room rescued place bytes e rest fits by (suc (suc (suc (suc zero)))) is = by is
of_tag room rescued place bytes e rest fits by (suc (suc (suc (suc (suc zero))))) is = ended_takes room bytes e rest fits is
of_tag room rescued place bytes e rest fits by (suc (suc (suc (suc (suc (suc n)))))) is = absurd cc

refused-ok : (fault : FileKind) (bytes : List ℕ) (e : Entry) (rest : List ℕ) (P : Type 0) → broken fault bytes ≡ Ok (e, rest) → P
refused-ok fault bytes e rest P is = absurd cc

from_tag : (room tag : ℕ) (bytes rest : List ℕ) (e : Entry) (end : List ℕ) → bytes ≡ tag ∷ rest → TakesEntry room (tag ∷ rest) e end → TakesEntry room bytes e end
from_tag room tag bytes rest e end is t = subst (λ (bs : List ℕ). TakesEntry room bs e end) (sym is) t

pub entry_takes : (room : ℕ) (bytes : List ℕ) (e : Entry) (rest : List ℕ) → IsBytes bytes → entry_at room bytes ≡ Ok (e, rest) → TakesEntry room bytes e rest
unfolding entry_at
entry_takes zero bytes e rest fits is =
    let t = step byte_at one Always byte_law bytes (λ tag. entry_of (broken Deep bytes) tag.0 bytes tag.1) (e, rest) fits is in
    from_tag 0 t.value bytes t.rest e rest t.taken.parts
    (of_tag 0 (broken Deep bytes) bytes t.rest e rest t.taken.rest_fits (refused-ok Deep bytes e rest (TakesEntry 0 (4 ∷ t.rest) e rest)) t.value t.then_)
entry_takes (suc room) bytes e rest fits is =
    let t = step byte_at one Always byte_law bytes (λ tag. entry_of (rescued_by (entry_at room) tag.1) tag.0 bytes tag.1) (e, rest) fits is in
    from_tag (suc room) t.value bytes t.rest e rest t.taken.parts
    (of_tag (suc room) (rescued_by (entry_at room) t.rest) bytes t.rest e rest t.taken.rest_fits (rescued_takes room (entry_at room) (entry_takes room) t.rest e rest t.taken.rest_fits) t.value t.then_)

pub all_take : (room n : ℕ) (bytes : List ℕ) (es : List Entry) (rest : List ℕ) → IsBytes bytes → entries_by (entry_at room) n bytes ≡ Ok (es, rest) → TakesAll room bytes n es rest
all_take room n bytes es rest fits is = entries_take room (entry_at room) (entry_takes room) n bytes es rest fits is

-- ---- what is spelled is read

ran_again : (h n : ℕ) (rest : List ℕ) → n < 2 ^ 32 → ran_at ((h ∷ word n) ++ rest) ≡ Ok (Ran h n, rest)
unfolding ran_at
ran_again h n rest lt = parts_again byte_at one Always word_at word (Below (2 ^ 32)) Ran byte_law word_law h n rest tt lt

entered_again : (h : ℕ) (p : PointRef) (rest : List ℕ) → p.entry < 2 ^ 64 → entered_at ((h ∷ double p.entry) ++ rest) ≡ Ok (Entered h p, rest)
unfolding entered_at entered_by
entered_again h p rest lt = parts_again byte_at one Always double_at double (Below (2 ^ 64)) entered_by byte_law double_law h p.entry rest tt lt

called_again : (h : ℕ) (r : Record) (rest : List ℕ) → IsCall r → called_at ((h ∷ record_bytes r) ++ rest) ≡ Ok (Called h r, rest)
unfolding called_at
called_again h r rest is = parts_again byte_at one Always record_at record_bytes IsCall Called byte_law record_law h r rest tt is

-- the ending is read in the same two steps
bind-assoc : {A B C : Type 0} (r : Front A) (f : A × List ℕ → Front B) (g : B × List ℕ → Front C) → ((r >>= f) >>= g) ≡ (r >>= λ x. f x >>= g)
bind-assoc (Ok x) f g = refl
bind-assoc (Err e) f g = refl

ended_again : (x : Ending) (rest : List ℕ) → IsEnding x → ended_at (ending_bytes x ++ rest) ≡ Ok (Ended x, rest)
unfolding ended_at
ended_again x rest is =
    let bytes = ending_bytes x ++ rest in
    sym (bind-assoc (byte_at bytes) (λ kind. ending_of kind.0 bytes kind.1) finished)
    ∙ ap (λ (r : Front Ending). r >>= finished) (ending_law.again x rest is)

tag_again : (room tag : ℕ) (bytes : List ℕ) (r : Front Entry) → ((rescued : Front Entry) → entry_of rescued tag (tag ∷ bytes) bytes ≡ r) → entry_at room (tag ∷ bytes) ≡ r
unfolding entry_at byte_at
tag_again zero tag bytes r by = by (broken Deep (tag ∷ bytes))
tag_again (suc room) tag bytes r by = by (rescued_by (entry_at room) bytes)

rescued_again : (read : List ℕ → Front Entry) (h : ℕ) (p : PointRef) (f : FaultAt) (n : ℕ) (xs : List Entry) (text rest : List ℕ) → p.entry < 2 ^ 64 → IsFault f → n < 2 ^ 32
    → entries_by read n (text ++ rest) ≡ Ok (xs, rest) → rescued_by read ((rescue_bytes h p f n ++ text) ++ rest) ≡ Ok (v.Rescued h p f xs, rest)
unfolding rescued_by rescue_bytes
rescued_again read h p f n xs text rest entry fault few inside =
    let tail = text ++ rest in
    let a : byte_at (one h ++ (double p.entry ++ (fault_bytes f ++ (word n ++ tail)))) ≡ Ok (h, double p.entry ++ (fault_bytes f ++ (word n ++ tail))) = byte_law.again h _ tt in
    let b : double_at (double p.entry ++ (fault_bytes f ++ (word n ++ tail))) ≡ Ok (p.entry, fault_bytes f ++ (word n ++ tail)) = double_law.again p.entry _ entry in
    let c : fault_at (fault_bytes f ++ (word n ++ tail)) ≡ Ok (f, word n ++ tail) = fault_law.again f _ fault in
    let d : word_at (word n ++ tail) ≡ Ok (n, tail) = word_law.again n tail few in
    ap (rescued_by read) (regroup h (double p.entry) (fault_bytes f) (word n) text rest)
    ∙ rw (a, b, c, d, inside) refl

called-record : (room h : ℕ) (r : Record) → IsShallow room (Called h r) → InRange (Called h r) → IsCall r
unfolding IsShallow InRange
called-record zero h r s i = record { is_record = i; short = s }
called-record (suc room) h r s i = record { is_record = i; short = s }

more_again : (read : List ℕ → Front Entry) (n : ℕ) (e : Entry) (es : List Entry) (text tail rest : List ℕ) → read (text ++ (tail ++ rest)) ≡ Ok (e, tail ++ rest) → entries_by read n (tail ++ rest) ≡ Ok (es, rest)
    → entries_by read (suc n) ((text ++ tail) ++ rest) ≡ Ok (e ∷ es, rest)
more_again read n e es text tail rest first others =
    let regrouped : (text ++ tail) ++ rest ≡ text ++ (tail ++ rest) = append_assoc text tail rest in
    rw (regrouped, first, others) refl

mutual
  unfolding entry_bytes entry_of entry_at byte_at IsShallow InRange

  pub entry_again : (room : ℕ) (e : Entry) (rest : List ℕ) → IsShallow room e → InRange e → entry_at room (entry_bytes e ++ rest) ≡ Ok (e, rest)
  entry_again room (Ran h n) rest s i = tag_again room 1 _ _ (λ rescued. ran_again h n rest i)
  entry_again room (Entered h p) rest s i = tag_again room 2 _ _ (λ rescued. entered_again h p rest i)
  entry_again room (Called h r) rest s i = tag_again room 3 _ _ (λ rescued. called_again h r rest (called-record room h r s i))
  entry_again zero (Rescued' h p f shape row) rest s i = absurd s
  entry_again (suc room) (Rescued' h p f shape row) rest s i =
      rescued_again (entry_at room) h p f (row_length row) (items-the_row-Entry _ row) (row_bytes row) rest i.0 i.1 s.0 (row_again room row rest s.1 i.2)
      ∙ ap (λ (e : Entry). Ok (e, rest)) (rescued-is h p f shape row)
  entry_again room (Ended x) rest s i = tag_again room 5 _ _ (λ rescued. ended_again x rest i)

  row_again : (room : ℕ) {m : _} (row : Row_of-Entry m) (rest : List ℕ) → IsShallowRow room row → InRangeRow row → entries_by (entry_at room) (row_length row) (row_bytes row ++ rest) ≡ Ok (items-the_row-Entry m row, rest)
  row_again room end_of-Entry rest s i = refl
  row_again room (more_of-Entry e row) rest s i =
      more_again (entry_at room) (row_length row) e (items-the_row-Entry _ row) (entry_bytes e) (row_bytes row) rest (entry_again room e (row_bytes row ++ rest) s.0 i.0) (row_again room row rest s.1 i.1)

pub all_again : (room : ℕ) (es : List Entry) (rest : List ℕ) → AreShallow room es → AreInRange es → entries_by (entry_at room) (length es) (entries_bytes es ++ rest) ≡ Ok (es, rest)
all_again room [] rest s i = refl
all_again room (e ∷ es) rest s i =
    more_again (entry_at room) (length es) e es (entry_bytes e) (entries_bytes es) rest (entry_again room e (entries_bytes es ++ rest) s.0 i.0) (all_again room es rest s.1 i.1)

-- ---- of a rescued call, by the list of its inside

pub row-shallow : (room n : _) (row : Row_of-Entry n) → IsShallowRow room row → AreShallow room (items-the_row-Entry n row)
unfolding IsShallow
row-shallow room n end_of-Entry h = tt
row-shallow room n (more_of-Entry e rest) h = (h.0, row-shallow room _ rest h.1)

-- what a rescued call has inside
pub record IsInside (xs : List Entry) : Type 0 where
  pub few : length xs < 2 ^ 32
  pub room : ℕ
  pub shallow : AreShallow room xs

rescued-inside : (room h : ℕ) (p : PointRef) (f : FaultAt) (shape : _) (row : _) → IsShallow room (Rescued' h p f shape row) → IsInside (items-the_row-Entry _ row)
unfolding IsShallow
rescued-inside zero h p f shape row s = absurd s
rescued-inside (suc room) h p f shape row s = record { few = (let len = row_length-is _ row in let lt = s.0 in omega arith); room = room; shallow = row-shallow room _ row s.1 }

pub shallow-inside : (room h : ℕ) (p : PointRef) (f : FaultAt) (xs : List Entry) → IsShallow room (v.Rescued h p f xs) → IsInside xs
shallow-inside room h p f xs =
    opened (λ e. IsShallow room e → IsInside xs) h p f xs (λ shape row is s. subst IsInside is (rescued-inside room h p f shape row s))

-- ---- of a call

pub called-short : (room h : ℕ) (r : Record) → IsShallow room (Called h r) → length r.bytes < 2 ^ 32
unfolding IsShallow
called-short zero h r s = s
called-short (suc room) h r s = s
