-- A history file is read as it is spelled.
use Rattle.std.proofs.Common.{◌≡◌, ℕ, ◌+◌, ◌-◌, ◌^◌, ◌<◌, ◌≤◌, Bool, true, false, cond, leb, ltb, eqb, ◌&&◌, List, [], ◌∷◌, ◌++◌, length, take, drop, Some, None, Result, Ok, Err, refl, sym, ap, subst, ◌∙◌, append_assoc, arith}
use Rattle.std.specs.Prelude.{IfOk, nat_eq}
use lib.Pointwise.{pointwise}
use Rattle.std.proofs.lemmas.Bool.{leb-true, le-leb, le-ltb, eqb-true, and_from}
use Rattle.std.proofs.lemmas.List.{take-append-drop, append-nil, nil_from_length, length-append, drop_at}
use Rattle.guest_words.specs.declared.limits.TheConstants.{BUDGET, FRAMES, HARTS}
use Rattle.run_history.specs.declared.entry.Entry.{Entry}
use Rattle.run_history.proofs.Ands.{and_left, and_right}
use Rattle.history_file.specs.declared.file_fault.FileKind.{FileKind}
use Rattle.history_file.specs.declared.file_fault.FileKind.TheVariants.{Rest, Magic, Short}
use Rattle.history_file.specs.declared.file_fault.FileFault.{FileFault}
use Rattle.history_file.specs.declared.file_fault.FileFault.TheVariants as file
use Rattle.history_file.specs.declared.head.Head.{Head}
use Rattle.history_file.specs.Numbers.{double}
use Rattle.history_file.specs.HistoryBytes.{magic, entries_bytes, head_bytes, history_bytes}
use Rattle.history_file.specs.Spelled.{IsHead, IsSpelled, IsHistoryFile, BeginsWithHistory}
use Rattle.history_file.specs.Reading.{◌>>=◌, Front, meant, within, byte_at, double_at, behind_magic, harts_at, budget_at, head_at, entries_by, entry_at, history_at, whole_at, placed, read_of, read_front_of, Answers, TellsFault}
use Rattle.history_file.proofs.Exact.{IsBytes, IsBytes-drop, Takes, Exact, step, bind_ok, ok_is}
use Rattle.history_file.proofs.FieldLaws.{one, Always, byte_law, Below, double_law}
use Rattle.history_file.proofs.ValueLaws.{meant_ok}
use Rattle.history_file.proofs.EntryLaws.{all_take, all_again}

-- ---- the letters

chosen : {A : Type 0} (b : Bool) (d : FileKind × ℕ) (x y : A) → cond b (Ok x) (Err d) ≡ Ok y → (b ≡ true) × (x ≡ y)
chosen true d x y e = (refl, cc)
chosen false d x y e = absurd cc

same_list : (xs ys : List ℕ) → pointwise nat_eq xs ys ≡ true → xs ≡ ys
same_list [] [] e = refl
same_list [] (y ∷ ys) e = absurd cc
same_list (x ∷ xs) [] e = absurd cc
same_list (x ∷ xs) (y ∷ ys) e =
    let first : x ≡ y = eqb-true x y (and_left (nat_eq x y) (pointwise nat_eq xs ys) e) in
    let others : xs ≡ ys = same_list xs ys (and_right (nat_eq x y) (pointwise nat_eq xs ys) e) in
    cc

long_enough : (b : Bool) (d : FileKind × ℕ) (r : Result (List ℕ) (FileKind × ℕ)) (rest : List ℕ) → cond b (Err d) r ≡ Ok rest → r ≡ Ok rest
long_enough true d r rest e = absurd cc
long_enough false d r rest e = e

magic_takes : (bytes rest : List ℕ) → IsBytes bytes → behind_magic bytes ≡ Ok rest → Takes bytes magic rest
unfolding behind_magic
magic_takes bytes rest fits e =
    let long = long_enough (ltb (length bytes) (length magic)) (Short, length bytes) _ rest e in
    let g = chosen (pointwise nat_eq (take (length magic) bytes) magic) (Magic, length bytes) (drop (length magic) bytes) rest long in
    let front : take (length magic) bytes ≡ magic = same_list (take (length magic) bytes) magic g.0 in
    record {
      parts = sym (take-append-drop (length magic) bytes) ∙ ap (λ (t : List ℕ). t ++ drop (length magic) bytes) front ∙ ap (λ (t : List ℕ). magic ++ t) g.1;
      rest_fits = subst IsBytes g.1 (IsBytes-drop (length magic) bytes fits);
    }

magic_again : (rest : List ℕ) → behind_magic (magic ++ rest) ≡ Ok rest
unfolding behind_magic
magic_again rest =
    let long : ltb (length (magic ++ rest)) (length magic) ≡ false = le-ltb _ _ (omega (arith, length-append magic rest)) in
    rw long refl

-- ---- numbers within bounds

pub record IsWithin (least most n : ℕ) : Type 0 where
  pub some : least ≤ n
  pub few : n ≤ most

some_if : (b : Bool) (x y : ℕ) → cond b (Some x) None ≡ Some y → (b ≡ true) × (x ≡ y)
some_if true x y e = (refl, cc)
some_if false x y e = absurd cc

within_some : (least most n y : ℕ) → within least most n ≡ Some y → IsWithin least most y × (n ≡ y)
within_some least most n y e =
    let g = some_if (leb least n && leb n most) n y e in
    let some = leb-true least n (and_left (leb least n) (leb n most) g.0) in
    let few = leb-true n most (and_right (leb least n) (leb n most) g.0) in
    (subst (IsWithin least most) g.1 (record { some = some; few = few }), g.1)

within_again : (least most n : ℕ) → IsWithin least most n → within least most n ≡ Some n
within_again least most n h =
    let both : (leb least n && leb n most) ≡ true = and_from (leb least n) (leb n most) (le-leb least n h.some) (le-leb n most h.few) in
    rw both refl

abbrev bounded : (List ℕ → Front ℕ) → ℕ → ℕ → List ℕ → Front ℕ
bounded read least most bytes = read bytes >>= λ n. meant (within least most n.0) bytes n.1

bounded_takes : (read : List ℕ → Front ℕ) (spell : ℕ → List ℕ) (P : ℕ → Type 0) → Exact read spell P → (least most : ℕ) (bytes : List ℕ) (n : ℕ) (rest : List ℕ) → IsBytes bytes
    → bounded read least most bytes ≡ Ok (n, rest) → Takes bytes (spell n) rest × IsWithin least most n
bounded_takes read spell P law least most bytes n rest fits e =
    let a = step read spell P law bytes (λ n. meant (within least most n.0) bytes n.1) (n, rest) fits e in
    let m = meant_ok (within least most a.value) bytes a.rest (n, rest) a.then_ in
    let w = within_some least most a.value n m.value in
    let behind = m.behind in
    (subst (λ (k : ℕ). Takes bytes (spell k) rest) w.1 (subst (Takes bytes (spell a.value)) behind a.taken), w.0)

bounded_again : (read : List ℕ → Front ℕ) (spell : ℕ → List ℕ) (P : ℕ → Type 0) → Exact read spell P → (least most n : ℕ) (rest : List ℕ) → P n → IsWithin least most n → bounded read least most (spell n ++ rest) ≡ Ok (n, rest)
bounded_again read spell P law least most n rest p h =
    let a : read (spell n ++ rest) ≡ Ok (n, rest) = law.again n rest p in
    rw (a, within_again least most n h) refl

harts_law : Exact harts_at one (IsWithin 1 HARTS)
unfolding harts_at
harts_law = record { takes = bounded_takes byte_at one Always byte_law 1 HARTS; again = λ n rest h. bounded_again byte_at one Always byte_law 1 HARTS n rest tt h }

below_budget : (n : ℕ) → IsWithin 1 BUDGET n → n < 2 ^ 64
below_budget n h = let few = h.few in omega arith

budget_law : Exact budget_at double (IsWithin 1 BUDGET)
unfolding budget_at
budget_law = record { takes = bounded_takes double_at double (Below (2 ^ 64)) double_law 1 BUDGET; again = λ n rest h. bounded_again double_at double (Below (2 ^ 64)) double_law 1 BUDGET n rest (below_budget n h) h }

-- ---- the head

pub record IsWhole (head : Head) : Type 0 where
  pub is_head : IsHead head
  pub ports : head.ports < 2 ^ 64

abbrev head_with : ℕ × List ℕ → ℕ × List ℕ → ℕ × List ℕ → Front Head
head_with harts ports budget = Ok (record { harts = harts.0; ports = ports.0; budget = budget.0 }, budget.1)

regroup : (m : List ℕ) (h : ℕ) (p b rest : List ℕ) → (m ++ h ∷ p ++ b) ++ rest ≡ m ++ (one h ++ (p ++ (b ++ rest)))
regroup m h p b rest = simp append_assoc

head_takes : (bytes : List ℕ) (head : Head) (rest : List ℕ) → IsBytes bytes → head_at bytes ≡ Ok (head, rest) → Takes bytes (head_bytes head) rest × IsWhole head
unfolding head_at head_bytes
head_takes bytes head rest fits e =
    let m = bind_ok (behind_magic bytes) (λ rest. harts_at rest >>= λ harts. double_at harts.1 >>= λ ports. budget_at ports.1 >>= λ budget. head_with harts ports budget) (head, rest) e in
    let m-taken = magic_takes bytes m.value fits m.is in
    let a = step harts_at one (IsWithin 1 HARTS) harts_law m.value (λ harts. double_at harts.1 >>= λ ports. budget_at ports.1 >>= λ budget. head_with harts ports budget) (head, rest) m-taken.rest_fits m.then_ in
    let b = step double_at double (Below (2 ^ 64)) double_law a.rest (λ ports. budget_at ports.1 >>= λ budget. head_with (a.value, a.rest) ports budget) (head, rest) a.taken.rest_fits a.then_ in
    let c = step budget_at double (IsWithin 1 BUDGET) budget_law b.rest (λ budget. head_with (a.value, a.rest) (b.value, b.rest) budget) (head, rest) b.taken.rest_fits b.then_ in
    let text : bytes ≡ (magic ++ a.value ∷ double b.value ++ double c.value) ++ c.rest =
    m-taken.parts ∙ ap (λ (t : List ℕ). magic ++ t) (a.taken.parts ∙ ap (λ (t : List ℕ). one a.value ++ t) (b.taken.parts ∙ ap (λ (t : List ℕ). double b.value ++ t) c.taken.parts))
    ∙ sym (regroup magic a.value (double b.value) (double c.value) c.rest) in
    let found : Head = record { harts = a.value; ports = b.value; budget = c.value } in
    let whole : IsWhole found = record { is_head = record { some_harts = a.holds.some; most_harts = a.holds.few; some_budget = c.holds.some; most_budget = c.holds.few }; ports = b.holds } in
    subst (λ (y : Head × List ℕ). Takes bytes (head_bytes y.0) y.1 × IsWhole y.0) (ok_is {A = Head × List ℕ} (found, c.rest) (head, rest) c.then_)
    (record { parts = text; rest_fits = c.taken.rest_fits }, whole)

head_again : (head : Head) (rest : List ℕ) → IsWhole head → head_at (head_bytes head ++ rest) ≡ Ok (head, rest)
unfolding head_at head_bytes
head_again head rest h =
    let tail = double head.budget ++ rest in
    let m : behind_magic (magic ++ (one head.harts ++ (double head.ports ++ tail))) ≡ Ok (one head.harts ++ (double head.ports ++ tail)) = magic_again _ in
    let a : harts_at (one head.harts ++ (double head.ports ++ tail)) ≡ Ok (head.harts, double head.ports ++ tail) = harts_law.again head.harts _ (record { some = h.is_head.some_harts; few = h.is_head.most_harts }) in
    let b : double_at (double head.ports ++ tail) ≡ Ok (head.ports, tail) = double_law.again head.ports tail h.ports in
    let c : budget_at tail ≡ Ok (head.budget, rest) = budget_law.again head.budget rest (record { some = h.is_head.some_budget; few = h.is_head.most_budget }) in
    ap head_at (regroup magic head.harts (double head.ports) (double head.budget) rest)
    ∙ rw (m, a, b, c) refl

head_law : Exact head_at head_bytes IsWhole
head_law = record { takes = head_takes; again = head_again }

-- ---- the head and the entries

abbrev both : Head × List ℕ → List Entry × List ℕ → Front (Head × List Entry)
both head entries = Ok ((head.0, entries.0), entries.1)

regroup_all : (a b c rest : List ℕ) → (a ++ b ++ c) ++ rest ≡ a ++ (b ++ (c ++ rest))
regroup_all a b c rest = simp append_assoc

pub history_takes : (bytes : List ℕ) (x : Head × List Entry) (rest : List ℕ) → IsBytes bytes → history_at bytes ≡ Ok (x, rest) → Takes bytes (history_bytes x.0 x.1) rest × IsSpelled x.0 x.1
unfolding history_at history_bytes
history_takes bytes x rest fits e =
    let a = step head_at head_bytes IsWhole head_law bytes (λ head. double_at head.1 >>= λ count. entries_by (entry_at FRAMES) count.0 count.1 >>= λ entries. both head entries) (x, rest) fits e in
    let b = step double_at double (Below (2 ^ 64)) double_law a.rest (λ count. entries_by (entry_at FRAMES) count.0 count.1 >>= λ entries. both (a.value, a.rest) entries) (x, rest) a.taken.rest_fits a.then_ in
    let c = bind_ok (entries_by (entry_at FRAMES) b.value b.rest) (λ entries. both (a.value, a.rest) entries) (x, rest) b.then_ in
    let all = all_take FRAMES b.value b.rest c.value.0 c.value.1 b.taken.rest_fits c.is in
    let text : bytes ≡ (head_bytes a.value ++ double b.value ++ entries_bytes c.value.0) ++ c.value.1 =
    a.taken.parts ∙ ap (λ (t : List ℕ). head_bytes a.value ++ t) (b.taken.parts ∙ ap (λ (t : List ℕ). double b.value ++ t) all.taken.parts)
    ∙ sym (regroup_all (head_bytes a.value) (double b.value) (entries_bytes c.value.0) c.value.1) in
    let counted : bytes ≡ history_bytes a.value c.value.0 ++ c.value.1 =
    text ∙ ap (λ (n : ℕ). (head_bytes a.value ++ double n ++ entries_bytes c.value.0) ++ c.value.1) (sym all.count) in
    let few : length c.value.0 < 2 ^ 64 = (let count = all.count in let holds = b.holds in omega arith) in
    let spelled : IsSpelled a.value c.value.0 = record { is_head = a.holds.is_head; ports = a.holds.ports; few = few; shallow = all.shallow; in_range = all.in_range } in
    subst (λ (y : (Head × List Entry) × List ℕ). Takes bytes (history_bytes y.0.0 y.0.1) y.1 × IsSpelled y.0.0 y.0.1)
    (ok_is {A = (Head × List Entry) × List ℕ} ((a.value, c.value.0), c.value.1) (x, rest) c.then_)
    (record { parts = counted; rest_fits = all.taken.rest_fits }, spelled)

pub history_again : (head : Head) (entries : List Entry) (rest : List ℕ) → IsSpelled head entries → history_at (history_bytes head entries ++ rest) ≡ Ok ((head, entries), rest)
unfolding history_at history_bytes
history_again head entries rest h =
    let tail = entries_bytes entries ++ rest in
    let a : head_at (head_bytes head ++ (double (length entries) ++ tail)) ≡ Ok (head, double (length entries) ++ tail) = head_law.again head _ (record { is_head = h.is_head; ports = h.ports }) in
    let b : double_at (double (length entries) ++ tail) ≡ Ok (length entries, tail) = double_law.again (length entries) tail h.few in
    let c : entries_by (entry_at FRAMES) (length entries) tail ≡ Ok (entries, rest) = all_again FRAMES entries rest h.shallow h.in_range in
    ap history_at (regroup_all (head_bytes head) (double (length entries)) (entries_bytes entries) rest)
    ∙ rw (a, b, c) refl

-- no history file begins another
pub one_history_lem : (h k : Head) (es fs : List Entry) (x y : List ℕ) → IsSpelled h es → IsSpelled k fs → history_bytes h es ++ x ≡ history_bytes k fs ++ y → (h ≡ k) × (es ≡ fs) × (x ≡ y)
one_history_lem h k es fs x y sh sk e =
    let read = sym (history_again h es x sh) ∙ ap history_at e ∙ history_again k fs y sk in
    let same = ok_is {A = (Head × List Entry) × List ℕ} ((h, es), x) ((k, fs), y) read in
    (ap (λ (p : (Head × List Entry) × List ℕ). p.0.0) same, ap (λ (p : (Head × List Entry) × List ℕ). p.0.1) same, ap (λ (p : (Head × List Entry) × List ℕ). p.1) same)

-- ---- files

abbrev nothing_behind : (Head × List Entry) × List ℕ → Result (Head × List Entry) (FileKind × ℕ)
nothing_behind read = cond (eqb (length read.1) 0) (Ok read.0) (Err (Rest, length read.1))

whole_takes : (bytes : List ℕ) (x : Head × List Entry) → IsBytes bytes → whole_at bytes ≡ Ok x → IsHistoryFile bytes x.0 x.1
unfolding whole_at
whole_takes bytes x fits e =
    let a = bind_ok (history_at bytes) nothing_behind x e in
    let g = chosen (eqb (length a.value.1) 0) (Rest, length a.value.1) a.value.0 x a.then_ in
    let nothing : a.value.1 ≡ [] = nil_from_length a.value.1 (eqb-true _ _ g.0) in
    let t = history_takes bytes a.value.0 a.value.1 fits a.is in
    subst (λ (y : Head × List Entry). IsHistoryFile bytes y.0 y.1) g.1
    (record { is_spelled = t.1; whole = t.0.parts ∙ ap (λ (r : List ℕ). history_bytes a.value.0.0 a.value.0.1 ++ r) nothing ∙ append-nil (history_bytes a.value.0.0 a.value.0.1) })

whole_again : (bytes : List ℕ) (head : Head) (entries : List Entry) → IsHistoryFile bytes head entries → whole_at bytes ≡ Ok (head, entries)
unfolding whole_at
whole_again bytes head entries h =
    let read : history_at bytes ≡ Ok ((head, entries), []) =
    ap history_at (h.whole ∙ sym (append-nil (history_bytes head entries))) ∙ history_again head entries [] h.is_spelled in
    rw read refl

placed_ok : {A : Type 0} (n : ℕ) (r : Result A (FileKind × ℕ)) (x : A) → placed n r ≡ Ok x → r ≡ Ok x
placed_ok n (Ok y) x e = e
placed_ok n (Err d) x e = absurd cc

-- ---- what reading answers

abbrev pub found : {A : Type 0} → A → Result A (FileKind × ℕ)
found x = Ok x

pub is_found : {X : Type 0} (seen : X → Head × List Entry) (bytes : List ℕ) (r : Result X FileFault) → IsBytes bytes → Answers seen r (read_of bytes) → IfOk r (λ x. IsHistoryFile bytes (seen x).0 (seen x).1)
unfolding read_of
is_found seen bytes (Ok x) fits answers = whole_takes bytes (seen x) fits (placed_ok (length bytes) (whole_at bytes) (seen x) answers)
is_found seen bytes (Err e) fits answers = tt

pub read-again : (bytes : List ℕ) (head : Head) (entries : List Entry) → IsHistoryFile bytes head entries → read_of bytes ≡ Ok (head, entries)
unfolding read_of
read-again bytes head entries h = ap (placed (length bytes)) (whole_again bytes head entries h)

pub front_takes : (bytes : List ℕ) (x : Head × List Entry) (rest : List ℕ) → IsBytes bytes → read_front_of bytes ≡ Ok (x, rest) → Takes bytes (history_bytes x.0 x.1) rest × IsSpelled x.0 x.1
unfolding read_front_of
front_takes bytes x rest fits e = history_takes bytes x rest fits (placed_ok (length bytes) (history_at bytes) (x, rest) e)

pub front_again : (head : Head) (entries : List Entry) (rest : List ℕ) → IsSpelled head entries → read_front_of (history_bytes head entries ++ rest) ≡ Ok ((head, entries), rest)
unfolding read_front_of
front_again head entries rest h = ap (placed (length (history_bytes head entries ++ rest))) (history_again head entries rest h)

-- a fault that is told of bytes that begin with a history file is want of memory
told_ok : {A B : Type 0} (e : FileFault) (r : Result A (FileKind × ℕ)) (x : A) (y : B) → TellsFault e r → r ≡ Ok x → TellsFault e (found y)
told_ok (file.At fault offset) r x y tells is = absurd cc
told_ok file.Memory r x y tells is = tt

pub is_only : {X : Type 0} (seen : X → Head × List Entry) (bytes : List ℕ) (head : Head) (entries : List Entry) (r : Result X FileFault) → IsHistoryFile bytes head entries → Answers seen r (read_of bytes)
    → Answers seen r (found (head, entries))
is_only seen bytes head entries (Ok x) h answers = sym (read-again bytes head entries h) ∙ answers
is_only seen bytes head entries (Err e) h answers = told_ok e (read_of bytes) (head, entries) (head, entries) answers (read-again bytes head entries h)

-- ---- what reading the front answers, by the bytes behind the history

behind_is : (bytes : List ℕ) (x : Head × List Entry) (rest : List ℕ) → Takes bytes (history_bytes x.0 x.1) rest
    → (length bytes - length rest ≡ length (history_bytes x.0 x.1)) × (drop (length bytes - length rest) bytes ≡ rest)
behind_is bytes x rest t =
    let lengths : length bytes ≡ length (history_bytes x.0 x.1) + length rest = ap length t.parts ∙ length-append (history_bytes x.0 x.1) rest in
    let size : length bytes - length rest ≡ length (history_bytes x.0 x.1) = omega arith in
    (size, ap (λ (n : ℕ). drop n bytes) size ∙ ap (drop (length (history_bytes x.0 x.1))) t.parts ∙ drop_at (history_bytes x.0 x.1) rest (length (history_bytes x.0 x.1)) refl)

pub begins : (bytes : List ℕ) (x : Head × List Entry) (rest : List ℕ) → IsBytes bytes → read_front_of bytes ≡ Ok (x, rest) → BeginsWithHistory bytes x.0 x.1 (length bytes - length rest)
begins bytes x rest fits e =
    let t = front_takes bytes x rest fits e in
    let b = behind_is bytes x rest t.0 in
    record { is_spelled = t.1; front = t.0.parts ∙ ap (λ (r : List ℕ). history_bytes x.0 x.1 ++ r) (sym b.1); is_size = b.0 }

pub rest_within : (bytes : List ℕ) (x : Head × List Entry) (rest : List ℕ) → IsBytes bytes → read_front_of bytes ≡ Ok (x, rest) → length rest ≤ length bytes
rest_within bytes x rest fits e =
    let t = front_takes bytes x rest fits e in
    let lengths : length bytes ≡ length (history_bytes x.0 x.1) + length rest = ap length t.0.parts ∙ length-append (history_bytes x.0 x.1) rest in
    omega arith

pub front_first : (bytes : List ℕ) (x : Head × List Entry) (rest : List ℕ) → IsBytes bytes → read_front_of bytes ≡ Ok (x, rest) → read_front_of bytes ≡ Ok (x, drop (length bytes - length rest) bytes)
front_first bytes x rest fits e =
    let b = behind_is bytes x rest (front_takes bytes x rest fits e).0 in
    e ∙ ap (λ (r : List ℕ). Ok (x, r)) (sym b.1)

front-again_at : (bytes : List ℕ) (head : Head) (entries : List Entry) (rest : List ℕ) → IsSpelled head entries → bytes ≡ history_bytes head entries ++ rest → read_front_of bytes ≡ Ok ((head, entries), rest)
front-again_at bytes head entries rest spelled is = ap read_front_of is ∙ front_again head entries rest spelled

pub front_only : (bytes : List ℕ) (head : Head) (entries : List Entry) (rest : List ℕ) (x : Head × List Entry) (behind : List ℕ) → IsSpelled head entries → bytes ≡ history_bytes head entries ++ rest
    → read_front_of bytes ≡ Ok (x, behind) → found (head, entries) ≡ found x
front_only bytes head entries rest x behind spelled is e =
    let same = ok_is {A = (Head × List Entry) × List ℕ} ((head, entries), rest) (x, behind) (sym (front-again_at bytes head entries rest spelled is) ∙ e) in
    ap (λ (p : (Head × List Entry) × List ℕ). found p.0) same

pub front_refused : (e : FileFault) (bytes : List ℕ) (head : Head) (entries : List Entry) (rest : List ℕ) → IsSpelled head entries → bytes ≡ history_bytes head entries ++ rest
    → TellsFault e (read_front_of bytes) → TellsFault e (found {A = Head × List Entry} (head, entries))
front_refused e bytes head entries rest spelled is tells =
    told_ok {A = (Head × List Entry) × List ℕ} {B = Head × List Entry} e (read_front_of bytes) ((head, entries), rest) (head, entries) tells (front-again_at bytes head entries rest spelled is)
