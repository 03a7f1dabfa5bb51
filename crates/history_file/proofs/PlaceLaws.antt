-- The place of a fault is in the file, and no fault of a front is that bytes are left.
use Rattle.std.proofs.Common.{◌≡◌, ℕ, zero, suc, ◌-◌, ◌≤◌, Bool, true, false, cond, ltb, List, [], ◌∷◌, length, take, drop, Option, Some, None, Result, Ok, Err, ap, subst, arith, length-drop}
use Rattle.std.specs.Prelude.{MatchResult, nat_eq, IsErrOf}
use Rattle.std.specs.Int.{Width, w32, w64, byte_len, from_le_bytes}
use lib.Pointwise.{pointwise}
use Rattle.guest_words.specs.declared.limits.TheConstants.{FRAMES}
use Rattle.run_history.specs.declared.entry.Entry.{Entry}
use Rattle.history_file.specs.declared.file_fault.FileKind.{FileKind}
use Rattle.history_file.specs.declared.file_fault.FileKind.TheVariants.{Magic, Short, Tag, Value, Deep, Rest}
use Rattle.history_file.specs.declared.file_fault.FileFault.{FileFault}
use Rattle.history_file.specs.declared.file_fault.FileFault.TheVariants as file
use Rattle.history_file.specs.declared.head.Head.{Head}
use Rattle.history_file.specs.HistoryBytes.{magic}
use Rattle.history_file.specs.Reading.{◌>>=◌, Front, broken, meant, byte_at, number_at, word_at, double_at, text_at, way_at, name_at, fault_at, record_at, ran_at, entered_at, called_at, exit_at, fatal_at, ending_of, ended_at, entries_by, rescued_by, entry_of, entry_at, behind_magic, harts_at, budget_at, head_at, history_at, whole_at, placed, read_of, read_front_of, Answers, TellsFault}

abbrev pub IsNotRest : FileKind → Type 0
IsNotRest Rest = ⊥
IsNotRest _ = Unit {0}

abbrev failed : {A : Type 0} → FileKind → ℕ → Result A (FileKind × ℕ)
failed fault offset = Err (fault, offset)

-- a fault of a front of these bytes
pub record IsFaultOf (bytes : List ℕ) (e : FileKind × ℕ) : Type 0 where
  pub inside : e.1 ≤ length bytes
  pub kind : IsNotRest e.0

pub record IsBehind (bytes rest : List ℕ) : Type 0 where
  pub no_longer : length rest ≤ length bytes

abbrev pub Keeps : {A : Type 0} → List ℕ → Front A → Type 0
Keeps bytes read = MatchResult read (λ x. IsBehind bytes x.1) (IsFaultOf bytes)

wider : {A : Type 0} (bytes rest : List ℕ) (read : Front A) → IsBehind bytes rest → Keeps rest read → Keeps bytes read
wider bytes rest (Ok x) b k = let le = b.no_longer in let here = k.no_longer in record { no_longer = omega arith }
wider bytes rest (Err e) b k = let le = b.no_longer in let here = k.inside in record { inside = omega arith; kind = k.kind }

bound : {A B : Type 0} (bytes : List ℕ) (read : Front A) (f : A × List ℕ → Front B) → Keeps bytes read → ((x : A × List ℕ) → IsBehind bytes x.1 → Keeps bytes (f x)) → Keeps bytes (read >>= f)
bound bytes (Ok x) f k next = next x k
bound bytes (Err e) f k next = k

chain : {A B : Type 0} (bytes : List ℕ) (read : Front A) (f : A × List ℕ → Front B) → Keeps bytes read → ((x : A × List ℕ) → Keeps x.1 (f x)) → Keeps bytes (read >>= f)
chain bytes read f k next = bound bytes read f k (λ x b. wider bytes x.1 (f x) b (next x))

same : (bytes : List ℕ) → IsBehind bytes bytes
same bytes = record { no_longer = omega arith }

dropped : (n : ℕ) (bytes : List ℕ) → IsBehind bytes (drop n bytes)
dropped n bytes = let len = length-drop n bytes in record { no_longer = omega arith }

refused : (bytes : List ℕ) (fault : FileKind) → IsNotRest fault → IsFaultOf bytes (fault, length bytes)
refused bytes fault kind = record { inside = omega arith; kind = kind }

byte_keeps : (bytes : List ℕ) → Keeps bytes (byte_at bytes)
unfolding byte_at
byte_keeps [] = refused [] Short tt
byte_keeps (b ∷ bytes) = record { no_longer = omega arith }

chosen_keeps : {A : Type 0} (bytes : List ℕ) (b : Bool) (x : A × List ℕ) → IsBehind bytes x.1 → Keeps bytes (cond b (broken Short bytes) (Ok x))
chosen_keeps bytes true x behind = refused bytes Short tt
chosen_keeps bytes false x behind = behind

number_keeps : (w : Width) (bytes : List ℕ) → Keeps bytes (number_at w bytes)
number_keeps w bytes = chosen_keeps bytes (ltb (length bytes) (byte_len w)) (from_le_bytes w (take (byte_len w) bytes), drop (byte_len w) bytes) (dropped (byte_len w) bytes)

word_keeps : (bytes : List ℕ) → Keeps bytes (word_at bytes)
unfolding word_at
word_keeps bytes = number_keeps w32 bytes

double_keeps : (bytes : List ℕ) → Keeps bytes (double_at bytes)
unfolding double_at
double_keeps bytes = number_keeps w64 bytes

text_keeps : (bytes : List ℕ) → Keeps bytes (text_at bytes)
unfolding text_at
text_keeps bytes = chain bytes _ _ (word_keeps bytes) (λ count. chosen_keeps count.1 (ltb (length count.1) count.0) (take count.0 count.1, drop count.0 count.1) (dropped count.0 count.1))

meant_keeps : {A : Type 0} (o : Option A) (place rest : List ℕ) → IsBehind place rest → Keeps place (meant o place rest)
meant_keeps None place rest b = refused place Value tt
meant_keeps (Some x) place rest b = b

way_keeps : (bytes : List ℕ) → Keeps bytes (way_at bytes)
unfolding way_at
way_keeps bytes = bound bytes _ _ (byte_keeps bytes) (λ n b. meant_keeps _ bytes n.1 b)

name_keeps : (bytes : List ℕ) → Keeps bytes (name_at bytes)
unfolding name_at
name_keeps bytes = bound bytes _ _ (byte_keeps bytes) (λ n b. meant_keeps _ bytes n.1 b)

fault_keeps : (bytes : List ℕ) → Keeps bytes (fault_at bytes)
unfolding fault_at
fault_keeps bytes = chain bytes _ _ (name_keeps bytes) (λ name. chain name.1 _ _ (double_keeps name.1) (λ pc. same pc.1))

record_keeps : (bytes : List ℕ) → Keeps bytes (record_at bytes)
unfolding record_at
record_keeps bytes =
    chain bytes _ _ (double_keeps bytes) (λ port. chain port.1 _ _ (way_keeps port.1) (λ way. chain way.1 _ _ (double_keeps way.1) (λ asked.
    chain asked.1 _ _ (double_keeps asked.1) (λ answer. chain answer.1 _ _ (text_keeps answer.1) (λ text. same text.1)))))

ran_keeps : (bytes : List ℕ) → Keeps bytes (ran_at bytes)
unfolding ran_at
ran_keeps bytes = chain bytes _ _ (byte_keeps bytes) (λ hart. chain hart.1 _ _ (word_keeps hart.1) (λ count. same count.1))

entered_keeps : (bytes : List ℕ) → Keeps bytes (entered_at bytes)
unfolding entered_at
entered_keeps bytes = chain bytes _ _ (byte_keeps bytes) (λ hart. chain hart.1 _ _ (double_keeps hart.1) (λ entry. same entry.1))

called_keeps : (bytes : List ℕ) → Keeps bytes (called_at bytes)
unfolding called_at
called_keeps bytes = chain bytes _ _ (byte_keeps bytes) (λ hart. chain hart.1 _ _ (record_keeps hart.1) (λ call. same call.1))

exit_keeps : (bytes : List ℕ) → Keeps bytes (exit_at bytes)
unfolding exit_at
exit_keeps bytes = chain bytes _ _ (byte_keeps bytes) (λ hart. chain hart.1 _ _ (byte_keeps hart.1) (λ code. same code.1))

fatal_keeps : (bytes : List ℕ) → Keeps bytes (fatal_at bytes)
unfolding fatal_at
fatal_keeps bytes = chain bytes _ _ (byte_keeps bytes) (λ hart. chain hart.1 _ _ (fault_keeps hart.1) (λ fault. same fault.1))

ending_keeps : (kind : ℕ) (place rest : List ℕ) → IsBehind place rest → Keeps place (ending_of kind place rest)
unfolding ending_of
ending_keeps zero place rest b = wider place rest (exit_at rest) b (exit_keeps rest)
ending_keeps (suc zero) place rest b = wider place rest (fatal_at rest) b (fatal_keeps rest)
ending_keeps (suc (suc zero)) place rest b = b
ending_keeps (suc (suc (suc zero))) place rest b = b
ending_keeps (suc (suc (suc (suc n)))) place rest b = refused place Value tt

ended_keeps : (bytes : List ℕ) → Keeps bytes (ended_at bytes)
unfolding ended_at
ended_keeps bytes = bound bytes _ _ (byte_keeps bytes) (λ kind b. bound bytes _ _ (ending_keeps kind.0 bytes kind.1 b) (λ ending b. b))

entries_keeps : (one : List ℕ → Front Entry) → ((bytes : List ℕ) → Keeps bytes (one bytes)) → (n : ℕ) (bytes : List ℕ) → Keeps bytes (entries_by one n bytes)
entries_keeps one keeps zero bytes = same bytes
entries_keeps one keeps (suc n) bytes =
    chain bytes _ _ (keeps bytes) (λ first. chain first.1 _ _ (entries_keeps one keeps n first.1) (λ others. same others.1))

rescued_keeps : (one : List ℕ → Front Entry) → ((bytes : List ℕ) → Keeps bytes (one bytes)) → (bytes : List ℕ) → Keeps bytes (rescued_by one bytes)
unfolding rescued_by
rescued_keeps one keeps bytes =
    chain bytes _ _ (byte_keeps bytes) (λ hart. chain hart.1 _ _ (double_keeps hart.1) (λ entry. chain entry.1 _ _ (fault_keeps entry.1) (λ fault.
    chain fault.1 _ _ (word_keeps fault.1) (λ count. chain count.1 _ _ (entries_keeps one keeps count.0 count.1) (λ inside. same inside.1)))))

tagged_keeps : (rescued : Front Entry) (place rest : List ℕ) → IsBehind place rest → Keeps place rescued → (tag : ℕ) → Keeps place (entry_of rescued tag place rest)
unfolding entry_of
tagged_keeps rescued place rest b k zero = refused place Tag tt
tagged_keeps rescued place rest b k (suc zero) = wider place rest (ran_at rest) b (ran_keeps rest)
tagged_keeps rescued place rest b k (suc (suc zero)) = wider place rest (entered_at rest) b (entered_keeps rest)
tagged_keeps rescued place rest b k (suc (suc (suc zero))) = wider place rest (called_at rest) b (called_keeps rest)
tagged_keeps rescued place rest b k (suc (suc (suc (suc zero)))) = k
tagged_keeps rescued place rest b k (suc (suc (suc (suc (suc zero))))) = wider place rest (ended_at rest) b (ended_keeps rest)
tagged_keeps rescued place rest b k (suc (suc (suc (suc (suc (suc n)))))) = refused place Tag tt

entry_keeps : (room : ℕ) (bytes : List ℕ) → Keeps bytes (entry_at room bytes)
unfolding entry_at
entry_keeps zero bytes = bound bytes _ _ (byte_keeps bytes) (λ tag b. tagged_keeps (broken Deep bytes) bytes tag.1 b (refused bytes Deep tt) tag.0)
entry_keeps (suc room) bytes =
    bound bytes _ _ (byte_keeps bytes) (λ tag b. tagged_keeps (rescued_by (entry_at room) tag.1) bytes tag.1 b (wider bytes tag.1 (rescued_by (entry_at room) tag.1) b (rescued_keeps (entry_at room) (entry_keeps room) tag.1)) tag.0)

-- the letters, and what is read behind them
letter_keeps : {B : Type 0} (bytes : List ℕ) (short is : Bool) (rest : List ℕ) (f : List ℕ → Front B) → IsBehind bytes rest → Keeps rest (f rest) → Keeps bytes (cond short (Err (Short, length bytes)) (cond is (Ok rest) (Err (Magic, length bytes))) >>= f)
letter_keeps bytes true is rest f behind k = refused bytes Short tt
letter_keeps bytes false true rest f behind k = wider bytes rest (f rest) behind k
letter_keeps bytes false false rest f behind k = refused bytes Magic tt

letters_keep : {B : Type 0} (bytes : List ℕ) (f : List ℕ → Front B) → ((rest : List ℕ) → Keeps rest (f rest)) → Keeps bytes (behind_magic bytes >>= f)
unfolding behind_magic
letters_keep bytes f next =
    letter_keeps bytes (ltb (length bytes) (length magic)) (pointwise nat_eq (take (length magic) bytes) magic) (drop (length magic) bytes) f (dropped (length magic) bytes) (next (drop (length magic) bytes))

harts_keeps : (bytes : List ℕ) → Keeps bytes (harts_at bytes)
unfolding harts_at
harts_keeps bytes = bound bytes _ _ (byte_keeps bytes) (λ n b. meant_keeps _ bytes n.1 b)

budget_keeps : (bytes : List ℕ) → Keeps bytes (budget_at bytes)
unfolding budget_at
budget_keeps bytes = bound bytes _ _ (double_keeps bytes) (λ n b. meant_keeps _ bytes n.1 b)

head_keeps : (bytes : List ℕ) → Keeps bytes (head_at bytes)
unfolding head_at
head_keeps bytes =
    letters_keep bytes _ (λ rest. chain rest _ _ (harts_keeps rest) (λ harts. chain harts.1 _ _ (double_keeps harts.1) (λ ports. chain ports.1 _ _ (budget_keeps ports.1) (λ budget. same budget.1))))

pub history_keeps : (bytes : List ℕ) → Keeps bytes (history_at bytes)
unfolding history_at
history_keeps bytes =
    chain bytes _ _ (head_keeps bytes) (λ head. chain head.1 _ _ (double_keeps head.1) (λ count. chain count.1 _ _ (entries_keeps (entry_at FRAMES) (entry_keeps FRAMES) count.0 count.1) (λ entries. same entries.1)))

-- ---- what reading answers

abbrev err : {A E : Type 0} → E → Result A E
err e = Err e

err_is : {A E : Type 0} (d e : E) → err {A = A} {E = E} d ≡ err {A = A} {E = E} e → d ≡ e
err_is d e is = cc

kind_of : {A : Type 0} (bytes : List ℕ) (read : Front A) (fault : FileKind) (offset : ℕ) → Keeps bytes read → placed (length bytes) read ≡ failed fault offset → IsNotRest fault
kind_of bytes (Ok x) fault offset k e = absurd cc
kind_of {A = A} bytes (Err e) fault offset k is =
    let kind : e.0 ≡ fault = ap (λ (x : FileKind × ℕ). x.0) (err_is {A = A × List ℕ} {E = FileKind × ℕ} (e.0, length bytes - e.1) (fault, offset) is) in
    subst IsNotRest kind k.kind

offset_of-inside : {A : Type 0} (size : ℕ) (read : Result A (FileKind × ℕ)) (fault : FileKind) (offset : ℕ) → placed size read ≡ failed fault offset → offset ≤ size
offset_of-inside size (Ok x) fault offset e = absurd cc
offset_of-inside {A = A} size (Err e) fault offset is =
    let place : size - e.1 ≡ offset = ap (λ (x : FileKind × ℕ). x.1) (err_is {A = A} {E = FileKind × ℕ} (e.0, size - e.1) (fault, offset) is) in
    omega arith

pub inside_whole : {X : Type 0} (seen : X → Head × List Entry) (bytes : List ℕ) (r : Result X FileFault) → Answers seen r (read_of bytes) → (fault : FileKind) (offset : ℕ) → IsErrOf r (file.At fault offset) → offset ≤ length bytes
unfolding read_of
inside_whole seen bytes (Ok x) answers fault offset e = absurd cc
inside_whole {X = X} seen bytes (Err d) answers fault offset e =
    offset_of-inside (length bytes) (whole_at bytes) fault offset (subst (λ (d : FileFault). TellsFault d (placed (length bytes) (whole_at bytes))) (err_is {A = X} {E = FileFault} d (file.At fault offset) e) answers)

pub inside_front : {X : Type 0} (bytes : List ℕ) (d : FileFault) → TellsFault d (read_front_of bytes) → (fault : FileKind) (offset : ℕ) → err {A = X} {E = FileFault} d ≡ err {A = X} {E = FileFault} (file.At fault offset) → offset ≤ length bytes
unfolding read_front_of
inside_front {X = X} bytes d tells fault offset e =
    offset_of-inside (length bytes) (history_at bytes) fault offset (subst (λ (d : FileFault). TellsFault d (placed (length bytes) (history_at bytes))) (err_is {A = X} {E = FileFault} d (file.At fault offset) e) tells)

pub never_rest : {X : Type 0} (bytes : List ℕ) (d : FileFault) → TellsFault d (read_front_of bytes) → (offset : ℕ) → err {A = X} {E = FileFault} d ≡ err {A = X} {E = FileFault} (file.At Rest offset) → ⊥
unfolding read_front_of
never_rest {X = X} bytes d tells offset e =
    kind_of bytes (history_at bytes) Rest offset (history_keeps bytes) (subst (λ (d : FileFault). TellsFault d (placed (length bytes) (history_at bytes))) (err_is {A = X} {E = FileFault} d (file.At Rest offset) e) tells)
