-- The fields of a history file are read as they are spelled.
use Rattle.std.proofs.Common.{◌≡◌, ℕ, suc, ◌^◌, ◌<◌, ◌≤◌, Bool, true, false, cond, ltb, List, [], ◌∷◌, ◌++◌, length, take, drop, Ok, Err, refl, sym, ap, subst, append_assoc, arith}
use Rattle.std.specs.Int.{Width, w32, w64, byte_len, from_le_bytes, to_le_bytes}
use Rattle.std.proofs.lemmas.Bool.{ltb-false, le-ltb}
use Rattle.std.proofs.lemmas.List.{take_at, drop_at, take-append-drop, length-append, length-take}
use Rattle.std.proofs.lemmas.Nat.{le_bytes_4, le_bytes_8, from_le_bytes-to_le_bytes_4, from_le_bytes-to_le_bytes_8}
use Rattle.history_file.specs.declared.file_fault.FileKind.{FileKind}
use Rattle.history_file.specs.declared.file_fault.FileKind.TheVariants.{Short}
use Rattle.history_file.specs.Numbers.{word, double}
use Rattle.history_file.specs.HistoryBytes.{text_bytes}
use Rattle.history_file.specs.Reading.{broken, byte_at, number_at, word_at, double_at, text_at}
use Rattle.history_file.proofs.Exact.{IsBytes, IsBytes-drop, IsBytes-take, Takes, Takes-then, Exact, step, ok_is}

-- a test that did not fail
pub guard_ok : {A : Type 0} (b : Bool) (d : FileKind × ℕ) (x y : A) → cond b (Err d) (Ok x) ≡ Ok y → (b ≡ false) × (x ≡ y)
guard_ok true d x y e = absurd cc
guard_ok false d x y e = (refl, cc)

-- ---- bytes

abbrev pub one : ℕ → List ℕ
one b = b ∷ []

abbrev pub Always : {A : Type 0} → A → Type 0
Always x = Unit {0}

byte_takes : (bytes : List ℕ) (x : ℕ) (rest : List ℕ) → IsBytes bytes → byte_at bytes ≡ Ok (x, rest) → Takes bytes (one x) rest × Unit {0}
unfolding byte_at
byte_takes [] x rest fits e = absurd cc
byte_takes (b ∷ bytes) x rest fits e =
    let h = ok_is (b, bytes) (x, rest) e in
    let b-is : b ≡ x = ap (λ (p : ℕ × List ℕ). p.0) h in
    let rest-is : bytes ≡ rest = ap (λ (p : ℕ × List ℕ). p.1) h in
    (record { parts = rw (b-is, rest-is) refl; rest_fits = subst IsBytes rest-is (λ i. fits (suc i)) }, tt)

byte_again : (x : ℕ) (rest : List ℕ) → Unit {0} → byte_at (one x ++ rest) ≡ Ok (x, rest)
unfolding byte_at
byte_again x rest h = refl

pub byte_law : Exact byte_at one Always
byte_law = record { takes = byte_takes; again = byte_again }

-- ---- numbers

record IsWide (w : Width) (limit : ℕ) : Type 0 where
  len : (n : ℕ) → length (to_le_bytes w n) ≡ byte_len w
  back : (bytes : List ℕ) → length bytes ≡ byte_len w → IsBytes bytes → to_le_bytes w (from_le_bytes w bytes) ≡ bytes
  again : (n : ℕ) → n < limit → from_le_bytes w (to_le_bytes w n) ≡ n
  below : (bytes : List ℕ) → IsBytes bytes → from_le_bytes w bytes < limit

wide32 : IsWide w32 (2 ^ 32)
wide32 = record {
  len = λ n. refl;
  back = λ bytes len fits. le_bytes_4 bytes _ len fits refl;
  again = λ n lt. from_le_bytes-to_le_bytes_4 n lt;
  below = λ bytes fits. omega (arith, fits 0, fits 1, fits 2, fits 3);
}

wide64 : IsWide w64 (2 ^ 64)
wide64 = record {
  len = λ n. refl;
  back = λ bytes len fits. le_bytes_8 bytes _ len fits refl;
  again = λ n lt. from_le_bytes-to_le_bytes_8 n lt;
  below = λ bytes fits. omega (arith, fits 0, fits 1, fits 2, fits 3, fits 4, fits 5, fits 6, fits 7);
}

number_takes : (w : Width) (limit : ℕ) (wide : IsWide w limit) (bytes : List ℕ) (n : ℕ) (rest : List ℕ) → IsBytes bytes → number_at w bytes ≡ Ok (n, rest) → Takes bytes (to_le_bytes w n) rest × (n < limit)
number_takes w limit wide bytes n rest fits e =
    let g = guard_ok (ltb (length bytes) (byte_len w)) (Short, length bytes) (from_le_bytes w (take (byte_len w) bytes), drop (byte_len w) bytes) (n, rest) e in
    let long : byte_len w ≤ length bytes = ltb-false _ _ g.0 in
    let n-is : from_le_bytes w (take (byte_len w) bytes) ≡ n = ap (λ (p : ℕ × List ℕ). p.0) g.1 in
    let rest-is : drop (byte_len w) bytes ≡ rest = ap (λ (p : ℕ × List ℕ). p.1) g.1 in
    let front : to_le_bytes w n ≡ take (byte_len w) bytes = rw (← n-is) (wide.back (take (byte_len w) bytes) (omega (arith, length-take (byte_len w) bytes)) (IsBytes-take (byte_len w) bytes fits)) in
    (record { parts = rw (front, ← rest-is) (sym (take-append-drop (byte_len w) bytes)); rest_fits = rw (← rest-is) (IsBytes-drop (byte_len w) bytes fits) }, rw (← n-is) (wide.below (take (byte_len w) bytes) (IsBytes-take (byte_len w) bytes fits)))

number_again : (w : Width) (limit : ℕ) (wide : IsWide w limit) (n : ℕ) (rest : List ℕ) → n < limit → number_at w (to_le_bytes w n ++ rest) ≡ Ok (n, rest)
number_again w limit wide n rest lt =
    let len = wide.len n in
    let long : ltb (length (to_le_bytes w n ++ rest)) (byte_len w) ≡ false = le-ltb _ _ (omega (arith, length-append (to_le_bytes w n) rest)) in
    rw (long, take_at (to_le_bytes w n) rest (byte_len w) len, drop_at (to_le_bytes w n) rest (byte_len w) len, wide.again n lt) refl

abbrev pub Below : ℕ → ℕ → Type 0
Below limit n = n < limit

pub word_law : Exact word_at word (Below (2 ^ 32))
unfolding word_at word
word_law = record { takes = number_takes w32 (2 ^ 32) wide32; again = number_again w32 (2 ^ 32) wide32 }

pub double_law : Exact double_at double (Below (2 ^ 64))
unfolding double_at double
double_law = record { takes = number_takes w64 (2 ^ 64) wide64; again = number_again w64 (2 ^ 64) wide64 }

pub word_length : (n : ℕ) → length (word n) ≡ 4
unfolding word
word_length n = refl

pub double_length : (n : ℕ) → length (double n) ≡ 8
unfolding double
double_length n = refl

-- ---- texts

abbrev pub Short_enough : List ℕ → Type 0
Short_enough text = length text < 2 ^ 32

text_takes : (bytes text rest : List ℕ) → IsBytes bytes → text_at bytes ≡ Ok (text, rest) → Takes bytes (text_bytes text) rest × (length text < 2 ^ 32)
unfolding text_at text_bytes
text_takes bytes text rest fits e =
    let n = step word_at word (Below (2 ^ 32)) word_law bytes (λ n. cond (ltb (length n.1) n.0) (broken Short n.1) (Ok (take n.0 n.1, drop n.0 n.1))) (text, rest) fits e in
    let g = guard_ok (ltb (length n.rest) n.value) (Short, length n.rest) (take n.value n.rest, drop n.value n.rest) (text, rest) n.then_ in
    let long : n.value ≤ length n.rest = ltb-false _ _ g.0 in
    let len : length (take n.value n.rest) ≡ n.value = omega (arith, length-take n.value n.rest) in
    let second : Takes n.rest (take n.value n.rest) (drop n.value n.rest) = record { parts = sym (take-append-drop n.value n.rest); rest_fits = IsBytes-drop n.value n.rest n.taken.rest_fits } in
    let both = Takes-then bytes (word n.value) n.rest (take n.value n.rest) (drop n.value n.rest) n.taken second in
    let whole : Takes bytes (text_bytes (take n.value n.rest)) (drop n.value n.rest) = subst (λ (k : ℕ). Takes bytes (word k ++ take n.value n.rest) (drop n.value n.rest)) (sym len) both in
    let holds = n.holds in
    subst (λ (p : List ℕ × List ℕ). Takes bytes (text_bytes p.0) p.1 × (length p.0 < 2 ^ 32)) g.1 (whole, omega arith)

text_again : (text rest : List ℕ) → length text < 2 ^ 32 → text_at (text_bytes text ++ rest) ≡ Ok (text, rest)
unfolding text_at text_bytes
text_again text rest lt =
    let regrouped : (word (length text) ++ text) ++ rest ≡ word (length text) ++ (text ++ rest) = append_assoc (word (length text)) text rest in
    let count : word_at (word (length text) ++ (text ++ rest)) ≡ Ok (length text, text ++ rest) = word_law.again (length text) (text ++ rest) lt in
    let long : ltb (length (text ++ rest)) (length text) ≡ false = le-ltb _ _ (omega (arith, length-append text rest)) in
    rw (regrouped, count, long, take_at text rest (length text) refl, drop_at text rest (length text) refl) refl

pub text_law : Exact text_at text_bytes Short_enough
text_law = record { takes = text_takes; again = text_again }
