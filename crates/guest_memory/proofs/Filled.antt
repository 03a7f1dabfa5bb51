-- Bytes stored one part after another, where all of them may be written.
use Rattle.std.proofs.Common.{◌≡◌, ℕ, zero, suc, ◌+◌, ◌-◌, ◌^◌, ◌≤◌, ◌&&◌, nat_le, Bool, true, false, List, [], ◌∷◌, ◌++◌, length, take, drop, refl, sym, ap, ◌∙◌, arith}
use Rattle.std.proofs.lemmas.Bool.Decides.{nat_tests}
use Rattle.std.proofs.lemmas.List.{length-take, take_all, take_rest}
use Rattle.std.specs.FinMap.{get}
use Rattle.guest_words.specs.declared.image.Rights.{Rights}
use Rattle.guest_words.specs.Space.{Space, has_right, each_has, can_write, with_bytes}
use Rattle.guest_words.proofs.SpaceLaws.{each_has-all}
use Rattle.guest_pages.proofs.Filling.{with_bytes-append}
use Rattle.guest_pages.proofs.Ranging.{range_has_all}
use Rattle.guest_memory.proofs.Rights.{has_right-with_bytes}
use Rattle.guest_memory.proofs.TextLaws.{each_has-at}

first : (a b : Bool) → (a && b) ≡ true → a ≡ true
first true b e = refl
first false b e = cc

second : (a b : Bool) → (a && b) ≡ true → b ≡ true
second true b e = e
second false b e = cc

abbrev write_of : Rights → Bool
write_of rights = rights.write

-- a range that may be written lies below 2^64
pub write_fits : (m : Space) (a n : ℕ) → can_write m a n ≡ true → a + n ≤ 2 ^ 64
write_fits m a n may = let t = first (nat_le (a + n) (2 ^ 64)) (each_has write_of m a n) may in grind (arith, nat_tests, t)

-- the rest of a range may be written where the whole range may, and still may when bytes are stored
pub writable_rest : (m n : Space) (a size done rest : ℕ) → ((q : ℕ) → has_right write_of (get n q) ≡ has_right write_of (get m q)) → can_write m a size ≡ true → done + rest ≤ size
    → can_write n (a + done) rest ≡ true
writable_rest m n a size done rest same may short =
    let fits = write_fits m a size may in
    range_has_all write_of n (a + done) rest (omega (arith, fits, short))
    (each_has-all write_of n (a + done) rest (λ q low high.
    same q ∙ each_has-at write_of m a size q (second (nat_le (a + size) (2 ^ 64)) (each_has write_of m a size) may) (omega (arith, low)) (omega (arith, high, short))))

pub writable_first : (m : Space) (a size part : ℕ) → can_write m a size ≡ true → part ≤ size → can_write m a part ≡ true
writable_first m a size part may short =
    let here : a + 0 ≡ a = omega arith in
    ap (λ q. can_write m q part) (sym here) ∙ writable_rest m m a size 0 part (λ q. refl) may (omega (arith, short))

pub writable_after : (m : Space) (a size done : ℕ) (bytes put : List ℕ) → can_write m a size ≡ true → done ≤ size → length bytes ≡ size - done → can_write (with_bytes m a put) (a + done) (length bytes) ≡ true
writable_after m a size done bytes put may within long =
    ap (can_write (with_bytes m a put) (a + done)) long
    ∙ writable_rest m (with_bytes m a put) a size done (size - done) (has_right-with_bytes write_of m a put) may (omega (arith, within))

take_both : (n k : ℕ) (xs : List ℕ) → take (n + k) xs ≡ take n xs ++ take k (drop n xs)
take_both zero k xs = let none : 0 + k ≡ k = omega arith in ap (λ j. take j xs) none
take_both (suc n) zero [] = let none : suc n + 0 ≡ suc n = omega arith in ap (λ j. take j []) none
take_both (suc n) (suc k) [] = let more : suc n + suc k ≡ suc (n + suc k) = omega arith in ap (λ j. take j []) more
take_both (suc n) k (x ∷ xs) =
    let more : suc n + k ≡ suc (n + k) = omega arith in
    ap (λ j. take j (x ∷ xs)) more ∙ ap (λ ys. x ∷ ys) (take_both n k xs)

-- the first bytes, and then some of the rest
pub filled_more : (m : Space) (a done count : ℕ) (bytes : List ℕ) → done ≤ length bytes
    → with_bytes (with_bytes m a (take done bytes)) (a + done) (take count (take (length bytes - done) (drop done bytes))) ≡ with_bytes m a (take (done + count) bytes)
filled_more m a done count bytes within =
    let long : length (take done bytes) ≡ done = let t = length-take done bytes in omega (arith, t, within) in
    ap (λ bs. with_bytes (with_bytes m a (take done bytes)) (a + done) (take count bs)) (take_rest bytes done)
    ∙ ap (λ n. with_bytes (with_bytes m a (take done bytes)) (a + n) (take count (drop done bytes))) (sym long)
    ∙ sym (with_bytes-append (take done bytes) (take count (drop done bytes)) m a)
    ∙ ap (with_bytes m a) (sym (take_both done count bytes))

pub filled_all : (m : Space) (a done : ℕ) (bytes : List ℕ) → length bytes ≤ done → with_bytes m a (take done bytes) ≡ with_bytes m a bytes
filled_all m a done bytes all = ap (with_bytes m a) (take_all done bytes all)

pub filled_none : (m : Space) (a : ℕ) (bytes : List ℕ) → with_bytes m a (take 0 bytes) ≡ m
unfolding with_bytes
filled_none m a bytes = refl
