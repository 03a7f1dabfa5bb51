-- Numbers and ranges, byte by byte.
use Rattle.std.proofs.Common.{◌≡◌, ℕ, zero, suc, ◌+◌, ◌-◌, ◌*◌, ◌/◌, ◌%◌, ◌^◌, ◌<◌, ◌≤◌, Bool, true, false, ◌&&◌, [], ◌∷◌, sym, ap, ◌∙◌, arith}
use Rattle.std.specs.FinMap.{get}
use Rattle.guest_words.specs.declared.image.Rights.{Rights}
use Rattle.guest_words.specs.Space.{Space, has_right, each_has, byte_of, bytes_at, number_at, low_bytes, with_byte, with_bytes}

less_one : (n i : ℕ) → i < n → n - i ≡ suc (n - (i + 1))
less_one n i below = omega arith

further : (p i : ℕ) → p + i + 1 ≡ p + (i + 1)
further p i = omega arith

-- a number of bytes by its low part and its high part
number_at-split : (m : Space) (p a b : ℕ) → number_at m p (a + b) ≡ number_at m p a + 256 ^ a * number_at m (p + a) b
unfolding bytes_at
number_at-split m p zero b =
    let same : 0 + b ≡ b = omega arith in
    let here : p + 0 ≡ p = omega arith in
    ap (number_at m p) same ∙ sym (ap (λ q. 0 + 256 ^ 0 * number_at m q b) here ∙ omega arith)
number_at-split m p (suc a) b =
    let longer : suc a + b ≡ suc (a + b) = omega arith in
    let there : p + 1 + a ≡ p + suc a = omega arith in
    let low = byte_of (get m p) in
    let rest : number_at m (p + 1) (a + b) ≡ number_at m (p + 1) a + 256 ^ a * number_at m (p + suc a) b =
    number_at-split m (p + 1) a b ∙ ap (λ q. number_at m (p + 1) a + 256 ^ a * number_at m q b) there in
    let power : 256 ^ suc a ≡ 256 * 256 ^ a = grind arith in
    ap (number_at m p) longer ∙ ap (λ n. low + 256 * n) rest ∙ regroup low (number_at m (p + 1) a) (256 ^ a) (number_at m (p + suc a) b) ∙ sym (ap (λ n. low + 256 * number_at m (p + 1) a + n * number_at m (p + suc a) b) power)
  where
    regroup : (l x y z : ℕ) → l + 256 * (x + y * z) ≡ l + 256 * x + 256 * y * z
    regroup l x y z = grind arith

pub number_at_2 : (m : Space) (p : ℕ) → number_at m p 2 ≡ number_at m p 1 + 256 * number_at m (p + 1) 1
number_at_2 m p = number_at-split m p 1 1

pub number_at_4 : (m : Space) (p : ℕ) → number_at m p 4 ≡ number_at m p 2 + 65536 * number_at m (p + 2) 2
number_at_4 m p = number_at-split m p 2 2

pub number_at_8 : (m : Space) (p : ℕ) → number_at m p 8 ≡ number_at m p 4 + 4294967296 * number_at m (p + 4) 4
number_at_8 m p = number_at-split m p 4 4

-- a test of each byte, one byte on
pub each_has-next : (right : Rights → Bool) (m : Space) (p n i : ℕ) → i < n → has_right right (get m (p + i)) ≡ true
    → each_has right m (p + i) (n - i) ≡ each_has right m (p + (i + 1)) (n - (i + 1))
unfolding each_has
each_has-next right m p n i below has =
    ap (each_has right m (p + i)) (less_one n i below)
    ∙ ap (λ b. b && each_has right m (p + i + 1) (n - (i + 1))) has
    ∙ ap (λ q. each_has right m q (n - (i + 1))) (further p i)

pub each_has-lacks : (right : Rights → Bool) (m : Space) (p n i : ℕ) → i < n → has_right right (get m (p + i)) ≡ false
    → each_has right m (p + i) (n - i) ≡ false
unfolding each_has
each_has-lacks right m p n i below lacks =
    ap (each_has right m (p + i)) (less_one n i below)
    ∙ ap (λ b. b && each_has right m (p + i + 1) (n - (i + 1))) lacks

pub each_has-done : (right : Rights → Bool) (m : Space) (p n i : ℕ) → n ≤ i → each_has right m (p + i) (n - i) ≡ true
unfolding each_has
each_has-done right m p n i done = let none : n - i ≡ 0 = omega arith in ap (each_has right m (p + i)) none

-- bytes that are read, one more
pub bytes_at-next : (m : Space) (p n i : ℕ) → i < n → bytes_at m (p + i) (n - i) ≡ byte_of (get m (p + i)) ∷ bytes_at m (p + (i + 1)) (n - (i + 1))
unfolding bytes_at
bytes_at-next m p n i below =
    ap (bytes_at m (p + i)) (less_one n i below) ∙ ap (λ q. byte_of (get m (p + i)) ∷ bytes_at m q (n - (i + 1))) (further p i)

pub bytes_at-done : (m : Space) (p n i : ℕ) → n ≤ i → bytes_at m (p + i) (n - i) ≡ []
unfolding bytes_at
bytes_at-done m p n i done = let none : n - i ≡ 0 = omega arith in ap (bytes_at m (p + i)) none

pub number_at_1 : (m : Space) (p : ℕ) → number_at m p 1 ≡ byte_of (get m p)
unfolding bytes_at
number_at_1 m p = omega arith

-- bytes of a number that are stored, one more
pub stored-next : (m : Space) (p n i v : ℕ) → i < n
    → with_bytes m (p + i) (low_bytes (n - i) v) ≡ with_bytes (with_byte m (p + i) (v % 256)) (p + (i + 1)) (low_bytes (n - (i + 1)) (v / 256))
unfolding with_bytes low_bytes
stored-next m p n i v below =
    ap (λ k. with_bytes m (p + i) (low_bytes k v)) (less_one n i below)
    ∙ ap (λ q. with_bytes (with_byte m (p + i) (v % 256)) q (low_bytes (n - (i + 1)) (v / 256))) (further p i)

pub stored-done : (m : Space) (p n i v : ℕ) → n ≤ i → with_bytes m (p + i) (low_bytes (n - i) v) ≡ m
unfolding with_bytes low_bytes
stored-done m p n i v done = let none : n - i ≡ 0 = omega arith in ap (λ k. with_bytes m (p + i) (low_bytes k v)) none
