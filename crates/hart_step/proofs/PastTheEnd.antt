-- Bytes behind the last address read as 0.
use Rattle.std.proofs.Common.{◌≡◌, ℕ, zero, suc, ◌+◌, ◌-◌, ◌^◌, ◌≤◌, ◌∷◌, ◌++◌, replicate, None, ap, sym, ◌∙◌, refl, arith}
use Rattle.std.specs.FinMap.{get}
use Rattle.guest_words.specs.Space.{Space, byte_of, bytes_at}
use Rattle.guest_pages.specs.Stretch.{HasNoPageFrom}
use Rattle.guest_pages.proofs.Copying.{bytes_at-append}

zeros_past : (m : Space) (a k : ℕ) → ((q : ℕ) → a ≤ q → get m q ≡ None) → bytes_at m a k ≡ replicate k 0
unfolding bytes_at
zeros_past m a zero none = refl
zeros_past m a (suc k) none =
    let rest : bytes_at m (a + 1) k ≡ replicate k 0 = zeros_past m (a + 1) k (λ q low. none q (omega (arith, low))) in
    ap (λ c. byte_of c ∷ bytes_at m (a + 1) k) (none a (omega arith)) ∙ ap (λ xs. 0 ∷ xs) rest

pub bytes_past : (m : Space) (place there count : ℕ) → HasNoPageFrom m (2 ^ 64 - 1) → place + there ≡ 2 ^ 64 → there ≤ count
    → bytes_at m place there ++ replicate (count - there) 0 ≡ bytes_at m place count
bytes_past m place there count none ends few =
    let whole : there + (count - there) ≡ count = omega (arith, few) in
    let past : (q : ℕ) → place + there ≤ q → get m q ≡ None = λ q low. none q (omega (arith, low, ends)) in
    ap (λ xs. bytes_at m place there ++ xs) (sym (zeros_past m (place + there) (count - there) past))
    ∙ sym (bytes_at-append m place there (count - there)) ∙ ap (bytes_at m place) whole
