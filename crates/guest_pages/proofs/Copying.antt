-- Buffers that are alike, and bytes read stretch by stretch.
use Rattle.std.proofs.Common.{◌≡◌, ℕ, zero, suc, ◌+◌, ◌%◌, List, [], ◌∷◌, ◌++◌, length, refl, ap, ◌∙◌, arith}
use Rattle.std.specs.FinMap as map
use Rattle.guest_words.specs.Cells.{run_of}
use Rattle.guest_words.specs.Space.{Space, byte_of, bytes_at}
use Rattle.guest_pages.specs.declared.page_buffer.PageBuffer.{PageBuffer}
use Rattle.guest_pages.specs.Buffers.{listed, cells_of, AreSorted, IsAlike, AreAlike}

listed-alike : (old new : List PageBuffer) → AreAlike old new → listed new ≡ listed old
listed-alike [] [] alike = refl
listed-alike [] (y ∷ new) alike = let long = alike.long in absurd (omega (arith, long))
listed-alike (x ∷ old) [] alike = let long = alike.long in absurd (omega (arith, long))
listed-alike (x ∷ old) (y ∷ new) alike =
    let first : IsAlike x y = alike.each 0 x (omega arith) in
    let rest = listed-alike old new (record {
      long = let long = alike.long in omega (arith, long);
      each = λ k d below. alike.each (suc k) d (omega (arith, below));
    }) in
    λ i. run_of (first.from i) (first.rights i) (first.bytes i) ++ rest i

pub cells_of-alike : (old new : List PageBuffer) → AreAlike old new → cells_of new ≡ cells_of old
unfolding cells_of
cells_of-alike old new alike = ap (λ xs. map.from_entries xs) (listed-alike old new alike)

pub sorted-alike : (old new : List PageBuffer) → AreAlike old new → AreSorted old → AreSorted new
sorted-alike old new alike sorted =
    let long = alike.long in
    record {
      each = λ k d below.
          let here = alike.each k d (omega (arith, long, below)) in
          let page = sorted.each k d (omega (arith, long, below)) in
          let a = page.aligned in
          let w = page.whole in
          let b = page.below in
          let f = here.from in
          let n = ap length here.bytes in
          record { aligned = ap (λ q. q % 4096) f ∙ a; whole = n ∙ w; below = omega (arith, b, f, n) };
      apart = λ k j d less below.
          let x = alike.each k d (omega (arith, long, less, below)) in
          let y = alike.each j d (omega (arith, long, below)) in
          let apart = sorted.apart k j d less (omega (arith, long, below)) in
          let xf = x.from in
          let xn = ap length x.bytes in
          let yf = y.from in
          omega (arith, apart, xf, xn, yf);
    }

-- bytes before others
pub bytes_at-append : (m : Space) (a n k : ℕ) → bytes_at m a (n + k) ≡ bytes_at m a n ++ bytes_at m (a + n) k
unfolding bytes_at
bytes_at-append m a zero k =
    let none : 0 + k ≡ k = omega arith in
    let here : a ≡ a + 0 = omega arith in
    ap (bytes_at m a) none ∙ ap (λ q. bytes_at m q k) here
bytes_at-append m a (suc n) k =
    let longer : suc n + k ≡ suc (n + k) = omega arith in
    let there : a + 1 + n ≡ a + suc n = omega arith in
    ap (bytes_at m a) longer
    ∙ ap (λ bs. byte_of (map.get m a) ∷ bs) (bytes_at-append m (a + 1) n k ∙ ap (λ q. bytes_at m (a + 1) n ++ bytes_at m q k) there)

-- one byte of a list of one
pub bytes_at-one : (m : Space) (a : ℕ) → bytes_at m a 1 ≡ byte_of (map.get m a) ∷ []
unfolding bytes_at
bytes_at-one m a = refl

pub bytes_at-none : (m : Space) (a : ℕ) → bytes_at m a 0 ≡ []
unfolding bytes_at
bytes_at-none m a = refl
