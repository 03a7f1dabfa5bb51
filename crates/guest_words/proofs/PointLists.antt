-- A list of points that grows by one at another entry, and one of which a point has a rescue less.
use Rattle.std.proofs.Common.{◌≡◌, ◌≢◌, ℕ, ◌<◌, ◌≤◌, ◌==◌, Bool, true, false, List, [], ◌∷◌, ◌++◌, map, length, get_or, find, Option, Some, None, refl, sym, ap, ◌∙◌, subst, arith, length-append, if◌then◌else◌}
use Rattle.std.proofs.lemmas.List.Quantifiers.{all_pairs_push}
use Rattle.guest_words.specs.declared.point.Point.{Point}
use Rattle.std.proofs.lemmas.List.{length-map, get_or-map}
use Rattle.guest_words.specs.Points.{IsPointList, spent, spent_at, spent_once}

pub IsPointList-none : IsPointList []
IsPointList-none = record { count = omega arith; distinct = λ i j d less below. absurd (omega (arith, less, below)) }

pub IsPointList-append : (points : List Point) (point : Point) → IsPointList points → length points < 256
    → ((k : ℕ) (d : Point) → k < length points → (get_or points k d).entry ≢ point.entry) → IsPointList (points ++ point ∷ [])
IsPointList-append points point list room other =
    record {
      count = (let l = length-append points (point ∷ []) in omega (arith, l, room));
      distinct = all_pairs_push (λ p q. p.entry ≢ q.entry) points point list.distinct other;
    }

entry-spent_at : (entry : ℕ) (p : Point) → (spent_at entry p).entry ≡ p.entry
entry-spent_at entry p = elim (p.entry == entry) as (λ b. (if b then spent_once p else p).entry ≡ p.entry) [ true ↦ refl | false ↦ refl ]

pub IsPointList-spent : (points : List Point) (entry : ℕ) → IsPointList points → IsPointList (spent points entry)
IsPointList-spent points entry list =
    let long = length-map points (spent_at entry) in
    let at : (i : ℕ) (d : Point) → i < length points → (get_or (map (spent_at entry) points) i d).entry ≡ (get_or points i d).entry =
    λ i d below. ap (λ p. p.entry) (get_or-map (spent_at entry) points i d d below) ∙ entry-spent_at entry (get_or points i d) in
    record {
      count = (let few = list.count in omega (arith, long, few));
      distinct = λ i j d less below.
          let inside : j < length points = omega (arith, long, below) in
          λ same. list.distinct i j d less inside (sym (at i d (omega (arith, less, inside))) ∙ same ∙ at j d inside);
    }
