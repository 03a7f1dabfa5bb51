use Rattle.std.proofs.Common.{◌≢◌, ℕ, ◌<◌, [], ◌∷◌, ◌++◌, subst, sym, ◌∙◌, ap, arith, length, get_or, zero, suc, replicate, Some, None}
use Rattle.guest_words.specs.declared.point.Point.{Point}
use Rattle.guest_words.specs.declared.point.Ret.TheVariants.{Code}
use Rattle.guest_words.specs.declared.point.Kind.TheVariants.{Off, Blocking}
use Rattle.guest_words.specs.Points.{IsPointList}
use Rattle.guest_words.proofs.PointLists.{IsPointList-none, IsPointList-append}
use Rattle.guest_words.proofs.tests.two_points.Goals as goal

two : (p q : Point) → p.entry ≢ q.entry → IsPointList (p ∷ q ∷ [])
two p q other =
    IsPointList-append (p ∷ []) q
    (IsPointList-append [] p IsPointList-none (omega arith) (λ k d below. absurd (omega (arith, below))))
    (omega arith) only
  where
    only : (k : ℕ) (d : Point) → k < length (p ∷ []) → (get_or (p ∷ []) k d).entry ≢ q.entry
    only zero d below = other
    only (suc k) d below = absurd (omega (arith, below))

apart : ◌≢◌ {A = ℕ} 65536 65552
apart same = omega (arith, same)

abbrev off : Point
off = record { entry = 65536; codes = replicate 8 (Code 7); kind = Off; left = None }

abbrev on : Point
on = record { entry = 65552; codes = replicate 8 (Code 7); kind = Blocking; left = Some 1 }

pub of-requires : goal.of-requires
of-requires c =
    let first = c.in_ok-push.ensures.items ∙ ap (λ xs. xs ++ off ∷ []) c.new-items.ensures.items in
    let both = c.in_ok-push-2.ensures.items ∙ ap (λ xs. xs ++ on ∷ []) first in
    record { points = subst IsPointList (sym both) (two off on apart) }
