use Rattle.std.proofs.Common.{[], ◌∷◌, ◌++◌, Some, subst, sym, ◌∙◌, ap, arith, replicate}
use Rattle.guest_words.specs.declared.point.Point.{Point}
use Rattle.guest_words.specs.declared.point.Ret.TheVariants.{Code}
use Rattle.guest_words.specs.declared.point.Kind.TheVariants.{Blocking}
use Rattle.guest_words.specs.Points.{IsPointList}
use Rattle.guest_words.proofs.PointLists.{IsPointList-none, IsPointList-append}
use Rattle.rescue_report.proofs.tests.one_point.Goals as goal

abbrev point : Point
point = record { entry = 0x10018; codes = replicate 8 (Code 0xfffffffffffffffe); kind = Blocking; left = Some 0 }

pub of-requires : goal.of-requires
of-requires c =
    let items = c.in_ok-push.ensures.items ∙ ap (λ xs. xs ++ point ∷ []) c.new-items.ensures.items in
    record {
      points = subst IsPointList (sym items)
          (IsPointList-append [] point IsPointList-none (omega arith) (λ k d below. absurd (omega (arith, below))));
    }
