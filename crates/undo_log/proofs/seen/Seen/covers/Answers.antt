use Rattle.std.proofs.Common.{◌≡◌, ◌∷◌, Bool, true, false, not, cond, ◌||◌, refl, sym, ap, ◌∙◌, nat_eq, ◌&&◌}
use Rattle.std.specs.HashSet.{contains_by}
use Rattle.undo_log.specs.Thin.{is_covered, is_noted}
use Rattle.undo_log.proofs.seen.Seen.covers.Goals as goal

not-not : (b : Bool) → not (not b) ≡ b
not-not true = refl
not-not false = refl

either : (b c : Bool) → cond b true c ≡ (b || c)
either true c = refl
either false c = refl

pub returns-in_ok-is_new-in-Bytes : goal.returns-in_ok-is_new-in-Bytes
returns-in_ok-is_new-in-Bytes c =
    let put = c.in_ok-is_new-in-Bytes.ensures in
    let at = c.in-Bytes.address in
    let size_is = c.bytes.ensures.value in
    record {
      value = λ before knows. (
        ap not put.added ∙ not-not _ ∙ knows at c.bytes.result ∙ ap (is_noted before at) size_is ∙ sym (ap (is_covered before) c.in-Bytes.is),
        λ address size.
            put.updates.0 (record { address = address; size = size })
            ∙ either (nat_eq at address && nat_eq c.bytes.result size) (contains_by (λ place. nat_eq address place.address && nat_eq size place.size) c.args.self.now.places)
            ∙ (λ i. (nat_eq at address && nat_eq (size_is i) size) || knows address size i)
            ∙ sym (ap (λ note. is_noted (note ∷ before) address size) c.in-Bytes.is),
      );
    }
