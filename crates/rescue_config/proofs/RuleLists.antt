-- The first fault of a list of rules, part by part.
use Rattle.std.proofs.Common.{◌≡◌, ◌≢◌, ℕ, ◌<◌, ◌≤◌, ◌==◌, List, ◌++◌, true, false, not, length, get_or, refl, sym, ap, subst, ◌∙◌, arith, lit<}
use Rattle.std.specs.Prelude.{Option, Some, None, option_map, is_some, position}
use Rattle.std.specs.List.{position_or_len}
use Rattle.std.proofs.lemmas.Bool.Decides.{nat_tests}
use Rattle.std.proofs.lemmas.List.Sums.{prefix_len_passes}
use Rattle.guest_words.specs.declared.image.Span.{Span}
use Rattle.guest_words.specs.declared.point.Point.{Point}
use Rattle.guest_words.specs.Rules.{Rule, rule, first_broken}
use Rattle.guest_words.proofs.RuleLaws.{first_broken-append_none, first_broken-append_some, kept_parts, All-from_first_broken}
use Rattle.rescue_config.specs.declared.point_fault.PointFault.{PointFault}
use Rattle.rescue_config.specs.declared.point_fault.PointFault.TheVariants.{Missing}
use Rattle.rescue_config.specs.declared.points_fault.PointsFault.{PointsFault}
use Rattle.rescue_config.specs.declared.points_fault.PointsFault.TheVariants.{Points, Memory}
use Rattle.elf_symbols.specs.declared.symbol.Symbol.{Symbol}
use Rattle.toml.specs.Data.{Members}
use Rattle.rescue_config.specs.Document.{at_point, first_at_point}
use Rattle.rescue_config.specs.PointRules.{field_rules, mixed_rules, name_rules, entry_rules, point_rules, named, entry_in, entry_of, point_of}
use Rattle.rescue_config.specs.Fields.{function_of, kind_of}
use Rattle.guest_words.specs.declared.point.Kind.{Kind}
use Rattle.rescue_config.specs.declared.version.Version.{Version}
use Rattle.rescue_config.specs.declared.target.Target.{Target}
use Rattle.rescue_config.specs.ReadFields.{IsTarget, target_function, target_address}
use Rattle.rescue_config.specs.Tells.{IsCause}

-- no place is told exactly where no rule is broken
none_broken : (xs : List (Rule PointFault)) → first_at_point xs ≡ None → first_broken xs ≡ None
none_broken xs kept =
    elim (first_broken xs) as (λ b. first_broken xs ≡ b → option_map at_point b ≡ None → first_broken xs ≡ None) [
      | None ↦ λ is h. is
      | Some x ↦ λ is h. cc
    ] refl kept

pub kept_next : (xs ys : List (Rule PointFault)) → first_at_point xs ≡ None → first_at_point (xs ++ ys) ≡ first_at_point ys
kept_next xs ys kept = ap (option_map at_point) (first_broken-append_none xs ys (none_broken xs kept))

-- where one of the first rules is broken, the others don't matter
pub told_first : (xs ys : List (Rule PointFault)) (x : PointFault × Option ℕ) → first_at_point xs ≡ Some x → first_at_point (xs ++ ys) ≡ Some x
told_first xs ys x told =
    elim (first_broken xs) as (λ b. first_broken xs ≡ b → option_map at_point b ≡ Some x → first_at_point (xs ++ ys) ≡ Some x) [
      | None ↦ λ is h. cc
      | Some y ↦ λ is h. ap (option_map at_point) (first_broken-append_some xs ys y is) ∙ h
    ] refl told

pub cause_first : (fault : PointsFault) (xs ys : List (Rule PointFault)) → IsCause fault (first_at_point xs) → IsCause fault (first_at_point (xs ++ ys))
cause_first (Points fault place) xs ys is = told_first xs ys (fault, place) is
cause_first Memory xs ys is = tt

pub cause_next : (fault : PointsFault) (xs ys : List (Rule PointFault)) → first_at_point xs ≡ None → IsCause fault (first_at_point ys) → IsCause fault (first_at_point (xs ++ ys))
cause_next (Points fault place) xs ys kept is = kept_next xs ys kept ∙ is
cause_next Memory xs ys kept is = tt

-- the rules on a point: those on its fields, on its kind beside those of the points before it, on
-- the name of its function, and on its entry
pub fields_broken : (version : Version) (symbols : List Symbol) (text : List Span) (earlier : List Point) (point : Members) (fault : PointsFault)
    → IsCause fault (first_at_point (field_rules version (length earlier) point))
    → IsCause fault (first_at_point (point_rules version symbols text earlier point))
unfolding point_rules
fields_broken version symbols text earlier point fault is =
    let number = length earlier in
    cause_first fault (field_rules version number point) (mixed_rules number earlier (kind_of version point) ++ name_rules number (named symbols (function_of point)) ++ entry_rules number text earlier (entry_of symbols point)) is

-- the rules on the fields and on the kind are kept
pub record KeepsFirst (version : Version) (earlier : List Point) (point : Members) (kind : Kind) : Type 0 where
  pub fields : first_at_point (field_rules version (length earlier) point) ≡ None
  pub same : kind ≡ kind_of version point
  pub mixed : first_at_point (mixed_rules (length earlier) earlier kind) ≡ None

-- what is left of the rules on a point where those on its fields are kept
after_fields : (version : Version) (symbols : List Symbol) (text : List Span) (earlier : List Point) (point : Members) (kind : Kind)
    → kind ≡ kind_of version point
    → first_at_point (field_rules version (length earlier) point) ≡ None
    → first_at_point (point_rules version symbols text earlier point)
    ≡ first_at_point (mixed_rules (length earlier) earlier kind ++ (name_rules (length earlier) (named symbols (function_of point)) ++ entry_rules (length earlier) text earlier (entry_of symbols point)))
unfolding point_rules
after_fields version symbols text earlier point kind same fields =
    let number = length earlier in
    let rest = name_rules number (named symbols (function_of point)) ++ entry_rules number text earlier (entry_of symbols point) in
    kept_next (field_rules version number point) (mixed_rules number earlier (kind_of version point) ++ rest) fields
    ∙ ap (λ k. first_at_point (mixed_rules number earlier k ++ rest)) (sym same)

pub kind_broken : (version : Version) (symbols : List Symbol) (text : List Span) (earlier : List Point) (point : Members) (kind : Kind) (fault : PointsFault)
    → kind ≡ kind_of version point
    → first_at_point (field_rules version (length earlier) point) ≡ None
    → IsCause fault (first_at_point (mixed_rules (length earlier) earlier kind))
    → IsCause fault (first_at_point (point_rules version symbols text earlier point))
kind_broken version symbols text earlier point kind fault same fields is =
    let number = length earlier in
    let P : Option (PointFault × Option ℕ) → Type 0 = λ broken. IsCause fault broken in
    let rest = name_rules number (named symbols (function_of point)) ++ entry_rules number text earlier (entry_of symbols point) in
    subst P (sym (after_fields version symbols text earlier point kind same fields)) (cause_first fault (mixed_rules number earlier kind) rest is)

-- what is left where the rules on the kind are kept too
after_kind : (version : Version) (symbols : List Symbol) (text : List Span) (earlier : List Point) (point : Members) (kind : Kind)
    → KeepsFirst version earlier point kind
    → first_at_point (point_rules version symbols text earlier point)
    ≡ first_at_point (name_rules (length earlier) (named symbols (function_of point)) ++ entry_rules (length earlier) text earlier (entry_of symbols point))
after_kind version symbols text earlier point kind keeps =
    let number = length earlier in
    after_fields version symbols text earlier point kind keeps.same keeps.fields
    ∙ kept_next (mixed_rules number earlier kind) (name_rules number (named symbols (function_of point)) ++ entry_rules number text earlier (entry_of symbols point)) keeps.mixed

pub name_broken : (version : Version) (symbols : List Symbol) (text : List Span) (earlier : List Point) (point : Members) (kind : Kind) (function : Option (List ℕ)) (fault : PointsFault)
    → KeepsFirst version earlier point kind
    → function_of point ≡ function
    → IsCause fault (first_at_point (name_rules (length earlier) (named symbols function)))
    → IsCause fault (first_at_point (point_rules version symbols text earlier point))
name_broken version symbols text earlier point kind function fault keeps same is =
    let number = length earlier in
    let P : Option (List ℕ) → Type 0 = λ f. IsCause fault (first_at_point (name_rules number (named symbols f))) in
    let Q : Option (PointFault × Option ℕ) → Type 0 = λ broken. IsCause fault broken in
    let here = cause_first fault (name_rules number (named symbols (function_of point))) (entry_rules number text earlier (entry_of symbols point)) (subst P (sym same) is) in
    subst Q (sym (after_kind version symbols text earlier point kind keeps)) here

-- what is left where the rules on the name are kept too
pub entry_left : (version : Version) (symbols : List Symbol) (text : List Span) (earlier : List Point) (point : Members) (kind : Kind) (function : Option (List ℕ)) (entry : ℕ)
    → KeepsFirst version earlier point kind
    → function_of point ≡ function
    → entry ≡ entry_of symbols point
    → first_at_point (name_rules (length earlier) (named symbols function)) ≡ None
    → first_at_point (point_rules version symbols text earlier point) ≡ first_at_point (entry_rules (length earlier) text earlier entry)
entry_left version symbols text earlier point kind function entry keeps same is name =
    let number = length earlier in
    let P : Option (List ℕ) → Type 0 = λ f. first_at_point (name_rules number (named symbols f)) ≡ None in
    after_kind version symbols text earlier point kind keeps
    ∙ kept_next (name_rules number (named symbols (function_of point))) (entry_rules number text earlier (entry_of symbols point)) (subst P (sym same) name)
    ∙ ap (λ e. first_at_point (entry_rules number text earlier e)) (sym is)

-- the entry of a point from what was read of it
pub entry_is : (symbols : List Symbol) (point : Members) (target : Target) → IsTarget point target → entry_in (named symbols (target_function target)) (target_address target) ≡ entry_of symbols point
entry_is symbols point target is = λ i. entry_in (named symbols (sym is.function i)) (sym is.address i)

-- no element passes where there is no first place
none_at : (entry : ℕ) (points : List Point) → is_some (position (λ p. p.entry == entry) points) ≡ false → (k : ℕ) (d : Point) → k < length points → (get_or points k d).entry ≢ entry
none_at entry points none k d below =
    let end : length points ≤ position_or_len (λ p. p.entry == entry) points = grind (arith, nat_tests, none) in
    let other = prefix_len_passes (λ p. not (p.entry == entry)) points k d (omega (arith, below, end)) in
    grind (arith, nat_tests, other)

-- a point that keeps the rules has another entry than each earlier one
pub another_entry : (version : Version) (symbols : List Symbol) (text : List Span) (earlier : List Point) (point : Members)
    → first_at_point (point_rules version symbols text earlier point) ≡ None
    → (k : ℕ) (d : Point) → k < length earlier → (get_or earlier k d).entry ≢ (point_of version symbols point).entry
unfolding point_rules
another_entry version symbols text earlier point kept =
    let number = length earlier in
    let first = field_rules version number point ++ mixed_rules number earlier (kind_of version point) in
    let name = name_rules number (named symbols (function_of point)) in
    let entry = entry_rules number text earlier (entry_of symbols point) in
    let rest = kept_parts first (name ++ entry) (none_broken (first ++ (name ++ entry)) kept) in
    let last = kept_parts name entry rest.1 in
    let third = All-from_first_broken entry last.1 2 (rule true Missing 0) (lit< tt) in
    none_at (entry_of symbols point) earlier third
