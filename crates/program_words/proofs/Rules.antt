-- Arguments and commands, by the rules that a parse reads of them.
use Rattle.std.proofs.Common.{◌≡◌, ◌<◌, ◌&&◌, ℕ, zero, suc, Bool, true, false, not, List, [], ◌∷◌, length, map, is_some, Option, Some, None, ap, refl, arith}
use Rattle.std.specs.List.{All, slice_index_or, list_all}
use Rattle.std.specs.Str.{bytes_eq}
use Rattle.std.proofs.lemmas.Bool.{and_parts, both_ways, eqb-true, not-true}
use Rattle.std.proofs.lemmas.List.Elements.{All-nil}
use Rattle.clap.specs.Facts.{args_of, groups_of}
use Rattle.clap.specs.Built.{IsPlain, IsPlainArg}
use Rattle.clap.specs.Walk.{Rule, Text, is_empty, is_free_arg, is_simple_arg, rule_of}
use Rattle.clap.specs.Simple.{Shape, shape_of, has_plain_fields}
use Rattle.clap.specs.declared.builder.arg.Arg.{Arg}
use Rattle.clap.specs.declared.builder.command.Command.{Command}
use Rattle.clap.specs.declared.builder.command.Command.TheViews.{out-Command}

-- the argument at a place has the rule there
pub rule_at : (xs : List Arg) (k : ℕ) (d : Arg) (r : Rule) → k < length xs → rule_of (slice_index_or xs k d) ≡ slice_index_or (map rule_of xs) k r
rule_at [] k d r lt = absurd (omega arith)
rule_at (x ∷ xs) zero d r lt = refl
rule_at (x ∷ xs) (suc k) d r lt = rule_at xs k d r (omega arith)

pub nil_of : {X : Type 0} (xs : List X) → is_empty xs ≡ true → xs ≡ []
nil_of [] e = refl
nil_of (x ∷ xs) e = absurd (omega (arith, eqb-true (length (x ∷ xs)) 0 e))

pub none_of : {X : Type 0} (o : Option X) → not (is_some o) ≡ true → o ≡ None
none_of None e = refl
none_of (Some x) e = absurd (both_ways true (not-true true e) refl)

-- of all rules only the one at this place has the id
abbrev pub is_only : ℕ → Text → List Rule → Bool
is_only k id [] = true
is_only zero id (r ∷ rs) = list_all (λ s. not (bytes_eq s.id id)) rs
is_only (suc k) id (r ∷ rs) = not (bytes_eq r.id id) && is_only k id rs

nowhere : (xs : List Arg) (id : Text) → list_all (λ s. not (bytes_eq s.id id)) (map rule_of xs) ≡ true → (j : ℕ) (e : Arg) → j < length xs
    → bytes_eq (slice_index_or xs j e).id.now id ≡ true → ⊥
nowhere [] id none j e lt same = absurd (omega arith)
nowhere (x ∷ xs) id none zero e lt same =
    let other = (and_parts (not (bytes_eq x.id.now id)) (list_all (λ s. not (bytes_eq s.id id)) (map rule_of xs)) none).0 in
    both_ways _ (not-true (bytes_eq x.id.now id) other) same
nowhere (x ∷ xs) id none (suc j) e lt same =
    nowhere xs id (and_parts (not (bytes_eq x.id.now id)) (list_all (λ s. not (bytes_eq s.id id)) (map rule_of xs)) none).1 j e (omega arith) same

pub only_at : (xs : List Arg) (k : ℕ) (id : Text) → is_only k id (map rule_of xs) ≡ true → (j : ℕ) (e : Arg) → j < length xs
    → bytes_eq (slice_index_or xs j e).id.now id ≡ true → j ≡ k
only_at [] k id only j e lt same = absurd (omega arith)
only_at (x ∷ xs) zero id only zero e lt same = refl
only_at (x ∷ xs) zero id only (suc j) e lt same = absurd (nowhere xs id only j e (omega arith) same)
only_at (x ∷ xs) (suc k) id only zero e lt same =
    let other = (and_parts (not (bytes_eq x.id.now id)) (is_only k id (map rule_of xs)) only).0 in
    absurd (both_ways _ (not-true (bytes_eq x.id.now id) other) same)
only_at (x ∷ xs) (suc k) id only (suc j) e lt same =
    ap suc (only_at xs k id (and_parts (not (bytes_eq x.id.now id)) (is_only k id (map rule_of xs)) only).1 j e (omega arith) same)

pub plain_arg : (a : Arg) → is_simple_arg a ≡ true → is_free_arg a ≡ true → IsPlainArg a
plain_arg a simple free =
    let overrides : is_empty a.overrides.items ≡ true = grind arith in
    let groups : is_empty a.groups.items ≡ true = grind arith in
    let conflicts : is_empty a.conflicts.items ≡ true = grind arith in
    let exclusive : not a.exclusive ≡ true = grind arith in (
      not-true a.exclusive exclusive,
      nil_of a.conflicts.items conflicts,
      nil_of a.overrides.items overrides,
      nil_of a.groups.items groups,
    )

-- an argument excludes nothing
abbrev pub is_tame_rule : Rule → Bool
is_tame_rule r = r.is_simple && r.is_free

more_plain : (x : Arg) (xs : List Arg) → IsPlainArg x → All IsPlainArg xs → (k : ℕ) (d : Arg) → k < length (x ∷ xs) → IsPlainArg (slice_index_or (x ∷ xs) k d)
more_plain x xs head rest zero d lt = head
more_plain x xs head rest (suc k) d lt = rest k d (omega arith)

pub plain_args : (xs : List Arg) → list_all is_tame_rule (map rule_of xs) ≡ true → All IsPlainArg xs
plain_args [] tame = All-nil IsPlainArg
plain_args (x ∷ xs) tame =
    let parts = and_parts (is_tame_rule (rule_of x)) (list_all is_tame_rule (map rule_of xs)) tame in
    let head = and_parts (is_simple_arg x) (is_free_arg x) parts.0 in
    more_plain x xs (plain_arg x head.0 head.1) (plain_args xs parts.1)

-- a command excludes nothing
abbrev pub is_tame : Shape → Bool
is_tame s = s.is_plain && (not s.subcommand_negates_reqs && list_all is_tame_rule s.rules)

-- a command of such a shape
pub record IsTame (c : Command) : Type 0 where
  pub plain : IsPlain c
  pub globals : (out-Command c).has_globals ≡ false
  pub negates : (out-Command c).subcommand_negates_reqs ≡ false

pub tame_of : (c : Command) → is_tame (shape_of c) ≡ true → IsTame c
tame_of c tame =
    let rest = not (out-Command c).subcommand_negates_reqs && list_all is_tame_rule (map rule_of (args_of c)) in
    let t = and_parts (has_plain_fields (out-Command c)) rest tame in
    let t1 = and_parts (not (out-Command c).subcommand_negates_reqs) (list_all is_tame_rule (map rule_of (args_of c))) t.1 in
    let fields : has_plain_fields (out-Command c) ≡ true = t.0 in
    let groups : is_empty (groups_of c) ≡ true = grind arith in
    let globals : not (out-Command c).has_globals ≡ true = grind arith in
    record {
      plain = (plain_args (args_of c) t1.1, nil_of (groups_of c) groups);
      globals = not-true (out-Command c).has_globals globals;
      negates = not-true (out-Command c).subcommand_negates_reqs t1.0;
    }
