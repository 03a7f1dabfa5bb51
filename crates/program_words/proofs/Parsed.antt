-- What a parse that succeeds gives: required texts, and numbers in their ranges.
use Rattle.std.proofs.Common.{◌≡◌, ◌∙◌, ◌<◌, ◌≤◌, ◌&&◌, ℕ, ℤ, negsuc, Bool, true, not, List, [], ◌∷◌, length, map, is_some, Option, Some, None, ap, sym, subst, refl, inl, inr, arith, codes}
use Rattle.std.specs.List.{All, slice_index_or}
use Rattle.std.specs.Prelude.{IfSome, option_map, slice_get}
use Rattle.std.specs.Str.{bytes_eq}
use Rattle.std.specs.Borrow.{Bor}
use Rattle.std.proofs.lemmas.Bool.{and_parts, both_ways, not-true}
use Rattle.std.proofs.lemmas.Slice.Eq.{bytes_eq-Decides}
use Rattle.clap.specs.Facts.{args_of, groups_of, Entry, EntryPasses, least_values, parser_of, parser_of_value, unwrap_or_range}
use Rattle.clap.specs.Built.{IsAuto, IsParsedFrom}
use Rattle.clap.specs.Matches.{first_value, found_of, matched_of, one_text}
use Rattle.clap.specs.Values.{Accepts, IsUnsignedIn, read_as, reading_of}
use Rattle.clap.specs.Walk.{Rule, Text, is_simple_arg, first_of, is_empty, one_of, rows_of, rule_of}
use Rattle.clap.specs.Simple.{Shape, shape_of}
use Rattle.clap.specs.declared.builder.action.ArgAction.TheVariants.{Set}
use Rattle.clap.specs.declared.builder.arg.Arg.{Arg}
use Rattle.clap.specs.declared.builder.command.Command.{Command}
use Rattle.clap.specs.declared.builder.value_parser.Reading.{Reading}
use Rattle.clap.specs.declared.builder.value_parser.Reading.TheVariants.{AsWritten}
use Rattle.clap.specs.declared.builder.value_parser.ValueParser.{ValueParser}
use Rattle.clap.specs.declared.builder.value_parser.ValueParser.TheVariants.{Signed, Unsigned}
use Rattle.clap.specs.declared.parser.matches.ArgMatches.{ArgMatches}
use Rattle.clap.specs.declared.parser.matches.MatchedArg.{MatchedArg}
use Rattle.clap.proofs.CallerLemmas.{entry_by_id, required_has_value, same_rules_by_id}
use Rattle.clap.proofs.WalkLemmas.{first_value-rows, one_text-rows}
use Rattle.std.proofs.lemmas.List.{length-map}
use Rattle.program_words.specs.Fits.{HasNumberIn, HasText, IsSignedNumber}
use Rattle.program_words.proofs.Rules.{IsTame, is_only, is_tame, none_of, only_at, rule_at, tame_of}

-- an id of the caller's own
abbrev pub is_own : Text → Bool
is_own id =
    not (is_empty id) && (not (bytes_eq id (codes "help")) && not (bytes_eq id (codes "version")))

differs : (id other : Text) → not (bytes_eq id other) ≡ true → bytes_eq other other ≡ true → id ≡ other → ⊥
differs id other apart same e =
    let is : bytes_eq id other ≡ true = rw e same in
    both_ways _ (not-true (bytes_eq id other) apart) is

own_id : (id : Text) → is_own id ≡ true → (id ≡ [] → ⊥) × (id ≡ codes "help" → ⊥) × (id ≡ codes "version" → ⊥)
own_id id own =
    let a = and_parts (not (is_empty id)) (not (bytes_eq id (codes "help")) && not (bytes_eq id (codes "version"))) own in
    let b = and_parts (not (bytes_eq id (codes "help"))) (not (bytes_eq id (codes "version"))) a.1 in (
      (λ e. let is : is_empty id ≡ true = rw e refl in both_ways _ (not-true (is_empty id) a.0) is),
      differs id (codes "help") b.0 refl,
      differs id (codes "version") b.1 refl,
    )

-- the argument of a rule, which stands alone under its id
pub record IsArgAt (c : Command) (k : ℕ) (d : Arg) (r : Rule) : Type 0 where
  pub below : k < length (args_of c)
  pub rule : rule_of (slice_index_or (args_of c) k d) ≡ r
  pub only : is_only k r.id (map rule_of (args_of c)) ≡ true
  pub own : is_own r.id ≡ true

unique : (c : Command) (k : ℕ) (d : Arg) (r : Rule) → IsArgAt c k d r → (j : ℕ) (e : Arg) → j < length (args_of c)
    → bytes_eq (slice_index_or (args_of c) j e).id.now (slice_index_or (args_of c) k d).id.now ≡ true → j ≡ k
unique c k d r h j e low same =
    let id : (slice_index_or (args_of c) k d).id.now ≡ r.id = ap (λ (x : Rule). x.id) h.rule in
    only_at (args_of c) k r.id h.only j e low (subst (λ w. bytes_eq (slice_index_or (args_of c) j e).id.now w ≡ true) id same)

not_auto : (c : Command) (k : ℕ) (d : Arg) (r : Rule) → IsArgAt c k d r → IsAuto (slice_index_or (args_of c) k d) → ⊥
not_auto c k d r h auto =
    let id : (slice_index_or (args_of c) k d).id.now ≡ r.id = ap (λ (x : Rule). x.id) h.rule in
    let own = own_id r.id h.own in
    elim auto [ inl e ↦ own.1 (sym id ∙ e) | inr e ↦ own.2 (sym id ∙ e) ]

-- a positional that has to stand has a text
pub required_text : (c : Command) (m : ArgMatches) → IsParsedFrom c m → IsTame c → (k : ℕ) (d : Arg) (r : Rule) → IsArgAt c k d r
    → r.required ≡ true → r.action ≡ Some Set → r.range ≡ None → r.is_simple ≡ true → is_some (first_of r.id (rows_of (found_of m))) ≡ true
required_text c m p tame k d r h required set range simple =
    let a = slice_index_or (args_of c) k d in
    let id : a.id.now ≡ r.id = ap (λ (x : Rule). x.id) h.rule in
    let is_simple : is_simple_arg a ≡ true = ap (λ (x : Rule). x.is_simple) h.rule ∙ simple in
    let delimiter : not (is_some a.val_delim) ≡ true = grind arith in
    let one : a.num_vals ≡ None = ap (λ (x : Rule). x.range) h.rule ∙ range in
    let least : 1 ≤ least_values a = subst (λ o. 1 ≤ (unwrap_or_range o).start_inclusive) (sym one) (omega arith) in
    let found = required_has_value c m p tame.plain tame.globals tame.negates k d h.below (ap (λ (x : Rule). x.required) h.rule ∙ required)
    (ap (λ (x : Rule). x.action) h.rule ∙ set) (none_of a.val_delim delimiter) least (unique c k d r h)
    (λ e. (own_id r.id h.own).0 (sym id ∙ e)) (not_auto c k d r h) in
    ap is_some (sym (first_value-rows (found_of m) r.id)) ∙ subst (λ w. is_some (first_value (found_of m) w) ≡ true) id found

-- ---- numbers

-- the first value as it is read, where it is read as it was written
first_read : (vs : List (Bor Text)) (how : Reading) (t : Text) → how ≡ AsWritten → option_map (λ s. read_as how s.now) (slice_get vs 0) ≡ Some t
    → (P : Text → Type 0) → All (λ v. P v.now) vs → P t
first_read [] how t is read P all = cc
first_read (v ∷ vs) how t is read P all =
    let same : v.now ≡ t = cc in
    let head : P v.now = all 0 v (omega arith) in
    subst P same head

-- of the built command, what has the argument's id has its parser
parser_is : (c : Command) (m : ArgMatches) (p : IsParsedFrom c m) (k : ℕ) (d : Arg) (r : Rule) → IsArgAt c k d r → (q : ValueParser) → r.parser ≡ Some q
    → (w : Text) → w ≡ r.id → (j : ℕ) (x : Arg) → j < length (args_of p.built) → slice_index_or (args_of p.built) j x ≡ x → bytes_eq x.id.now w ≡ true
    → parser_of x ≡ q
parser_is c m p k d r h q parser w key j x low at same =
    let id : (slice_index_or (args_of c) k d).id.now ≡ r.id = ap (λ (x : Rule). x.id) h.rule in
    let same_id = subst (λ w. bytes_eq x.id.now w ≡ true) (key ∙ sym id) same in
    let rules = same_rules_by_id c m p k d h.below (unique c k d r h) (not_auto c k d r h) j x low at same_id in
    ap parser_of_value (rules.parser q (ap (λ (x : Rule). x.parser) h.rule ∙ parser))

-- a parser whose values are read as they were written, and what they are then
pub record ReadsAs (q : ValueParser) (P : Text → Type 0) : Type 0 where
  pub as_written : reading_of q ≡ AsWritten
  pub accepts : (ignore_case : Bool) (t : Text) → Accepts ignore_case q t → P t

-- the values of the entry of an argument pass its parser, and are read as they were written
entry_passes : (c : Command) (m : ArgMatches) (p : IsParsedFrom c m) → IsTame c → (k : ℕ) (d : Arg) (r : Rule) → IsArgAt c k d r
    → (q : ValueParser) (P : Text → Type 0) → ReadsAs q P → r.parser ≡ Some q → (e : Entry) → e.0.now ≡ r.id → EntryPasses p.built e
    → (e.1.reading ≡ AsWritten) × All (λ v. P v.now) e.1.vals.items
entry_passes c m p tame k d r h q P reads parser e key passes =
    let groups : groups_of p.built ≡ [] = (p.from.plain tame.plain).1 in
    let no_group : e.1.is_group ≡ true → ⊥ = λ g. elim (passes.3 g) [
      | inl empty ↦ (own_id r.id h.own).0 (sym key ∙ empty)
      | inr lots ↦
          let bad : 0 < 0 = rw groups at lots in
          absurd (omega arith)
    ] in
    let reading : e.1.reading ≡ AsWritten = elim passes.4 [
      | inl g ↦ absurd (no_group g)
      | inr any ↦ sym any.4.1 ∙ (ap reading_of (parser_is c m p k d r h q parser e.0.now key any.0 any.1 any.2 any.3 any.4.0) ∙ reads.as_written)
    ] in
    let values : All (λ v. P v.now) e.1.vals.items = elim passes.0 [
      | inl g ↦ absurd (no_group g)
      | inr all ↦ λ i v lt.
          let any = all i v lt in
          let is = parser_is c m p k d r h q parser e.0.now key any.0 any.1 any.2 any.3 any.4.0 in
          reads.accepts any.1.ignore_case (slice_index_or e.1.vals.items i v).now
          (subst (λ (x : ValueParser). Accepts any.1.ignore_case x (slice_index_or e.1.vals.items i v).now) is any.4.1)
    ] in
    (reading, values)

accepted_at : (c : Command) (m : ArgMatches) (p : IsParsedFrom c m) → IsTame c → (k : ℕ) (d : Arg) (r : Rule) → IsArgAt c k d r
    → (q : ValueParser) (P : Text → Type 0) → ReadsAs q P → r.parser ≡ Some q → (t : Text) → one_text (found_of m) r.id ≡ Some t → P t
accepted_at c m p tame k d r h q P reads parser t is = go (matched_of (found_of m) r.id) refl
  where
    go : (o : Option MatchedArg) → matched_of (found_of m) r.id ≡ o → P t
    go None e =
        let none : one_text (found_of m) r.id ≡ None = rw e refl in
        cc
    go (Some x) e =
        let parsed = p.parsed (p.from.globals ∙ tame.globals) in
        let got = entry_by_id (EntryPasses p.built) (found_of m).entries.items r.id x parsed.values e in
        let key : got.0.0.now ≡ r.id = (bytes_eq-Decides got.0.0.now r.id).0 got.2 in
        let passes = subst (λ (y : MatchedArg). (y.reading ≡ AsWritten) × All (λ v. P v.now) y.vals.items) got.1
        (entry_passes c m p tame k d r h q P reads parser got.0 key got.3) in
        let read : option_map (λ s. read_as x.reading s.now) (slice_get x.vals.items 0) ≡ Some t = rw e at is in
        first_read x.vals.items x.reading t passes.0 read P passes.1

-- a number that is given is in its range
pub accepted : (c : Command) (m : ArgMatches) (p : IsParsedFrom c m) → IsTame c → (k : ℕ) (d : Arg) (r : Rule) → IsArgAt c k d r
    → (q : ValueParser) (P : Text → Type 0) → ReadsAs q P → r.parser ≡ Some q → IfSome (one_of r.id (rows_of (found_of m))) P
accepted c m p tame k d r h q P reads parser =
    subst (λ o. IfSome o P) (one_text-rows (found_of m) r.id) (go (one_text (found_of m) r.id) refl)
  where
    go : (o : Option Text) → one_text (found_of m) r.id ≡ o → IfSome o P
    go None e = tt
    go (Some t) e = accepted_at c m p tame k d r h q P reads parser t e

-- numbers of `u64` in a range
unsigned : (low high : ℕ) → ReadsAs (Unsigned low high) (IsUnsignedIn low high)
unsigned low high = record { as_written = refl; accepts = λ i t a. a }

-- numbers of `i64`
signed : (low : ℕ) (high : ℤ) → ReadsAs (Signed (negsuc low) high) IsSignedNumber
signed low high = record { as_written = refl; accepts = λ i t a. (a.0, a.1) }

-- ---- from the rules of a command

some_arg : (xs : List Arg) (n : ℕ) → n < length xs → Arg
some_arg [] n lt = absurd (omega arith)
some_arg (x ∷ xs) n lt = x

module _ (c : Command) (m : ArgMatches) (p : IsParsedFrom c m) (s : Shape) (shape : shape_of c ≡ s) (tame : is_tame s ≡ true) where
  calm : IsTame c
  calm = tame_of c (subst (λ (x : Shape). is_tame x ≡ true) (sym shape) tame)

  is : map rule_of (args_of c) ≡ s.rules
  is = ap (λ (x : Shape). x.rules) shape

  below : (k : ℕ) → k < length s.rules → k < length (args_of c)
  below k lt = omega (arith, ap length is, length-map (args_of c) rule_of)

  -- the argument of the rule at a place
  at : (k : ℕ) (d : Arg) (r : Rule) → k < length s.rules → slice_index_or s.rules k r ≡ r → (is_only k r.id s.rules && is_own r.id) ≡ true → IsArgAt c k d r
  at k d r lt here alone =
      let parts = and_parts (is_only k r.id s.rules) (is_own r.id) alone in
      record {
        below = below k lt;
        rule = rule_at (args_of c) k d r (below k lt) ∙ ap (λ xs. slice_index_or xs k r) is ∙ here;
        only = subst (λ xs. is_only k r.id xs ≡ true) (sym is) parts.0;
        own = parts.1;
      }

  pub has_text : (k : ℕ) (r : Rule) → k < length s.rules → slice_index_or s.rules k r ≡ r → (is_only k r.id s.rules && is_own r.id) ≡ true
      → r.required ≡ true → r.action ≡ Some Set → r.range ≡ None → r.is_simple ≡ true → HasText r.id (rows_of (found_of m))
  has_text k r lt here alone required set range simple =
      let d = some_arg (args_of c) k (below k lt) in
      required_text c m p calm k d r (at k d r lt here alone) required set range simple

  pub has_number : (k : ℕ) (r : Rule) → k < length s.rules → slice_index_or s.rules k r ≡ r → (is_only k r.id s.rules && is_own r.id) ≡ true
      → (low high : ℕ) → r.parser ≡ Some (Unsigned low high) → HasNumberIn r.id low high (rows_of (found_of m))
  has_number k r lt here alone low high parser =
      let d = some_arg (args_of c) k (below k lt) in
      accepted c m p calm k d r (at k d r lt here alone) (Unsigned low high) (IsUnsignedIn low high) (unsigned low high) parser

  pub has_signed : (k : ℕ) (r : Rule) → k < length s.rules → slice_index_or s.rules k r ≡ r → (is_only k r.id s.rules && is_own r.id) ≡ true
      → (low : ℕ) (high : ℤ) → r.parser ≡ Some (Signed (negsuc low) high) → IfSome (one_of r.id (rows_of (found_of m))) IsSignedNumber
  has_signed k r lt here alone low high parser =
      let d = some_arg (args_of c) k (below k lt) in
      accepted c m p calm k d r (at k d r lt here alone) (Signed (negsuc low) high) IsSignedNumber (signed low high) parser
