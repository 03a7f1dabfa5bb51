-- The points of tables, as far as they have been read.
use Rattle.std.proofs.Common.{◌≡◌, ℕ, ◌+◌, ◌<◌, ◌≤◌, List, [], ◌∷◌, ◌++◌, true, length, drop, get_or, refl, sym, ap, subst, ◌∙◌, length-append}
use Rattle.std.specs.Prelude.{Option, None, IsSome}
use Rattle.std.proofs.lemmas.Bool.{and_parts}
use Rattle.std.proofs.lemmas.List.{append-nil, append_assoc, drop_all}
use Rattle.guest_words.specs.declared.image.Span.{Span}
use Rattle.guest_words.specs.declared.point.Point.{Point}
use Rattle.guest_words.specs.Points.{IsPointList}
use Rattle.guest_words.proofs.PointLists.{IsPointList-none}
use Rattle.elf_symbols.specs.declared.symbol.Symbol.{Symbol}
use Rattle.toml.specs.Data.{item, as_table}
use Rattle.toml.specs.View.{view, items_view}
use Rattle.toml.specs.declared.value.Value.{Value}
use Rattle.toml.proofs.Views.{items_view-drop}
use Rattle.rescue_config.specs.declared.version.Version.{Version}
use Rattle.rescue_config.specs.declared.point_fault.PointFault.{PointFault}
use Rattle.rescue_config.specs.declared.points_fault.PointsFault.{PointsFault}
use Rattle.rescue_config.specs.Document.{first_at_point, points_rules, points_in, members_in}
use Rattle.rescue_config.specs.Fields.{are_tables}
use Rattle.rescue_config.specs.PointRules.{point_rules, point_of}
use Rattle.rescue_config.specs.Tells.{IsCause}
use Rattle.rescue_config.proofs.RuleLists.{kept_next, cause_first}

-- the points of the first k values were read: what is left of the rules and the list is all of it
pub record AreRead (version : Version) (symbols : List Symbol) (text : List Span) (values : List Value) (k : ℕ) (points : List Point) : Type 0 where
  pub rules : first_at_point (points_rules version symbols text points (items_view (drop k values))) ≡ first_at_point (points_rules version symbols text [] (items_view values))
  pub list : points ++ points_in version symbols (items_view (drop k values)) ≡ points_in version symbols (items_view values)
  pub tables : are_tables (items_view (drop k values)) ≡ true
  pub count : length points ≡ k
  pub distinct : IsPointList points

-- this is the first of the values that are left
abbrev pub IsNext : List Value → ℕ → Value → Type 0
IsNext values k value = items_view (drop k values) ≡ item (view value) (items_view (drop (k + 1) values))

pub IsNext-get_or : (values : List Value) (k : ℕ) (value : Value) → k < length values → value ≡ get_or values k value → IsNext values k value
IsNext-get_or values k value below is =
    items_view-drop values k value below ∙ ap (λ v. item (view v) (items_view (drop (k + 1) values))) (sym is)

pub AreRead-none : (version : Version) (symbols : List Symbol) (text : List Span) (values : List Value) → are_tables (items_view values) ≡ true → AreRead version symbols text values 0 []
AreRead-none version symbols text values tables =
    record { rules = refl; list = refl; tables = tables; count = refl; distinct = IsPointList-none }

pub IsTable-next : (version : Version) (symbols : List Symbol) (text : List Span) (values : List Value) (k : ℕ) (points : List Point) (value : Value)
    → IsNext values k value → AreRead version symbols text values k points → IsSome (as_table (view value))
IsTable-next version symbols text values k points value next read =
    (and_parts _ (are_tables (items_view (drop (k + 1) values))) (sym (ap are_tables next) ∙ read.tables)).0

-- the rules and the list from a value on, and from the one behind it
rules_from : (version : Version) (symbols : List Symbol) (text : List Span) (values : List Value) (k : ℕ) (points : List Point) (value : Value)
    → IsNext values k value
    → (let point = members_in (view value) in
    points_rules version symbols text points (items_view (drop k values))
    ≡ point_rules version symbols text points point ++ points_rules version symbols text (points ++ point_of version symbols point ∷ []) (items_view (drop (k + 1) values)))
unfolding points_rules
rules_from version symbols text values k points value next = ap (points_rules version symbols text points) next

list_from : (version : Version) (symbols : List Symbol) (values : List Value) (k : ℕ) (value : Value)
    → IsNext values k value
    → points_in version symbols (items_view (drop k values)) ≡ point_of version symbols (members_in (view value)) ∷ points_in version symbols (items_view (drop (k + 1) values))
unfolding points_in
list_from version symbols values k value next = ap (points_in version symbols) next

pub AreRead-next : (version : Version) (symbols : List Symbol) (text : List Span) (values : List Value) (k : ℕ) (points more : List Point) (value : Value)
    → IsNext values k value
    → AreRead version symbols text values k points
    → first_at_point (point_rules version symbols text points (members_in (view value))) ≡ None
    → more ≡ points ++ point_of version symbols (members_in (view value)) ∷ []
    → IsPointList more
    → AreRead version symbols text values (k + 1) more
AreRead-next version symbols text values k points more value next read kept is distinct =
    let point = members_in (view value) in
    let rest = items_view (drop (k + 1) values) in
    record {
      rules =
          ap (λ ps. first_at_point (points_rules version symbols text ps rest)) is
          ∙ sym (kept_next (point_rules version symbols text points point) (points_rules version symbols text (points ++ point_of version symbols point ∷ []) rest) kept)
          ∙ sym (ap first_at_point (rules_from version symbols text values k points value next))
          ∙ read.rules;
      list =
          ap (λ ps. ps ++ points_in version symbols rest) is
          ∙ append_assoc points (point_of version symbols point ∷ []) (points_in version symbols rest)
          ∙ sym (ap (λ ps. points ++ ps) (list_from version symbols values k value next))
          ∙ read.list;
      tables = (and_parts _ (are_tables rest) (sym (ap are_tables next) ∙ read.tables)).1;
      count = ap length is ∙ length-append points (point_of version symbols point ∷ []) ∙ ap (λ n. n + 1) read.count;
      distinct = distinct;
    }

-- the first broken rule of the next point is the first of all
pub AreRead-broken : (version : Version) (symbols : List Symbol) (text : List Span) (values : List Value) (k : ℕ) (points : List Point) (value : Value) (fault : PointsFault)
    → IsNext values k value
    → AreRead version symbols text values k points
    → IsCause fault (first_at_point (point_rules version symbols text points (members_in (view value))))
    → IsCause fault (first_at_point (points_rules version symbols text [] (items_view values)))
AreRead-broken version symbols text values k points value fault next read cause =
    let point = members_in (view value) in
    let rest = items_view (drop (k + 1) values) in
    let P : Option (PointFault × Option ℕ) → Type 0 = λ broken. IsCause fault broken in
    let all = sym (ap first_at_point (rules_from version symbols text values k points value next)) ∙ read.rules in
    subst P all (cause_first fault (point_rules version symbols text points point) (points_rules version symbols text (points ++ point_of version symbols point ∷ []) rest) cause)

-- all of them were read
pub AreRead-all : (version : Version) (symbols : List Symbol) (text : List Span) (values : List Value) (k : ℕ) (points : List Point)
    → length values ≤ k
    → AreRead version symbols text values k points
    → (first_at_point (points_rules version symbols text [] (items_view values)) ≡ None) × (points ≡ points_in version symbols (items_view values))
unfolding points_rules points_in
AreRead-all version symbols text values k points past read =
    let none = drop_all k values past in (
      sym read.rules ∙ ap (λ vs. first_at_point (points_rules version symbols text points (items_view vs))) none,
      sym (append-nil points) ∙ sym (ap (λ vs. points ++ points_in version symbols (items_view vs)) none) ∙ read.list,
    )
