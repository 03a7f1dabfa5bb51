-- The rules on a rescue file in their order, and the list of its points or the first broken rule.
use Rattle.std.specs.Prelude.{ℕ, nat_lt, not, List, [], ◌∷◌, ◌++◌, suc, Option, Some, None, is_none, option_map, option_and_then, unwrap_or, Result, Ok, Err, codes, if◌then◌else◌}
use Rattle.std.specs.Option.{option_or}
use Rattle.std.specs.Str.{is_utf8}
use Rattle.guest_words.specs.declared.image.Span.{Span}
use Rattle.guest_words.specs.declared.limits.TheConstants.{POINTS}
use Rattle.guest_words.specs.declared.point.Point.{Point}
use Rattle.guest_words.specs.Rules.{Rule, rule, first_broken}
use Rattle.elf_symbols.specs.declared.symbol.Symbol.{Symbol}
use Rattle.toml.specs.Data.{Data, Items, no_items, item, Members, no_members, get_member, as_array, as_table}
use Rattle.toml.specs.Parse.{parse_document}
use Rattle.rescue_config.specs.declared.point_fault.PointFault.{PointFault}
use Rattle.rescue_config.specs.declared.point_fault.PointFault.TheVariants.{Toml, UnknownKey, BadVersion, BadValue, TooMany}
use Rattle.rescue_config.specs.declared.version.Version.{Version}
use Rattle.rescue_config.specs.Fields.{is_file_key, has_only, is_other, is_table_list}
use Rattle.rescue_config.specs.Version.{named_version, version_of}
use Rattle.rescue_config.specs.PointRules.{point_rules, point_of}

-- the table that the bytes stand for, if they are a TOML document in UTF-8
abbrev pub document_of : List ℕ → Option Members
document_of bytes = if is_utf8 bytes then parse_document bytes else None

-- the items of point, none where it is absent
abbrev pub point_items : Members → Items
point_items file = unwrap_or (option_and_then as_array (get_member (codes "point") file)) no_items

abbrev pub count_of : Items → ℕ
count_of no_items = 0
count_of (item value rest) = suc (count_of rest)

abbrev pub members_in : Data → Members
members_in value = unwrap_or (as_table value) no_members

-- the rules on the whole file, which have no place: 0 stands for it
abbrev pub file_rules : Members → List (Rule PointFault)
file_rules file =
    let count = count_of (point_items file) in
    rule (not (has_only is_file_key file)) UnknownKey 0
    ∷ rule (is_none (named_version file)) BadVersion 0
    ∷ rule (is_other is_table_list (get_member (codes "point") file)) BadValue 0
    ∷ rule (nat_lt POINTS count) (TooMany count) 0
    ∷ []

-- the rules on the points: all those of one point come before the next
unfoldable pub points_rules :
    Version → List Symbol → List Span → List Point → Items → List (Rule PointFault)
points_rules version symbols text earlier no_items = []
points_rules version symbols text earlier (item value rest) =
    let point = members_in value in
    point_rules version symbols text earlier point
    ++ points_rules version symbols text (earlier ++ point_of version symbols point ∷ []) rest

-- the points of items that keep the rules
unfoldable pub points_in : Version → List Symbol → Items → List Point
points_in version symbols no_items = []
points_in version symbols (item value rest) =
    point_of version symbols (members_in value) ∷ points_in version symbols rest

-- a broken rule with its place: none for a rule on the file, else the point's number
abbrev pub Broken : Type 0
Broken = PointFault × Option ℕ

abbrev pub at_file : PointFault × ℕ → Broken
at_file broken = (broken.0, None)

abbrev pub at_point : PointFault × ℕ → Broken
at_point broken = (broken.0, Some broken.1)

-- the first broken rule of a list with its place
abbrev pub first_at_file : List (Rule PointFault) → Option Broken
first_at_file rules = option_map at_file (first_broken rules)

abbrev pub first_at_point : List (Rule PointFault) → Option Broken
first_at_point rules = option_map at_point (first_broken rules)

-- the first rule that a file breaks, with its place
abbrev pub first_broken_in : List Symbol → List Span → Members → Option Broken
first_broken_in symbols text file =
    option_or (first_at_file (file_rules file))
    (first_at_point (points_rules (version_of file) symbols text [] (point_items file)))

-- the points of a file, or the first rule that it breaks
abbrev pub points_or : List Point → Option Broken → Result (List Point) Broken
points_or points None = Ok points
points_or points (Some broken) = Err broken

abbrev pub points_of_document :
    List Symbol → List Span → Option Members → Result (List Point) Broken
points_of_document symbols text None = Err (Toml, None)
points_of_document symbols text (Some file) =
    points_or (points_in (version_of file) symbols (point_items file))
    (first_broken_in symbols text file)

-- the point list of the bytes, the symbols and the executable loads, or the first broken rule
unfoldable pub points_of : List ℕ → List Symbol → List Span → Result (List Point) Broken
points_of bytes symbols text = points_of_document symbols text (document_of bytes)
