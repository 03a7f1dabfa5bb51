-- The rules on one point of a rescue file in their order, and the point that keeps them all.
use Rattle.std.specs.Prelude.{ℕ, ◌+◌, ◌%◌, ◌==◌, nat_lt, nat_le, Bool, true, false, not, ◌&&◌, ◌||◌, List, [], ◌∷◌, ◌++◌, length, Option, Some, is_some, is_none, unwrap_or, option_map, position, codes}
use Rattle.std.specs.List.{list_any}
use Rattle.guest_words.specs.declared.image.Span.{Span}
use Rattle.guest_words.specs.declared.point.Point.{Point}
use Rattle.guest_words.specs.declared.point.Kind.{Kind}
use Rattle.guest_words.specs.declared.point.Kind.TheVariants.{Blocking, Loose}
use Rattle.guest_words.specs.Rules.{Rule, rule}
use Rattle.elf_symbols.specs.declared.symbol.Symbol.{Symbol}
use Rattle.elf_symbols.specs.declared.found.Found.{Found}
use Rattle.elf_symbols.specs.declared.found.Found.TheVariants.{One, Absent, Several}
use Rattle.elf_symbols.specs.Find.{found_of}
use Rattle.toml.specs.Data.{Members, get_member, as_str}
use Rattle.rescue_config.specs.declared.point_fault.PointFault.{PointFault}
use Rattle.rescue_config.specs.declared.point_fault.PointFault.TheVariants.{UnknownKey, BadValue, Missing, Both, BadReturn, BadCodes, BadLimit, BadKind, Mixed, UnknownFunction, Ambiguous, Misaligned, OutsideText, Twice}
use Rattle.rescue_config.specs.declared.version.Version.{Version}
use Rattle.rescue_config.specs.Fields.{is_point_key, has_only, is_other, address_in, ret_in, codes_in, limit_in, kind_in, function_of, address_of, codes_of, limit_of, kind_of}

-- a point has a function or an entry, of the right type
abbrev pub target_rules : ℕ → Members → List (Rule PointFault)
target_rules number point =
    let function = get_member (codes "function") point in
    let entry = get_member (codes "entry") point in
    rule (is_none function && is_none entry) Missing number
    ∷ rule (is_some function && is_some entry) Both number
    ∷ rule (is_other (λ v. is_some (as_str v)) function
    || is_other (λ v. is_some (address_in v)) entry) BadValue number
    ∷ []

-- it says what a rescued call returns
abbrev pub ret_rules : ℕ → Members → List (Rule PointFault)
ret_rules number point =
    let returns = get_member (codes "returns") point in
    rule (is_none returns) Missing number
    ∷ rule (is_other (λ v. is_some (ret_in v)) returns) BadReturn number
    ∷ []

-- its codes by fault and its limit, where they are there, can be read
abbrev pub codes_rules : ℕ → Members → List (Rule PointFault)
codes_rules number point =
    rule (is_other (λ v. is_some (codes_in v)) (get_member (codes "codes") point)) BadCodes number
    ∷ []

abbrev pub limit_rules : ℕ → Members → List (Rule PointFault)
limit_rules number point =
    rule (is_other (λ v. is_some (limit_in v)) (get_member (codes "limit") point)) BadLimit number
    ∷ []

-- it says what rescues return, and how many there may be
abbrev pub rescue_rules : ℕ → Members → List (Rule PointFault)
rescue_rules number point =
    ret_rules number point ++ codes_rules number point ++ limit_rules number point

-- its kind is known
abbrev pub kind_rules : Version → ℕ → Members → List (Rule PointFault)
kind_rules version number point =
    let kind = get_member (codes "kind") point in
    rule (is_other (λ v. is_some (kind_in version v)) kind) BadKind number ∷ []

-- the rules on the fields of a point alone
abbrev pub field_rules : Version → ℕ → Members → List (Rule PointFault)
field_rules version number point =
    rule (not (has_only (is_point_key version) point)) UnknownKey number
    ∷ (target_rules number point ++ rescue_rules number point ++ kind_rules version number point)

-- two kinds don't go together: one is loose, and the other blocking
abbrev pub are_mixed : Kind → Kind → Bool
are_mixed Blocking Loose = true
are_mixed Loose Blocking = true
are_mixed _ _ = false

-- it goes together with the points before it
abbrev pub mixed_rules : ℕ → List Point → Kind → List (Rule PointFault)
mixed_rules number earlier kind =
    let first = position (λ p. are_mixed kind p.kind) earlier in
    rule (is_some first) (Mixed (unwrap_or first 0)) number ∷ []

-- the symbols that have the name of a point's function, if it has one
abbrev pub named : List Symbol → Option (List ℕ) → Option Found
named symbols function = option_map (found_of symbols) function

-- just one symbol has the name
abbrev pub name_rules : ℕ → Option Found → List (Rule PointFault)
name_rules number (Some Absent) = rule true UnknownFunction number ∷ []
name_rules number (Some (Several count)) = rule true (Ambiguous count) number ∷ []
name_rules number _ = []

-- the entry of a point that keeps these rules: the value of the symbol, or the given address
abbrev pub entry_in : Option Found → Option ℕ → ℕ
entry_in (Some (One value)) address = value
entry_in _ address = unwrap_or address 0

abbrev pub entry_of : List Symbol → Members → ℕ
entry_of symbols point = entry_in (named symbols (function_of point)) (address_of point)

-- an address is in a range
abbrev pub is_within : Span → ℕ → Bool
is_within span address = nat_le span.from address && nat_lt address (span.from + span.size)

-- an entry is that of an instruction of the text, and of no earlier point
abbrev pub entry_rules : ℕ → List Span → List Point → ℕ → List (Rule PointFault)
entry_rules number text earlier entry =
    let first = position (λ p. p.entry == entry) earlier in
    rule (not (entry % 4 == 0)) Misaligned number
    ∷ rule (not (list_any (λ span. is_within span entry) text)) OutsideText number
    ∷ rule (is_some first) (Twice (unwrap_or first 0)) number
    ∷ []

-- all rules on a point after the points before it, whose count is its number
unfoldable pub point_rules :
    Version → List Symbol → List Span → List Point → Members → List (Rule PointFault)
point_rules version symbols text earlier point =
    let number = length earlier in
    field_rules version number point
    ++ mixed_rules number earlier (kind_of version point)
    ++ name_rules number (named symbols (function_of point))
    ++ entry_rules number text earlier (entry_of symbols point)

-- the point of a table that keeps them
abbrev pub point_of : Version → List Symbol → Members → Point
point_of version symbols point =
    record {
      entry = entry_of symbols point;
      codes = codes_of point;
      kind = kind_of version point;
      left = limit_of point;
    }
