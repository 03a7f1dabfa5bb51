-- What is wrong with a rescue file: what a rule is on, words, and a number.
use Rattle.std.specs.Prelude.{ℕ, List, [], ◌++◌, ◌&&◌, is_some, is_none, Option, Some, None, unwrap_or, codes, if◌then◌else◌}
use Rattle.std.specs.Fmt.{decimal}
use Rattle.toml.specs.Data.{Members, get_member}
use Rattle.rescue_config.specs.declared.point_fault.PointFault.{PointFault}
use Rattle.rescue_config.specs.declared.point_fault.PointFault.TheVariants.{Toml, UnknownKey, BadVersion, BadValue, TooMany, Missing, Both, BadReturn, BadCodes, BadLimit, BadKind, Mixed, UnknownFunction, Ambiguous, Misaligned, OutsideText, Twice, LooseHere}
use Rattle.rescue_config.specs.declared.version.Version.{Version}
use Rattle.rescue_config.specs.Fields.{function_of, address_of}
use Rattle.config_hints.specs.Keys.{is_key_at, first_other}
use Rattle.config_hints.specs.Shown.{quoted, address_text}

-- the point that a rule is on, where it isn't on the whole file
abbrev pub place_text : Option ℕ → List ℕ
place_text None = []
place_text (Some number) = codes "point " ++ decimal number ++ codes ": "

-- what a point goes by: the name of its function, or else its entry
abbrev pub function_or : Option (List ℕ) → Option ℕ → List ℕ
function_or (Some name) address = quoted name
function_or None address = address_text (unwrap_or address 0)

abbrev pub target_text : Members → List ℕ
target_text point = function_or (function_of point) (address_of point)

-- the first unknown key, or the target of a point
abbrev pub subject_of : Version → Members → Option ℕ → PointFault → List ℕ
subject_of version table place UnknownKey =
    quoted (unwrap_or (first_other (is_key_at version place) table) [])
subject_of version table place UnknownFunction = target_text table
subject_of version table place (Ambiguous count) = target_text table
subject_of version table place Misaligned = target_text table
subject_of version table place OutsideText = target_text table
subject_of version table place (Twice first) = target_text table
subject_of version table place _ = []

abbrev pub unknown_key_words : Option ℕ → List ℕ
unknown_key_words None = codes " is no key of a rescue file"
unknown_key_words (Some number) = codes " is no key of a point"

abbrev pub bad_value_words : Members → Option ℕ → List ℕ
bad_value_words table None = codes "point is no array of tables"
bad_value_words table (Some number) =
    if is_some (get_member (codes "function") table)
    then codes "function is no text"
    else codes "entry is no integer from 0 on"

abbrev pub missing_words : Members → List ℕ
missing_words table =
    if is_none (get_member (codes "function") table) && is_none (get_member (codes "entry") table)
    then codes "function and entry are missing"
    else codes "returns is missing"

-- the words on a fault
abbrev pub wrong_words : Members → Option ℕ → PointFault → List ℕ
wrong_words table place Toml = codes "this is no TOML 1.0 document in UTF-8"
wrong_words table place UnknownKey = unknown_key_words place
wrong_words table place BadVersion = codes "version is none of the integers 1, 2 and 3"
wrong_words table place BadValue = bad_value_words table place
wrong_words table place (TooMany count) = codes "there are too many points: "
wrong_words table place Missing = missing_words table
wrong_words table place Both = codes "function and entry are both there"
wrong_words table place BadReturn = codes "returns is neither an integer nor the text 'void'"
wrong_words table place BadCodes = codes "codes is no table from faults to what returns may be"
wrong_words table place BadLimit = codes "limit is no integer from 1 to 1000000"
wrong_words table place BadKind = codes "kind is none of the known ones"
wrong_words table place (Mixed first) = codes "it doesn't go together with point "
wrong_words table place UnknownFunction = codes " is no function symbol of the program"
wrong_words table place (Ambiguous count) = codes " is the name of several function symbols: "
wrong_words table place Misaligned = codes " isn't at a multiple of 4"
wrong_words table place OutsideText = codes " lies outside the executable ranges"
wrong_words table place (Twice first) = codes " has the entry of point "
wrong_words table place LooseHere = codes "it is loose, and loose points aren't run yet"

-- the number that a fault brings with it
abbrev pub number_text : PointFault → List ℕ
number_text (TooMany count) = decimal count
number_text (Mixed first) = decimal first
number_text (Ambiguous count) = decimal count
number_text (Twice first) = decimal first
number_text _ = []

abbrev pub wrong_of : Version → Members → Option ℕ → PointFault → List ℕ
wrong_of version table place fault =
    place_text place ++ subject_of version table place fault ++ wrong_words table place fault
    ++ number_text fault
