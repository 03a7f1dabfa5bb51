-- What would be right in a rescue file, by the rule that it breaks.
use Rattle.std.specs.Prelude.{ℕ, List, [], ◌++◌, Option, Some, None, codes}
use Rattle.guest_words.specs.declared.image.Span.{Span}
use Rattle.rescue_config.specs.declared.point_fault.PointFault.{PointFault}
use Rattle.rescue_config.specs.declared.point_fault.PointFault.TheVariants.{Toml, UnknownKey, BadVersion, BadValue, TooMany, Missing, Both, BadReturn, BadCodes, BadLimit, BadKind, Mixed, UnknownFunction, Ambiguous, Misaligned, OutsideText, Twice, LooseHere}
use Rattle.config_hints.specs.Shown.{ranges_text}

abbrev pub known_keys : Option ℕ → List ℕ
known_keys None = codes "the keys of a rescue file are version and point"
known_keys (Some number) = codes "the keys of a point are function, entry, returns and kind, and from version 2 on codes and limit"

abbrev pub right_values : Option ℕ → List ℕ
right_values None = codes "each point stands under a line [[point]]"
right_values (Some number) = codes "function is a text, as 'handle', and entry an integer, as 0x10400"

abbrev pub right_words : Option ℕ → PointFault → List ℕ
right_words place Toml = codes "a file of one point reads: point = [{ function = 'handle', returns = -1 }]"
right_words place UnknownKey = known_keys place
right_words place BadVersion = codes "version is 1 where it is left out"
right_words place BadValue = right_values place
right_words place (TooMany count) = codes "a rescue file has at most 256 points"
right_words place Missing = codes "a point has returns, and function or entry"
right_words place Both = codes "a point has one of the two"
right_words place BadReturn = codes "an integer is from -9223372036854775808 to 9223372036854775807"
right_words place BadCodes = codes "the faults are fetch-rights, fetch-misaligned, illegal, load-rights, store-rights, atomic-misaligned, breakpoint and blocked-in-point"
right_words place BadLimit = codes "where limit is left out, any number of calls is rescued"
right_words place BadKind = codes "kind is 'blocking' or 'off', and in version 3 also 'loose'"
right_words place (Mixed first) = codes "a file's points are loose or blocking, not both; those that are off go with either"
right_words place UnknownFunction = codes "rescue list prints the symbols; for a stripped program entry serves"
right_words place (Ambiguous count) = codes "entry in place of function says which one"
right_words place Misaligned = codes "an entry is the address of a function's first instruction, a multiple of 4"
right_words place OutsideText = codes "the executable ranges are "
right_words place (Twice first) = codes "each entry has one point"
right_words place LooseHere = codes "a file that is run has the kinds 'blocking' and 'off'"

-- the ranges of the program where they are what would be right
abbrev pub right_ranges : List Span → PointFault → List ℕ
right_ranges text OutsideText = ranges_text text
right_ranges text _ = []

abbrev pub right_of : List Span → Option ℕ → PointFault → List ℕ
right_of text place fault = right_words place fault ++ right_ranges text fault
