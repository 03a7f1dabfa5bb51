-- The versions of the rescue file.
use Rattle.std.specs.Prelude.{Bool, true, false, Option, Some, None, unwrap_or, codes, pos, ◌==◌, if◌then◌else◌}
use Rattle.toml.specs.Data.{Data, integer, Members, get_member}
use Rattle.rescue_config.specs.declared.version.Version.{Version}
use Rattle.rescue_config.specs.declared.version.Version.TheVariants.{One, Two, Three}

-- a version is an integer from 1 to 3
abbrev pub version_in : Data → Option Version
version_in (integer (pos n)) =
    if n == 1 then Some One
    else (if n == 2 then Some Two else (if n == 3 then Some Three else None))
version_in _ = None

-- the version that the key has, if it is one; the first where the key is absent
abbrev pub version_or_first : Option Data → Option Version
version_or_first None = Some One
version_or_first (Some value) = version_in value

abbrev pub named_version : Members → Option Version
named_version file = version_or_first (get_member (codes "version") file)

-- the version of a file that keeps the rules
abbrev pub version_of : Members → Version
version_of file = unwrap_or (named_version file) One

-- a point may have codes by fault and a limit from version 2 on
abbrev pub has_codes : Version → Bool
has_codes One = false
has_codes Two = true
has_codes Three = true

-- and be loose in version 3
abbrev pub has_loose : Version → Bool
has_loose One = false
has_loose Two = false
has_loose Three = true
