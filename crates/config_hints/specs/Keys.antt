-- The keys that a rescue file doesn't know.
use Rattle.std.specs.Prelude.{ℕ, List, Bool, Option, Some, None, if◌then◌else◌}
use Rattle.toml.specs.Data.{Members, no_members, member}
use Rattle.rescue_config.specs.declared.version.Version.{Version}
use Rattle.rescue_config.specs.Fields.{is_file_key, is_point_key}

-- a key of the whole file where there is no place, else one of a point
abbrev pub is_key_at : Version → Option ℕ → List ℕ → Bool
is_key_at version None key = is_file_key key
is_key_at version (Some number) key = is_point_key version key

-- the first key of a table that is none of these
abbrev pub first_other : (List ℕ → Bool) → Members → Option (List ℕ)
first_other test no_members = None
first_other test (member key value rest) = if test key then first_other test rest else Some key
