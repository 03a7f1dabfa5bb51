-- Where a rescue file has what a broken rule is on.
use Rattle.std.specs.Prelude.{ℕ, List, Option, Some, None, option_and_then, unwrap_or, codes}
use Rattle.toml.specs.Data.{Members, no_members, get_member, at, as_table}
use Rattle.rescue_config.specs.Document.{document_of}

-- the table of the whole file, empty where it is no document
abbrev pub file_of : List ℕ → Members
file_of bytes = unwrap_or (document_of bytes) no_members

-- the table of the point of a number, counted from 0
abbrev pub point_at : ℕ → Members → Option Members
point_at number file =
    option_and_then as_table (option_and_then (at number) (get_member (codes "point") file))

-- the table that a rule is on: the whole file where it has no place, else a point
abbrev pub table_at : Option ℕ → Members → Members
table_at None file = file
table_at (Some number) file = unwrap_or (point_at number file) no_members
