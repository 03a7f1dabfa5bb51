-- The names of what a history file breaks.
use Rattle.std.specs.Prelude.{ℕ, List, codes}
use Rattle.history_file.specs.declared.file_fault.FileKind.{FileKind}
use Rattle.history_file.specs.declared.file_fault.FileKind.TheVariants.{Magic, Short, Tag, Value, Deep, Rest}

-- the name, as ASCII
abbrev pub file_kind_name : FileKind → List ℕ
file_kind_name Magic = codes "magic"
file_kind_name Short = codes "short"
file_kind_name Tag = codes "tag"
file_kind_name Value = codes "value"
file_kind_name Deep = codes "deep"
file_kind_name Rest = codes "rest"
