-- Calls on devices that failed.
use Rattle.std.specs.Prelude.{Bool, List}
use Rattle.std.specs.List.{list_any}
use Rattle.std.specs.Ordering.{int_eq}
use Rattle.guest_words.specs.declared.linux.TheConstants.{EIO}
use Rattle.guest_words.specs.declared.record.Record.{Record}

-- a device failed in one of these calls
abbrev pub has_failed : List Record → Bool
has_failed records = list_any (λ r. int_eq r.answer EIO) records
