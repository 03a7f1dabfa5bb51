-- Why nothing is done, by what a file or the words come to.
use Rattle.rescue_run.specs.declared.limits.TheConstants.{DEVICE_BYTES, HISTORY_BYTES}
use Rattle.guest_words.specs.declared.limits.TheConstants.{PROGRAM_BYTES, POINTS_BYTES}
use Rattle.std.specs.Prelude.{ℕ}
use Rattle.edge_ports.specs.declared.shelf.ShelfFault.{ShelfFault}
use Rattle.edge_ports.specs.declared.shelf.ShelfFault.TheVariants as shelf
use Rattle.program_words.specs.declared.words_fault.WordsFault.{WordsFault}
use Rattle.program_words.specs.declared.words_fault.WordsFault.TheVariants as words
use Rattle.rescue_run.specs.declared.outcome.Which.{Which}
use Rattle.rescue_run.specs.declared.outcome.Which.TheVariants as which
use Rattle.rescue_run.specs.declared.refusal.Refusal.{Refusal}
use Rattle.rescue_run.specs.declared.outcome.Outcome.TheVariants.{Words, Shelf, TooLong}
use Rattle.rescue_run.specs.Refusals.{plain, wanting}

-- the greatest length of each file
abbrev pub limit_of : Which → ℕ
limit_of which.Program = PROGRAM_BYTES
limit_of which.Points = POINTS_BYTES
limit_of which.History = HISTORY_BYTES
limit_of (which.Device number) = DEVICE_BYTES

-- words that give no command
abbrev pub of_words_fault : WordsFault → Refusal
of_words_fault (words.Words fault) = plain (Words fault)
of_words_fault words.Memory = wanting

-- a file that the shelf doesn't give
abbrev pub of_shelf_fault : Which → ShelfFault → Refusal
of_shelf_fault w (shelf.Failed reason) = plain (Shelf w reason)
of_shelf_fault w (shelf.TooLong size) = plain (TooLong w size)
of_shelf_fault w shelf.Memory = wanting
