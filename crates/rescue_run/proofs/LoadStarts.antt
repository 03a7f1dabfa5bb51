-- The words of a load come to its run.
use Rattle.std.proofs.Common.{◌≡◌, ℕ, List, [], ◌∷◌, Bool, true, false, Some, None, refl, ap}
use Rattle.std.specs.Prelude.{Ok, Err, Option, codes, if◌then◌else◌}
use Rattle.std.specs.Result.{result_map_both}
use Rattle.std.specs.Str.{bytes_eq}
use Rattle.load_maker.specs.Accepted.{AreAccepted}
use Rattle.load_maker.specs.File.{load_file}
use Rattle.load_maker.specs.Program.{points_file}
use Rattle.load_maker.proofs.Accepted.{AreAccepted-load}
use Rattle.program_words.specs.Words.{command_in, command_of, is_taken, port_words, rows_in, unless_bad_port}
use Rattle.program_words.specs.Ports.{first_bad_port}
use Rattle.program_words.specs.declared.command.Command.{Command}
use Rattle.program_words.specs.declared.command.Command.TheVariants as command
use Rattle.program_words.specs.declared.command_kind.CommandKind.{CommandKind}
use Rattle.program_words.specs.declared.command_kind.CommandKind.TheVariants as kind
use Rattle.program_words.specs.declared.word_fault.WordFault.TheVariants.{Line}
use Rattle.rescue_run.specs.Loading.{loaded_from}
use Rattle.rescue_run.specs.LoadStarts.{load_loaded, LoadStarts}
use Rattle.rescue_run.specs.Words.{load_with, needs_threads}

-- what files give that are accepted as a load's
loaded_from-accepted : (elf points : List ℕ) → AreAccepted elf points → loaded_from elf points ≡ Ok load_loaded
loaded_from-accepted elf points is =
    rw (is.kept, is.symbols_kept, is.symbols, is.loads, is.entry, is.point) refl

loaded_from-load : loaded_from load_file points_file ≡ Ok load_loaded
loaded_from-load = loaded_from-accepted load_file points_file (AreAccepted-load load_file points_file refl refl)

-- words that are read as a run aren't those of a load
rows_of_run : {R : Type 0} (rows : R) (command_by : CommandKind × R → Command) (number : ℕ) (taken : Bool) (bad : Option ℕ)
    → (command_by (kind.Run, rows) ≡ command.Load number → ⊥)
    → result_map_both command_by (λ fault. fault) (if taken then unless_bad_port (kind.Run, rows) bad else Err Line) ≡ Ok (command.Load number)
    → ⊥
rows_of_run rows command_by number true None other is = other (cc)
rows_of_run rows command_by number true (Some index) other is = cc
rows_of_run rows command_by number false bad other is = cc

not_run : (first : List ℕ) (rest : List (List ℕ)) (number : ℕ) (run : Bool)
    → bytes_eq first (codes "run") ≡ run
    → command_of (first ∷ rest) ≡ Ok (command.Load number)
    → run ≡ false
not_run first rest number false names reads = refl
not_run first rest number true names reads =
    let rows = rows_in kind.Run rest in
    absurd (rows_of_run rows (λ r. command_in r.0 r.1) number (is_taken kind.Run rest) (first_bad_port (port_words rows)) (λ same. cc) (rw names at reads))

needs_no_threads : (words : List (List ℕ)) (number : ℕ)
    → command_of words ≡ Ok (command.Load number)
    → needs_threads words ≡ false
needs_no_threads [] number reads = refl
needs_no_threads (first ∷ rest) number reads = not_run first rest number (bytes_eq first (codes "run")) refl reads

pub load_starts : LoadStarts
load_starts true words number answers reads = rw reads (ap (load_with number) loaded_from-load)
load_starts false words number answers reads =
    rw (needs_no_threads words number reads, reads) (ap (load_with number) loaded_from-load)
