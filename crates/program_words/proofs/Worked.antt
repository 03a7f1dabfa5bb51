-- Words that are written out, read by the definitions.
use Rattle.std.proofs.Common.{◌≡◌, [], ◌∷◌, Some, None, codes, refl}
use Rattle.std.specs.Prelude.{Ok}
use Rattle.clap.proofs.OnLiterals.{clap_on_literals}
use Rattle.program_words.specs.declared.command.Command.TheVariants.{Alone}
use Rattle.program_words.specs.declared.word_fault.WordFault.TheVariants.{Line, NoCommand, Port, UnknownCommand}
use Rattle.program_words.specs.Words.{command_of, first_word_fault, is_taken, rows_in}

none : first_word_fault [] ≡ Some NoCommand
none = refl

unknown : first_word_fault (codes "fly" ∷ []) ≡ Some UnknownCommand
unknown = refl

alone : first_word_fault (codes "alone" ∷ []) ≡ Some Line
unfolding clap_on_literals is_taken rows_in
alone = refl

seed : command_of (codes "alone" ∷ codes "--seed" ∷ codes "7" ∷ codes "p" ∷ []) ≡ Ok (Alone None 8 5000000 7 None (codes "p") 0)
unfolding clap_on_literals is_taken rows_in
seed = refl

seed_attached : command_of (codes "alone" ∷ codes "--seed=7" ∷ codes "p" ∷ []) ≡ Ok (Alone None 8 5000000 7 None (codes "p") 0)
unfolding clap_on_literals is_taken rows_in
seed_attached = refl

port : first_word_fault (codes "run" ∷ codes "p" ∷ codes "a" ∷ []) ≡ Some (Port 0)
unfolding clap_on_literals is_taken rows_in
port = refl
