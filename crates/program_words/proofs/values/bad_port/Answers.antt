use Rattle.std.proofs.Common.{◌∙◌, ap, not, sym}
use Rattle.clap.specs.Words.{found_of}
use Rattle.program_words.specs.Ports.{first_bad_port, is_port}
use Rattle.program_words.proofs.PortWords.{given, none_given, position-map}
use Rattle.program_words.proofs.values.bad_port.Goals as goal

pub returns-in-Some : goal.returns-in-Some
returns-in-Some c = record {
  value = c.first_bad_port.ensures.value
      ∙ (sym (position-map (λ w. not (is_port w)) (λ w. w.now) c.in-Some.words.now)
      ∙ ap first_bad_port (given (found_of c.args.matches.now) c.in-Some.words c.in-Some.ensures));
}

pub returns-in-None : goal.returns-in-None
returns-in-None c = record { value = ap first_bad_port (none_given (found_of c.args.matches.now) c.in-None.ensures) }
