use Rattle.std.proofs.Common.{◌∙◌, ap, length, sym}
use Rattle.std.proofs.lemmas.List.{length-map}
use Rattle.clap.specs.Words.{found_of}
use Rattle.program_words.proofs.PortWords.{given, none_given}
use Rattle.program_words.proofs.values.port_count.Goals as goal

pub returns-in-Some : goal.returns-in-Some
returns-in-Some c = record {
  value = sym (length-map c.in-Some.words.now (λ w. w.now)) ∙ ap length (given (found_of c.args.matches.now) c.in-Some.words c.in-Some.ensures);
}

pub returns-in-None : goal.returns-in-None
returns-in-None c = record { value = ap length (none_given (found_of c.args.matches.now) c.in-None.ensures) }
