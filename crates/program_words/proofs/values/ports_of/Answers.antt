use Rattle.std.proofs.Common.{◌∙◌, ap, map}
use Rattle.std.proofs.lemmas.Result.{IfOk-weaker}
use Rattle.clap.specs.Words.{found_of}
use Rattle.program_words.specs.Ports.{port_named}
use Rattle.program_words.proofs.PortWords.{given, none_given}
use Rattle.program_words.proofs.values.ports_of.Goals as goal

pub returns-in-Some : goal.returns-in-Some
returns-in-Some c = record {
  ok = IfOk-weaker c.names_of.result _ _
      (λ n h. h ∙ ap (map port_named) (given (found_of c.args.matches.now) c.in-Some.words c.in-Some.ensures)) c.names_of.ensures.ok;
}

pub returns-in-None : goal.returns-in-None
returns-in-None c = record {
  ok = c.of.ensures.list ∙ (c.new.ensures.items ∙ ap (map port_named) (none_given (found_of c.args.matches.now) c.in-None.ensures));
}
