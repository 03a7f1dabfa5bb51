use Rattle.std.proofs.Common.{◌∙◌, Some, ap}
use Rattle.clap.specs.Words.{found_of}
use Rattle.clap.proofs.WalkLemmas.{first_value-rows}
use Rattle.program_words.proofs.values.option_of.Goals as goal

pub returns-in_ok-name-in-Some : goal.returns-in_ok-name-in-Some
returns-in_ok-name-in-Some c =
    let found = first_value-rows (found_of c.args.matches.now) c.args.id.now in
    record { ok = ap Some c.in_ok-name-in-Some.ensures.ok ∙ (c.in-Some.ensures ∙ found) }

pub returns-in-None : goal.returns-in-None
returns-in-None c =
    let found = first_value-rows (found_of c.args.matches.now) c.args.id.now in
    record { ok = c.in-None.ensures ∙ found }
