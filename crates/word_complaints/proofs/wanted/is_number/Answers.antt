use Rattle.std.proofs.Common.{◌∙◌, sym}
use Rattle.word_complaints.proofs.Numbers.{no_number, number_parsed}
use Rattle.word_complaints.proofs.wanted.is_number.Goals as goal

pub returns-in-Ok : goal.returns-in-Ok
returns-in-Ok c = record { value = c.is_within.ensures.value ∙ number_parsed c.args.least c.args.most c.args.text.now c.in-Ok.number c.in-Ok.ensures.value.0.0 c.in-Ok.ensures.value.0.1 }

pub returns-in-Err : goal.returns-in-Err
returns-in-Err c = record { value = sym (no_number c.args.least c.args.most c.args.text.now c.in-Err.ensures.value.0) }
