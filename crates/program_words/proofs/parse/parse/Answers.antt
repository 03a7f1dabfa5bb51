use Rattle.std.proofs.Common.{◌≡◌, ◌∙◌, sym, subst}
use Rattle.program_words.specs.declared.words_fault.WordsFault.TheVariants.{Words}
use Rattle.program_words.specs.Fits.{Fit}
use Rattle.program_words.proofs.Fitting.{fits}
use Rattle.program_words.proofs.Taking.{refused, rows, taken}
use Rattle.program_words.proofs.parse.parse.Goals as goal

pub returns-in-Ok-clause-taken : goal.returns-in-Ok-clause-taken
returns-in-Ok-clause-taken c = taken _ _ _ c.in_ok-command.ensures.app c.in-Ok.ensures.kinds

pub returns-in-Ok-clause-rows : goal.returns-in-Ok-clause-rows
returns-in-Ok-clause-rows c = rows _ _ _ _ c.in_ok-command.ensures.app c.in-Ok.ensures.matches

pub returns-in-Ok-clause-fits : goal.returns-in-Ok-clause-fits
returns-in-Ok-clause-fits c =
    subst (Fit c.args.kind) (rows _ _ _ _ c.in_ok-command.ensures.app c.in-Ok.ensures.matches)
    (fits c.args.kind c.in_ok-command.command c.in-Ok.matches c.in_ok-command.ensures.app c.in-Ok.ensures.parsed)

pub returns-in-Err-clause-refuses : goal.returns-in-Err-clause-refuses
returns-in-Err-clause-refuses c = λ fault is.
    let same : c.refusal.result ≡ Words fault = cc in
    refused _ _ _ c.in-Err.error fault c.in_ok-command.ensures.app c.in-Err.ensures.kinds (sym c.refusal.ensures.value ∙ same)
