use Rattle.rescue_run.proofs.Trials.{unlisted_elf}
use Rattle.rescue_run.proofs.trying.listed_image.Goals as goal

pub returns-in-Err-clause-cause : goal.returns-in-Err-clause-cause
returns-in-Err-clause-cause c = unlisted_elf c.args.program.now c.in-Err.refusal c.in-Err.ensures.cause
