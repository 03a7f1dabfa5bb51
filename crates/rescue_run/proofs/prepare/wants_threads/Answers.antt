use Rattle.program_words.specs.Words.{texts}
use Rattle.rescue_run.proofs.Preparing.{needs_by}
use Rattle.rescue_run.proofs.prepare.wants_threads.Goals as goal

pub returns : goal.returns
returns c = record { value = needs_by (texts c.args.words.now) c.needs_threads.result c.needs_threads.ensures.value }
