use Rattle.history_file.proofs.FileLaws.{one_history_lem}
use Rattle.history_file.proofs.reading.one_history.Goals as goal

pub returns : goal.returns
returns c = record { same = one_history_lem }
