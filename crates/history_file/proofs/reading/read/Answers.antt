use Rattle.std.proofs.Common.{arith}
use Rattle.history_file.specs.Reading.{head_and_entries}
use Rattle.history_file.proofs.FileLaws.{is_found, is_only}
use Rattle.history_file.proofs.PlaceLaws.{inside_whole}
use Rattle.history_file.proofs.reading.read.Goals as goal

pub returns-clause-found : goal.returns-clause-found
returns-clause-found c = is_found head_and_entries c.args.bytes.now c.read_whole.result (λ i. omega (arith, c.type_inv.bytes i)) c.read_whole.ensures

pub returns-clause-only : goal.returns-clause-only
returns-clause-only c = λ head entries h. is_only head_and_entries c.args.bytes.now head entries c.read_whole.result h c.read_whole.ensures

pub returns-clause-inside : goal.returns-clause-inside
returns-clause-inside c = inside_whole head_and_entries c.args.bytes.now c.read_whole.result c.read_whole.ensures
