use Rattle.std.proofs.Common.{◌≡◌, rules}
use Rattle.load_maker.specs.File.{load_file}
use Rattle.load_maker.specs.Program.{points_file}
use Rattle.load_maker.proofs.Accepted.{AreAccepted-load}
use Rattle.load_maker.proofs.made.make.Goals as goal

pub returns-clause-points : goal.returns-clause-points
unfolding points_file
returns-clause-points c = search rules

pub returns-clause-accepted : goal.returns-clause-accepted
returns-clause-accepted c =
    let elf : c.of.result ≡ load_file = search rules in
    let points : c.of-2.result ≡ points_file = returns-clause-points c in
    AreAccepted-load _ _ elf points
