use Rattle.std.proofs.Common.{rules}
use Rattle.guest_words.proofs.ImageLaws.{loads_of_image}
use Rattle.trial_runs.proofs.tests.tries.Goals as goal

pub try_points-requires : goal.try_points-requires
try_points-requires c = record {
  can = record {
    loads = loads_of_image _ _ c.in_ok-image.ensures.ok;
    some = search rules;
    most = search rules;
    least = search rules;
    budget = search rules;
  };
}
