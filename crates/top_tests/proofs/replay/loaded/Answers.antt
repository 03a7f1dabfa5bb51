use Rattle.guest_words.proofs.ImageLaws.{loads_of_image}
use Rattle.top_tests.proofs.replay.loaded.Goals as goal

pub returns-in-Ok : goal.returns-in-Ok
returns-in-Ok c = record { loads = loads_of_image _ _ c.in-Ok.ensures.ok }
