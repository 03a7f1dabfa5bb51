use Rattle.std.proofs.Common.{refl}
use Rattle.hart_step.proofs.Blanking.{blank_moved}
use Rattle.hart_step.proofs.known.forget.Goals as goal

pub returns : goal.returns
returns c = record { blank = blank_moved c.args.table.now.items c.move_elsewhere.new.table.items _ _ c.move_elsewhere.ensures.value c.requires.long refl refl }
