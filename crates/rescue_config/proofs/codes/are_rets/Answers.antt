use Rattle.std.proofs.Common.{◌∙◌}
use Rattle.rescue_config.proofs.Reading.{are_rets-list_all}
use Rattle.rescue_config.proofs.codes.are_rets.Goals as goal

pub returns : goal.returns
returns c = c.are_values_rets.ensures ∙ are_rets-list_all c.args.table.now.entries
