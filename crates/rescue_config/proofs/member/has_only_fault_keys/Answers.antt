use Rattle.std.proofs.Common.{◌∙◌}
use Rattle.rescue_config.specs.Fields.{is_fault_key}
use Rattle.rescue_config.proofs.Reading.{has_only-list_all}
use Rattle.rescue_config.proofs.member.has_only_fault_keys.Goals as goal

pub returns : goal.returns
returns c = c.are_fault_keys.ensures ∙ has_only-list_all is_fault_key c.args.table.now.entries
