use Rattle.std.proofs.Common.{◌∙◌}
use Rattle.rescue_config.specs.Fields.{is_point_key}
use Rattle.rescue_config.proofs.Reading.{has_only-list_all}
use Rattle.rescue_config.proofs.member.has_only_point_keys.Goals as goal

pub returns : goal.returns
returns c = c.are_point_keys.ensures ∙ has_only-list_all (is_point_key c.args.version) c.args.table.now.entries
