use Rattle.std.proofs.Common.{◌∙◌}
use Rattle.rescue_config.specs.Fields.{is_file_key}
use Rattle.rescue_config.proofs.Reading.{has_only-list_all}
use Rattle.rescue_config.proofs.member.has_only_file_keys.Goals as goal

pub returns : goal.returns
returns c = c.are_file_keys.ensures ∙ has_only-list_all is_file_key c.args.table.now.entries
