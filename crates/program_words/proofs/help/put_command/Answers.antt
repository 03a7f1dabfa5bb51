use Rattle.std.proofs.Common.{◌≡◌, ◌++◌, codes, rules}
use Rattle.std.specs.Prelude.{string_bytes}
use Rattle.program_words.specs.Help.{purpose_of, section_of, usage_of}
use Rattle.program_words.proofs.Texts.{behind}
use Rattle.program_words.proofs.help.put_command.Goals as goal

pub returns : goal.returns
unfolding section_of
returns c =
    let line : string_bytes c.push_str.new.self ≡ string_bytes c.args.text.now ++ codes "\n" = search rules in
    let usage : string_bytes c.push_str-2.new.self ≡ string_bytes c.push_str.new.self ++ usage_of c.args.kind = search rules in
    let purpose : string_bytes c.push_str-3.new.self ≡ string_bytes c.push_str-2.new.self ++ purpose_of c.args.kind = search rules in
    record {
      ok = behind (string_bytes c.args.text.now) (codes "\n") (usage_of c.args.kind ++ purpose_of c.args.kind) (string_bytes c.push_str.new.self) (string_bytes c.push_str-3.new.self) line
          (behind (string_bytes c.push_str.new.self) (usage_of c.args.kind) (purpose_of c.args.kind) (string_bytes c.push_str-2.new.self) (string_bytes c.push_str-3.new.self) usage purpose);
    }
