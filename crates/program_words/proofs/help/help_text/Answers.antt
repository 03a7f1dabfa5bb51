use Rattle.std.proofs.Common.{◌≡◌, ◌∙◌, ◌++◌, ap, rules}
use Rattle.std.specs.Prelude.{string_bytes}
use Rattle.clap.specs.Words.{Text}
use Rattle.program_words.specs.Help.{section_of}
use Rattle.program_words.specs.declared.command_kind.CommandKind.TheVariants.{Run, Alone, List, Load, Audit, Try, Help, Version}
use Rattle.program_words.specs.declared.help.TheConstants.{HEAD, TAIL}
use Rattle.program_words.proofs.Texts.{behind}
use Rattle.program_words.proofs.help.help_text.Goals as goal

pub returns : goal.returns
returns c =
    let text = string_bytes c.push_str.new.self in
    let head : string_bytes c.in_ok-text.text ≡ HEAD.now = search rules in
    let s1 : string_bytes c.put_command.new.text ≡ string_bytes c.in_ok-text.text ++ section_of Run = search rules in
    let s2 : string_bytes c.put_command-2.new.text ≡ string_bytes c.put_command.new.text ++ section_of Alone = search rules in
    let s3 : string_bytes c.put_command-3.new.text ≡ string_bytes c.put_command-2.new.text ++ section_of List = search rules in
    let s4 : string_bytes c.put_command-4.new.text ≡ string_bytes c.put_command-3.new.text ++ section_of Load = search rules in
    let s5 : string_bytes c.put_command-5.new.text ≡ string_bytes c.put_command-4.new.text ++ section_of Audit = search rules in
    let s6 : string_bytes c.put_command-6.new.text ≡ string_bytes c.put_command-5.new.text ++ section_of Try = search rules in
    let s7 : string_bytes c.put_command-7.new.text ≡ string_bytes c.put_command-6.new.text ++ section_of Help = search rules in
    let s8 : string_bytes c.put_command-8.new.text ≡ string_bytes c.put_command-7.new.text ++ section_of Version = search rules in
    let tail : text ≡ string_bytes c.put_command-8.new.text ++ TAIL.now = search rules in
    let bytes : c.of.result ≡ text = search rules in
    let r8 = TAIL.now in
    let r7 = section_of Version ++ r8 in
    let r6 = section_of Help ++ r7 in
    let r5 = section_of Try ++ r6 in
    let r4 = section_of Audit ++ r5 in
    let r3 = section_of Load ++ r4 in
    let r2 = section_of List ++ r3 in
    let r1 = section_of Alone ++ r2 in
    let r0 = section_of Run ++ r1 in
    let p8 = behind (string_bytes c.put_command-7.new.text) (section_of Version) r8 (string_bytes c.put_command-8.new.text) text s8 tail in
    let p7 = behind (string_bytes c.put_command-6.new.text) (section_of Help) r7 (string_bytes c.put_command-7.new.text) text s7 p8 in
    let p6 = behind (string_bytes c.put_command-5.new.text) (section_of Try) r6 (string_bytes c.put_command-6.new.text) text s6 p7 in
    let p5 = behind (string_bytes c.put_command-4.new.text) (section_of Audit) r5 (string_bytes c.put_command-5.new.text) text s5 p6 in
    let p4 = behind (string_bytes c.put_command-3.new.text) (section_of Load) r4 (string_bytes c.put_command-4.new.text) text s4 p5 in
    let p3 = behind (string_bytes c.put_command-2.new.text) (section_of List) r3 (string_bytes c.put_command-3.new.text) text s3 p4 in
    let p2 = behind (string_bytes c.put_command.new.text) (section_of Alone) r2 (string_bytes c.put_command-2.new.text) text s2 p3 in
    let p1 = behind (string_bytes c.in_ok-text.text) (section_of Run) r1 (string_bytes c.put_command.new.text) text s1 p2 in
    record { ok = bytes ∙ (p1 ∙ ap (λ (t : Text). t ++ r0) head) }
