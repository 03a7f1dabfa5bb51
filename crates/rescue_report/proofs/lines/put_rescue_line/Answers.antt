use Rattle.std.proofs.Common.{◌++◌, ap, ◌∙◌, codes, string_bytes}
use Rattle.std.specs.Fmt.{decimal}
use Rattle.guest_words.specs.Names.{fault_name}
use Rattle.rescue_report.specs.Numbers.{code_text, hexadecimal}
use Rattle.rescue_report.proofs.Appending.{rescue_words}
use Rattle.rescue_report.proofs.lines.put_rescue_line.Goals as goal

pub returns : goal.returns
returns c =
    let before = string_bytes c.put_hexadecimal.new.text in
    let named = c.in_ok-write-2.ensures.bytes ∙ ap (λ name. before ++ (codes " fault " ++ (name ++ codes " pc "))) c.name-name.ensures.text in
    record {
      ok = rescue_words _ _ _ _ _ _ _ _
          (codes "rescue depth ") (decimal c.args.depth) (codes " hart ") (decimal c.args.hart) (codes " point ") (hexadecimal c.args.point.entry)
          (codes " fault ") (fault_name c.args.fault.name) (codes " pc ") (hexadecimal c.args.fault.pc)
          (codes " steps ") (decimal c.args.inside.steps) (codes " records ") (decimal c.args.inside.records) (codes " code ") (code_text c.args.code) (codes "\n")
          c.in_ok-write.ensures.bytes c.in_ok-put_hexadecimal.ensures.ok named c.in_ok-put_hexadecimal-2.ensures.ok
          c.in_ok-write-3.ensures.bytes c.in_ok-put_code.ensures.ok c.in_ok-push_str.ensures.bytes;
    }
