use Rattle.std.proofs.Common.{◌≡◌, ◌++◌, ap, sym, ◌∙◌, subst, string_bytes}
use Rattle.std.specs.Prelude.{OnOk}
use Rattle.rescue_report.specs.Rescues.{rescue_lines, rescued_lines}
use Rattle.rescue_report.proofs.Insides.{rescue_lines-Rescued}
use Rattle.rescue_report.proofs.report.+rescues.Goals as goal

pub put_entry-returns-in-Rescued : goal.put_entry-returns-in-Rescued
put_entry-returns-in-Rescued t c =
    let r = c.in-Rescued in
    record {
      ok =
          subst (λ text. OnOk c.put_rescue.result (string_bytes c.put_rescue.new.text ≡ string_bytes c.args.text.now ++ text))
          (ap (λ xs. rescued_lines c.args.points.now r.hart r.point r.fault xs c.args.depth) c.as_slice.ensures
          ∙ sym (ap (λ e. rescue_lines c.args.points.now e c.args.depth) r.is ∙ rescue_lines-Rescued c.args.points.now r.hart r.point r.fault r.inside c.args.depth))
          c.put_rescue.ensures.ok;
    }
