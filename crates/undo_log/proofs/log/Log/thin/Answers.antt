use Rattle.std.proofs.Common.{[], length, drop, length-drop, ap, ◌∙◌, arith}
use Rattle.undo_log.proofs.Thinning.{length-are_uncovered, tail_marks, thinned}
use Rattle.undo_log.proofs.log.Log.thin.Goals as goal

pub keep_marked-requires : goal.keep_marked-requires
keep_marked-requires c =
    let lent = c.deref.ensures.value ∙ ap (λ log. log.notes) c.self.view_is in
    let marks = tail_marks c.deref-2.result.now c.deref.result.now c.args.self.now.notes c.args.from (c.deref-2.ensures.value ∙ c.in_ok-marks.ensures.value) lent in
    let tail = drop c.args.from c.args.self.now.notes in
    let long = ap length marks ∙ length-are_uncovered [] tail ∙ length-drop c.args.from c.args.self.now.notes in
    let less = c.if-length-from.false in
    let all = c.length.ensures.value in
    record { each = omega (arith, long, less, all) }

pub returns-clause-ok : goal.returns-clause-ok
returns-clause-ok c =
    let lent = c.deref.ensures.value ∙ ap (λ log. log.notes) c.self.view_is in
    let marks = tail_marks c.deref-2.result.now c.deref.result.now c.args.self.now.notes c.args.from (c.deref-2.ensures.value ∙ c.in_ok-marks.ensures.value) lent in
    let less = c.if-length-from.false in
    let all = c.length.ensures.value in
    (thinned c.deref-2.result.now c.args.self.now.notes c.keep_marked.new.self.notes c.args.from (omega (arith, less, all)) marks c.keep_marked.ensures.notes).tail

pub returns-clause-fewer : goal.returns-clause-fewer
returns-clause-fewer c =
    let lent = c.deref.ensures.value ∙ ap (λ log. log.notes) c.self.view_is in
    let marks = tail_marks c.deref-2.result.now c.deref.result.now c.args.self.now.notes c.args.from (c.deref-2.ensures.value ∙ c.in_ok-marks.ensures.value) lent in
    let less = c.if-length-from.false in
    let all = c.length.ensures.value in
    (thinned c.deref-2.result.now c.args.self.now.notes c.keep_marked.new.self.notes c.args.from (omega (arith, less, all)) marks c.keep_marked.ensures.notes).fewer

pub returns-clause-pages : goal.returns-clause-pages
returns-clause-pages c =
    let lent = c.deref.ensures.value ∙ ap (λ log. log.notes) c.self.view_is in
    let marks = tail_marks c.deref-2.result.now c.deref.result.now c.args.self.now.notes c.args.from (c.deref-2.ensures.value ∙ c.in_ok-marks.ensures.value) lent in
    let less = c.if-length-from.false in
    let all = c.length.ensures.value in
    (thinned c.deref-2.result.now c.args.self.now.notes c.keep_marked.new.self.notes c.args.from (omega (arith, less, all)) marks c.keep_marked.ensures.notes).pages
