use Rattle.std.proofs.Common.{arith}
use Rattle.rescue_report.proofs.DigitTexts.{AreWritten-none, AreWritten-next, AreWritten-all, some-left}
use Rattle.rescue_report.proofs.digits.put_digits.Goals as goal

pub loop-rest-init : goal.loop-rest-init
loop-rest-init c = AreWritten-none c.args.base c.args.number c.args.bytes.now c.requires.some c.requires.fits

pub overflow_sub-from-in-loop-rest : goal.overflow_sub-from-in-loop-rest
overflow_sub-from-in-loop-rest c =
    let left = some-left c.args.base c.loop-rest.rest c.loop-rest.from (omega arith) c.loop-rest.invariant.fits in
    omega arith

pub loop-rest-smaller : goal.loop-rest-smaller
loop-rest-smaller c =
    let left = some-left c.args.base c.loop-rest.rest c.loop-rest.from (omega arith) c.loop-rest.invariant.fits in
    omega arith

pub loop-rest-preserved : goal.loop-rest-preserved
loop-rest-preserved c =
    AreWritten-next c.args.base c.args.number c.args.bytes.now c.loop-rest.bytes c.loop-rest.from c.loop-rest.rest (omega arith) (omega arith)
    c.digit.result c.digit.ensures.glyph (omega arith) c.loop-rest.invariant

pub returns-clause-digits : goal.returns-clause-digits
returns-clause-digits c =
    AreWritten-all c.args.base c.args.number c.args.bytes.now c.loop-rest.bytes c.loop-rest.from c.loop-rest.rest (omega arith) (omega arith)
    c.digit-2.result c.digit-2.ensures.glyph (omega arith) c.loop-rest.invariant
