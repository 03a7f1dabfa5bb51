use Rattle.rescue_report.proofs.DigitTexts.{AreWritten}
use Rattle.rescue_report.proofs.digits.put_digits.Given as goal

abbrev pub invariant-loop-rest : goal.invariant-loop-rest
invariant-loop-rest l = AreWritten l.base l.number l.fn.bytes l.bytes l.from l.rest

abbrev pub decreases-loop-rest : goal.decreases-loop-rest
decreases-loop-rest l = l.from
