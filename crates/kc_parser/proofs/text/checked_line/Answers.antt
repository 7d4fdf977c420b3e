use Rattle.kc_parser.proofs.Common.{arith, nat_tests}
use Rattle.kc_parser.proofs.ReaderSteps.{too_long, no_text, utf8_holds, utf8_fails}
use Rattle.kc_parser.proofs.text.checked_line.Goals as goal

pub returns-then-bytes-gt-MAX_LINE_BYTES : goal.returns-then-bytes-gt-MAX_LINE_BYTES
returns-then-bytes-gt-MAX_LINE_BYTES c = λ language read number help. too_long language read number help c.args.bytes.now (grind (arith, nat_tests))

pub returns-in-Ok : goal.returns-in-Ok
returns-in-Ok c = (grind (arith, nat_tests), utf8_holds c.args.bytes.now c.in-Ok.ensures.cases.1, c.in-Ok.ensures.cases.0)

pub returns-in-Err : goal.returns-in-Err
returns-in-Err c = λ language read number help. no_text language read number help c.args.bytes.now (grind (arith, nat_tests))
    (utf8_fails c.args.bytes.now c.in-Err.ensures.cases.0)
