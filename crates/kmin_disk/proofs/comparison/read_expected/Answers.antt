use Rattle.std.proofs.Common.{◌≡◌, false, take}
use Rattle.std.specs.Str.{bytes_eq}
use Rattle.kmin_disk.proofs.ReadTexts.{another_text}
use Rattle.kmin_disk.proofs.comparison.read_expected.Goals as goal

pub returns-else-eq-clause-different : goal.returns-else-eq-clause-different
returns-else-eq-clause-different g c = λ left known none is.
    let count = c.in_ok-count.count in
    let part = take count c.read_some.new.buf in
    let text = c.args.expected.now in
    let was = c.if-eq.ensures in
    let not = c.if-eq.false in
    let other : bytes_eq part (take count text) ≡ false = (cc) in
    another_text _ _ left text part count c.in_ok-count.ensures.bytes.0 known c.in_ok-count.ensures.bound.1 other is
