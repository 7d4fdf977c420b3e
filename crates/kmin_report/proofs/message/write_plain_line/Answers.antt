use Rattle.kmin_report.proofs.message.write_plain_line.Goals as goal

pub returns-in-OutputFault-clause-part : goal.returns-in-OutputFault-clause-part
returns-in-OutputFault-clause-part g c = rw c.in-OutputFault.is c.write_pieces.ensures.part

pub returns-in-NotRegular-clause-part : goal.returns-in-NotRegular-clause-part
returns-in-NotRegular-clause-part g c =
    rw c.in-NotRegular.is (rw c.as_bytes-in-NotRegular.ensures.value at c.write_place-in-NotRegular.ensures.part)

pub returns-in-Unwritten-clause-whole : goal.returns-in-Unwritten-clause-whole
returns-in-Unwritten-clause-whole g c =
    rw c.in-Unwritten.is (rw c.as_bytes-in-Unwritten.ensures.value at c.write_pieces-in-Unwritten.ensures.whole)

pub returns-in-Unwritten-clause-part : goal.returns-in-Unwritten-clause-part
returns-in-Unwritten-clause-part g c =
    rw c.in-Unwritten.is (rw c.as_bytes-in-Unwritten.ensures.value at c.write_pieces-in-Unwritten.ensures.part)
