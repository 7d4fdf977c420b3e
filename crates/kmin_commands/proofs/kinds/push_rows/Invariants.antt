use Rattle.std.proofs.Common.{◌≡◌, ◌++◌, take}
use Rattle.kmin_commands.specs.Messages.{rows_text}
use Rattle.kmin_commands.proofs.kinds.push_rows.Given as goal

-- `text` got the help of the rows before this one
abbrev pub invariant-loop-row : goal.invariant-loop-row
invariant-loop-row l = l.text.bytes.items ≡ l.fn.text.bytes.items ++ rows_text l.kind (take l.row-index l.rows)
