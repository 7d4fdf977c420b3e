use Rattle.std.proofs.Common.{◌≡◌, take}
use Rattle.kmin_commands.specs.Messages.{kind_text}
use Rattle.kmin_commands.proofs.kinds.kind_text.Given as goal

-- `text` is the help of the tables before this one
abbrev pub invariant-loop-table : goal.invariant-loop-table
invariant-loop-table l = l.text.bytes.items ≡ kind_text l.kind (take l.table-index l.tables)
