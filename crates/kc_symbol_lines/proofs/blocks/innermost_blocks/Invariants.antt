use Rattle.kc_symbol_lines.proofs.Common.{List, Exprs, Group, HasLines}
use Rattle.kc_symbol_lines.proofs.BlockLaws.{IsWalked}
use Rattle.kc_symbol_lines.proofs.blocks.innermost_blocks.Given as goal

abbrev pub invariant-loop-i : goal.invariant-loop-i
invariant-loop-i l = (exprs : Exprs) (read : List Group) → HasLines exprs l.lines read → IsWalked l.i l.blocks.items l.block read
