-- Operands of expressions, as callers see them.
use Rattle.std.specs.Prelude.{ℕ, ◌<◌, List, [], length, Option, Some, None, slice_index_or}
use Rattle.kc_expr.specs.declared.operand.Operand.{Operand as OperandView}
use Rattle.kc_expr.specs.declared.operand.Operand.TheVariants.{Name, Quoted, Tri}
use Rattle.kc_expr.specs.Expr.{Operand, Expr, constant, named, quoted, alone}

-- the operand that an expression is, if it is just an operand
abbrev pub operand_alone : Expr → Option Operand
operand_alone (alone a) = Some a
operand_alone e = None

-- an operand of the code as the definitions see it, by the list of names
abbrev pub operand_of_ref : List (List ℕ) → OperandView → Operand
operand_of_ref names (Name i) = named (slice_index_or names i [])
operand_of_ref names (Quoted text) = quoted text.now
operand_of_ref names (Tri t) = constant t

-- if an operand of the code is a name, the name's number is an index in the list of names
abbrev pub HasKnownName : List (List ℕ) → OperandView → Type 0
HasKnownName names (Name i) = i < length names
HasKnownName names operand = Unit {0}
