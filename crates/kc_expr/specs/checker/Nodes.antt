-- The expressions that nodes represent.
use Rattle.std.specs.Prelude.{ℕ, ◌<◌, List, [], ◌∷◌, ◌++◌, length, slice_index_or}
use Rattle.kc_value.specs.Tri.{tri_and, tri_or}
use Rattle.kc_value.specs.declared.tri.Tri.{Tri}
use Rattle.kc_value.specs.declared.tri.Tri.TheVariants.{N}
use Rattle.kc_expr.specs.Expr.{Expr, Operand, alone, related, negated, both, either, shown, constant, named, quoted}
use Rattle.kc_expr.specs.declared.node.Leaf.{Leaf}
use Rattle.kc_expr.specs.declared.node.Leaf.TheVariants.{Constant, Name, Quoted}
use Rattle.kc_expr.specs.declared.node.Node.{Node}
use Rattle.kc_expr.specs.declared.node.Node.TheVariants.{Alone, Related, Negated, Joined, Shown}
use Rattle.kc_expr.specs.declared.node.Connective.{Connective}
use Rattle.kc_expr.specs.declared.node.Connective.TheVariants.{And, Or}

-- the operand that a node's leaf represents, by the names and then the quoted texts; one whose number is past them is empty
abbrev pub operand_of : List (List ℕ) → List (List ℕ) → Leaf → Operand
operand_of names texts (Constant t) = constant t
operand_of names texts (Name i) = named (slice_index_or names i [])
operand_of names texts (Quoted i) = quoted (slice_index_or texts i [])

-- the expression with a number in a list; the constant `n` past its end
abbrev pub at : List Expr → ℕ → Expr
at es i = slice_index_or es i (alone (constant N))

-- the expression that two others make, joined by `&&` or `||`
abbrev pub joined : Connective → Expr → Expr → Expr
joined And = both
joined Or = either

-- the value of `&&` or `||` of two values
abbrev pub joined_value : Connective → Tri → Tri → Tri
joined_value And = tri_and
joined_value Or = tri_or

-- the expression that a node represents, by the expressions of the nodes before it
abbrev pub expr_of : List (List ℕ) → List (List ℕ) → List Expr → Node → Expr
expr_of names texts es (Alone a) = alone (operand_of names texts a)
expr_of names texts es (Related op a b) = related op (operand_of names texts a) (operand_of names texts b)
expr_of names texts es (Negated i) = negated (at es i)
expr_of names texts es (Joined c i j) = joined c (at es i) (at es j)
expr_of names texts es (Shown i) = shown (at es i)

-- the expressions of some nodes and then of the nodes after them
abbrev pub exprs_after : List (List ℕ) → List (List ℕ) → List Expr → List Node → List Expr
exprs_after names texts es [] = es
exprs_after names texts es (n ∷ ns) = exprs_after names texts (es ++ expr_of names texts es n ∷ []) ns

-- the expressions that nodes represent, in the order of the nodes, by the names and then the quoted texts
abbrev pub exprs_of : List (List ℕ) → List (List ℕ) → List Node → List Expr
exprs_of names texts ns = exprs_after names texts [] ns

-- an operand's number is less than the count of names or of texts
abbrev pub LeafFits : ℕ → ℕ → Leaf → Type 0
LeafFits names texts (Constant t) = Unit {0}
LeafFits names texts (Name i) = i < names
LeafFits names texts (Quoted i) = i < texts

-- the node with the number k fits these counts of names and of quoted texts, and its parts are nodes before it
abbrev pub NodeFits : ℕ → ℕ → ℕ → Node → Type 0
NodeFits names texts k (Alone a) = LeafFits names texts a
NodeFits names texts k (Related op a b) = LeafFits names texts a × LeafFits names texts b
NodeFits names texts k (Negated i) = i < k
NodeFits names texts k (Joined c i j) = (i < k) × (j < k)
NodeFits names texts k (Shown i) = i < k

-- the node, a constant `n`, in place of one past the end of a list
abbrev pub some_node : Node
some_node = Alone (Constant N)

-- each node of a list has operands that fit these counts of names and of quoted texts, and its parts are nodes before it
abbrev pub AreNodes : ℕ → ℕ → List Node → Type 0
AreNodes names texts ns = (k : ℕ) → k < length ns → NodeFits names texts k (slice_index_or ns k some_node)
