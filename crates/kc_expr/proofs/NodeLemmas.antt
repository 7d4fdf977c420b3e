-- The expressions of nodes, one after another.
use Rattle.kc_expr.proofs.Common.{◌≡◌, ℕ, suc, zero, ◌+◌, ◌<◌, ◌≤◌, List, [], ◌∷◌, ◌++◌, length, get_or, refl, ap, sym, ◌∙◌, arith, length-append, inl, inr, ◌⊎◌, get_or_append_left, get_or-append_seam, N, M, Y, tri_and, tri_or, Expr, alone, constant, negated, shown, Node, Represents}
use Rattle.kc_expr.proofs.Common.{cases_lt, expr_of, exprs_after, exprs_of, NodeFits, some_node}
use Rattle.kc_value.specs.declared.tri.Tri.{Tri}
use Rattle.kc_expr.specs.Expr.{Environment, value}
use Rattle.kc_expr.specs.declared.node.Node.TheVariants.{Negated, Joined, Shown}
use Rattle.kc_expr.specs.declared.node.Connective.{Connective}
use Rattle.kc_expr.specs.declared.node.Connective.TheVariants.{And, Or}
use Rattle.kc_expr.specs.checker.Nodes.{at, AreNodes, joined, joined_value}

tri_and_comm : (a b : Tri) → tri_and a b ≡ tri_and b a
tri_and_comm N N = refl
tri_and_comm N M = refl
tri_and_comm N Y = refl
tri_and_comm _ N = refl
tri_and_comm _ M = refl
tri_and_comm _ Y = refl

tri_and_assoc : (a b c : Tri) → tri_and (tri_and a b) c ≡ tri_and a (tri_and b c)
tri_and_assoc N b c = refl
tri_and_assoc Y b c = refl
tri_and_assoc M N c = refl
tri_and_assoc M _ N = refl
tri_and_assoc M _ M = refl
tri_and_assoc M _ Y = refl

tri_or_comm : (a b : Tri) → tri_or a b ≡ tri_or b a
tri_or_comm N N = refl
tri_or_comm N M = refl
tri_or_comm N Y = refl
tri_or_comm _ N = refl
tri_or_comm _ M = refl
tri_or_comm _ Y = refl

tri_or_assoc : (a b c : Tri) → tri_or (tri_or a b) c ≡ tri_or a (tri_or b c)
tri_or_assoc N b c = refl
tri_or_assoc Y b c = refl
tri_or_assoc M N c = refl
tri_or_assoc M _ N = refl
tri_or_assoc M _ M = refl
tri_or_assoc M _ Y = refl

joined_comm : (c : Connective) (a b : Tri) → joined_value c a b ≡ joined_value c b a
joined_comm And = tri_and_comm
joined_comm Or = tri_or_comm

joined_assoc : (c : Connective) (a b d : Tri) → joined_value c (joined_value c a b) d ≡ joined_value c a (joined_value c b d)
joined_assoc And = tri_and_assoc
joined_assoc Or = tri_or_assoc

-- the value of expressions that are joined is that of their values
pub value_joined : (c : Connective) (names : Environment) (a b : Expr) → value names (joined c a b) ≡ joined_value c (value names a) (value names b)
value_joined And names a b = refl
value_joined Or names a b = refl

pub chain_start : (c : Connective) (value left right : Tri) → value ≡ right → joined_value c value left ≡ joined_value c left right
chain_start c value left right e = rw e (joined_comm c right left)

-- a value that is joined with a right value and then with a left one is the value joined with both
pub chain_more : (c : Connective) (new so_far found left right here all : Tri) → new ≡ joined_value c so_far found → found ≡ right
    → here ≡ joined_value c left right → joined_value c so_far here ≡ all → joined_value c new left ≡ all
chain_more c new so_far found left right here all e f h k = rw (e, f) (joined_assoc c so_far right left ∙ ap (joined_value c so_far) (joined_comm c right left)
    ∙ ap (joined_value c so_far) (sym h) ∙ k)

module _ (names texts : List (List ℕ)) where
  -- the expressions of nodes stay the same when nodes are appended
  pub kept : (es : List Expr) (ns : List Node) (i : ℕ) → i < length es → at (exprs_after names texts es ns) i ≡ at es i
  kept es [] i h = refl
  kept es (n ∷ ns) i h = kept (es ++ expr_of names texts es n ∷ []) ns i (omega (arith, length-append es (expr_of names texts es n ∷ [])))
      ∙ get_or_append_left es (expr_of names texts es n ∷ []) (alone (constant N)) i h

  -- a node over expressions that are kept is the same expression
  same_over : (es fs : List Expr) (x y k : ℕ) (n : Node) → NodeFits x y k n → ((i : ℕ) → i < k → at fs i ≡ at es i)
      → expr_of names texts es n ≡ expr_of names texts fs n
  same_over es fs x y k (Negated i) h e = ap negated (sym (e i h))
  same_over es fs x y k (Joined c i j) h e = ap (λ a. joined c a (at es j)) (sym (e i h.0)) ∙ ap (joined c (at fs i)) (sym (e j h.1))
  same_over es fs x y k (Shown i) h e = ap shown (sym (e i h))
  same_over es fs x y k _ h e = refl

  pub step_at : (x y : ℕ) (es : List Expr) (ns : List Node) (i at_i : ℕ) → at_i ≡ length es + i
      → ((k m : ℕ) → m ≡ length es + k → k < length ns → NodeFits x y m (get_or ns k some_node)) → i < length ns
      → at (exprs_after names texts es ns) at_i ≡ expr_of names texts (exprs_after names texts es ns) (get_or ns i some_node)
  step_at x y es [] i at_i p f h = absurd (omega arith)
  step_at x y es (n ∷ ns) zero at_i p f h =
      let more : List Expr = es ++ expr_of names texts es n ∷ [] in
      let len : length more ≡ length es + 1 = length-append es (expr_of names texts es n ∷ []) in
      let here : at_i ≡ length es = omega arith in
      let fits : NodeFits x y (length es) n = f 0 (length es) (omega arith) (omega arith) in
      let seam : at more (length es) ≡ expr_of names texts es n = get_or-append_seam es (expr_of names texts es n) [] (alone (constant N)) in
      ap (at (exprs_after names texts more ns)) here ∙ kept more ns (length es) (omega (arith, len)) ∙ seam
      ∙ same_over es (exprs_after names texts more ns) x y (length es) n fits (λ i l. kept more ns i (omega (arith, len))
      ∙ get_or_append_left es (expr_of names texts es n ∷ []) (alone (constant N)) i l)
  step_at x y es (n ∷ ns) (suc i) at_i p f h =
      let more : List Expr = es ++ expr_of names texts es n ∷ [] in
      let len : length more ≡ length es + 1 = length-append es (expr_of names texts es n ∷ []) in
      step_at x y more ns i at_i (omega (arith, len)) (λ k m e l. f (suc k) m (omega (arith, len)) (omega arith)) (omega arith)

  -- the expression that a node represents is also the one that it has over the expressions of all nodes, not just of those before
  -- it
  pub node_at : (x y : ℕ) (ns : List Node) (i : ℕ) → AreNodes x y ns → i < length ns → at (exprs_of names texts ns) i
      ≡ expr_of names texts (exprs_of names texts ns) (get_or ns i some_node)
  node_at x y ns i f h = step_at x y [] ns i i (omega arith) (λ k m e l. let g : k ≡ m = omega arith in rw (← g) (f k l)) h

  pub at_node : (x y : ℕ) (ns : List Node) (i : ℕ) (n : Node) → AreNodes x y ns → i < length ns → get_or ns i some_node ≡ n
      → at (exprs_of names texts ns) i ≡ expr_of names texts (exprs_of names texts ns) n
  at_node x y ns i n f h e = node_at x y ns i f h ∙ ap (expr_of names texts (exprs_of names texts ns)) e

  pub length-exprs : (es : List Expr) (ns : List Node) → length (exprs_after names texts es ns) ≡ length es + length ns
  length-exprs es [] = omega arith
  length-exprs es (n ∷ ns) = length-exprs (es ++ expr_of names texts es n ∷ []) ns ∙ omega (arith, length-append es (expr_of names texts es n ∷ []))

  pub exprs-push : (es : List Expr) (ns : List Node) (n : Node) → exprs_after names texts es (ns ++ n ∷ [])
      ≡ exprs_after names texts es ns ++ expr_of names texts (exprs_after names texts es ns) n ∷ []
  exprs-push es [] n = refl
  exprs-push es (m ∷ ns) n = exprs-push (es ++ expr_of names texts es m ∷ []) ns n

  pub represents_last : (ns : List Node) (n : Node) (id : ℕ) → id ≡ length ns
      → Represents (record { names = names; nodes = exprs_of names texts (ns ++ n ∷ []) }) id (expr_of names texts (exprs_of names texts ns) n)
  represents_last ns n id e =
      let es : List Expr = exprs_of names texts ns in
      let last : Expr = expr_of names texts es n in
      let same : id ≡ length es = omega (arith, e, length-exprs [] ns) in
      record {
        within = omega (arith, e, length-exprs [] (ns ++ n ∷ []), length-append ns (n ∷ []));
        is = ap (λ fs. at fs id) (exprs-push [] ns n) ∙ ap (at (es ++ last ∷ [])) same ∙ get_or-append_seam es last [] (alone (constant N));
      }

pub nodes_push : (x y : ℕ) (ns : List Node) (n : Node) → AreNodes x y ns → NodeFits x y (length ns) n → AreNodes x y (ns ++ n ∷ [])
nodes_push x y ns n f h k l = nodes_push_by k (cases_lt k (length ns)) l
  where
    nodes_push_by : (k : ℕ) → (k < length ns) ⊎ (length ns ≤ k) → k < length (ns ++ n ∷ []) → NodeFits x y k (get_or (ns ++ n ∷ []) k some_node)
    nodes_push_by k (inl b) l = rw (get_or_append_left ns (n ∷ []) some_node k b) (f k b)
    nodes_push_by k (inr b) l = let e : k ≡ length ns = omega (arith, length-append ns (n ∷ [])) in rw e (rw (get_or-append_seam ns n [] some_node) h)
