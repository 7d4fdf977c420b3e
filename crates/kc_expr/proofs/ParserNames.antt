-- The names that the parser appends.
use Rattle.kc_expr.proofs.Common.{◌≡◌, ℕ, Bool, true, false, List, [], ◌∷◌, ◌++◌, refl, ap, sym, ◌∙◌, N, Leaf, Constant, NodeStore, Relop, Represents, node_expr, Expr, Operand, alone, related, negated, as_condition, operand_names, names_in, with_name, operand_of, stored_names, exprs_in, IsSound}
use Rattle.kc_expr.proofs.Common.{Extends, HasNamesOf}
use Rattle.kc_expr.specs.between.Names.{with_names}
use Rattle.kc_expr.specs.checker.ParserResults.{names_of_m}
use Rattle.kc_expr.proofs.StoreLemmas.{represents_later}
use Rattle.kc_expr.specs.declared.node.Connective.{Connective}
use Rattle.kc_expr.specs.declared.node.Connective.TheVariants.{And, Or}
use Rattle.kc_expr.specs.checker.Nodes.{joined}

with_names-append : (xs ys names : List (List ℕ)) → with_names (xs ++ ys) names ≡ with_names ys (with_names xs names)
with_names-append [] ys names = refl
with_names-append (x ∷ xs) ys names = with_names-append xs ys (with_name x names)

-- the names of one part, and then those of the other
both_added : (xs ys old one two : List (List ℕ)) → one ≡ with_names xs old → two ≡ with_names ys one → two ≡ with_names (xs ++ ys) old
both_added xs ys old one two e f = f ∙ ap (with_names ys) e ∙ sym (with_names-append xs ys old)

alone_names : (condition : Bool) (leaf : Leaf) (names texts : List (List ℕ)) → operand_names (operand_of names texts leaf) ++ names_of_m condition leaf
    ≡ names_in (as_condition condition (alone (operand_of names texts leaf)))
alone_names true (Constant N) names texts = refl
alone_names true _ names texts = refl
alone_names false (Constant N) names texts = refl
alone_names false _ names texts = refl

joined_names : (c : Connective) (a b : Expr) → names_in (joined c a b) ≡ names_in a ++ names_in b
joined_names And a b = refl
joined_names Or a b = refl

-- no name is added for a constant that isn't `m`, nor outside a condition
module _ (old new : NodeStore) (id : ℕ) where
  of_expr : (e : Expr) → Represents (exprs_in new) id e → stored_names new ≡ with_names (names_in e) (stored_names old) → HasNamesOf old new id
  of_expr e s h = h ∙ ap (λ x. with_names (names_in x) (stored_names old)) (sym s.is)

  pub read_alone : (s : NodeStore) (condition : Bool) (leaf : Leaf) → stored_names s ≡ with_names (operand_names (operand_of (stored_names s) s.texts.items leaf))
      (stored_names old) → stored_names new ≡ with_names (names_of_m condition leaf) (stored_names s)
      → Represents (exprs_in new) id (as_condition condition (alone (operand_of (stored_names s) s.texts.items leaf))) → HasNamesOf old new id
  read_alone s condition leaf e f h =
      of_expr (as_condition condition (alone (operand_of (stored_names s) s.texts.items leaf))) h
      (both_added (operand_names (operand_of (stored_names s) s.texts.items leaf)) (names_of_m condition leaf) (stored_names old) (stored_names s)
      (stored_names new) e f ∙ ap (λ ws. with_names ws (stored_names old)) (alone_names condition leaf (stored_names s) s.texts.items))

  pub read_related : (one two : NodeStore) (op : Relop) (a0 a b : Operand) → stored_names one ≡ with_names (operand_names a0) (stored_names old)
      → stored_names two ≡ with_names (operand_names b) (stored_names one) → stored_names new ≡ stored_names two → a ≡ a0
      → Represents (exprs_in new) id (related op a b) → HasNamesOf old new id
  read_related one two op a0 a b e f g same h =
      of_expr (related op a b) h
      (g ∙ both_added (operand_names a) (operand_names b) (stored_names old) (stored_names one) (stored_names two)
      (e ∙ ap (λ o. with_names (operand_names o) (stored_names old)) (sym same)) f)

  pub read_negated : (s : NodeStore) (part : ℕ) → HasNamesOf old s part → stored_names new ≡ stored_names s
      → Represents (exprs_in new) id (negated (node_expr (exprs_in s) part)) → HasNamesOf old new id
  read_negated s part e f h = of_expr (negated (node_expr (exprs_in s) part)) h (f ∙ e)

  pub read_joined : (c : Connective) (s0 s1 : NodeStore) (left right : ℕ) (e : Expr) → HasNamesOf old s0 left → IsSound s0 → Extends s0 s1
      → Represents (exprs_in s0) left e → HasNamesOf s0 s1 right → stored_names new ≡ stored_names s1
      → Represents (exprs_in new) id (joined c (node_expr (exprs_in s1) left) (node_expr (exprs_in s1) right)) → HasNamesOf old new id
  read_joined c s0 s1 left right e first sound x at second same h =
      let kept = (represents_later s0 s1 left e sound x at).is ∙ sym at.is in
      let a = node_expr (exprs_in s1) left in
      let b = node_expr (exprs_in s1) right in
      of_expr (joined c a b) h
      (same ∙ both_added (names_in a) (names_in b) (stored_names old) (stored_names s0) (stored_names s1)
      (first ∙ ap (λ v. with_names (names_in v) (stored_names old)) (sym kept)) second
      ∙ ap (λ ws. with_names ws (stored_names old)) (sym (joined_names c a b)))
