-- The names in an expression, as they are met.
use Rattle.kc_expr.proofs.Common.{◌≡◌, ℕ, suc, zero, ◌<◌, ◌++◌, ◌⊎◌, inl, inr, List, [], ◌∷◌, length, get_or, map, Some, None, refl, ap, sym, ◌∙◌, subst, append_assoc, arith, rules, eqb, slice_index_or, length-map, Leaf, Node, Alone, NodeStore, Exprs, node_expr, Expr, negated, both, either, shown}
use Rattle.kc_expr.proofs.Common.{names_in, operand_of, expr_of, some_node, stored_names, exprs_in, IsSound, names_in_reverse, AreDistinct}
use Rattle.std.specs.Prelude.{Contains}
use Rattle.kc_expr.specs.checker.Nodes.{joined}
use Rattle.kc_expr.specs.declared.node.Connective.{Connective}
use Rattle.kc_expr.specs.declared.node.Connective.TheVariants.{And, Or}
use Rattle.kc_expr.specs.declared.node.Node.TheVariants.{Joined}
use Rattle.std.proofs.lemmas.List.Kept.{Contains-dedup_nat, Contains-from_dedup}
use Rattle.std.proofs.lemmas.List.Sorted.{Contains-permutation, IsPermutation-sym}
use Rattle.std.specs.List.{dedup}
use Rattle.std.specs.List.Sorted.{IsPermutation}
use Rattle.std.specs.List.{All}
use Rattle.std.proofs.lemmas.List.Elements.{Contains-append_left, Contains-append_right, Contains-append_cases, All-contains}
use Rattle.kc_expr.specs.between.Operand.{operand_alone}
use Rattle.kc_expr.proofs.StoreLemmas.{within_nodes, node_of}

-- a node that is no operand represents an expression that isn't just an operand
pub not_alone : (names texts : List (List ℕ)) (es : List Expr) (n : Node) → ((a : Leaf) → n ≡ Alone a → ⊥) → operand_alone (expr_of names texts es n) ≡ None
not_alone names texts es (Alone a) h = absurd (h a refl)
not_alone names texts es (Joined And i j) h = refl
not_alone names texts es (Joined Or i j) h = refl
not_alone names texts es _ h = refl

-- the operand of an arena's expression, by its node
module _ (a : Exprs) (s : NodeStore) (i index : ℕ) (found : Node) (view : exprs_in s ≡ a) (same : index ≡ i) (sound : IsSound s) (within : i < length a.nodes)
    (here : found ≡ get_or s.nodes.items index some_node) where
  operand_alone_is : (n : Node) → found ≡ n → operand_alone (node_expr a i) ≡ operand_alone (expr_of (stored_names s) s.texts.items (exprs_in s).nodes n)
  operand_alone_is n e =
      let h : index < length s.nodes.items = rw same (within_nodes a s i view within) in
      ap (λ (x : Exprs). operand_alone (node_expr x i)) (sym view) ∙ ap (λ k. operand_alone (node_expr (exprs_in s) k)) (sym same)
      ∙ ap operand_alone (node_of s index found n sound h here e)

  pub operand_is : (leaf : Leaf) → found ≡ Alone leaf → operand_alone (node_expr a i) ≡ Some (operand_of (stored_names s) s.texts.items leaf)
  operand_is leaf e = operand_alone_is (Alone leaf) e

  pub operand_none : ((x : Leaf) → found ≡ Alone x → ⊥) → operand_alone (node_expr a i) ≡ None
  operand_none h = operand_alone_is found refl ∙ not_alone (stored_names s) s.texts.items (exprs_in s).nodes found h

-- the names are the same from either side
module _ (x : List ℕ) where
  swapped : (xs ys vs ws : List (List ℕ)) → (Contains xs x → Contains vs x) → (Contains ys x → Contains ws x) → Contains (xs ++ ys) x → Contains (ws ++ vs) x
  swapped xs ys vs ws f g h = by_side (Contains-append_cases xs ys x h)
    where
      by_side : Contains xs x ⊎ Contains ys x → Contains (ws ++ vs) x
      by_side (inl l) = Contains-append_right ws vs x (f l)
      by_side (inr r) = Contains-append_left ws vs x (g r)

  pub to_words : (e : Expr) → Contains (names_in e) x → Contains (names_in_reverse e) x
  to_words (negated e) h = to_words e h
  to_words (shown e) h = to_words e h
  to_words (both a b) h = swapped (names_in a) (names_in b) (names_in_reverse a) (names_in_reverse b) (to_words a) (to_words b) h
  to_words (either a b) h = swapped (names_in a) (names_in b) (names_in_reverse a) (names_in_reverse b) (to_words a) (to_words b) h
  to_words _ h = h

  pub from_words : (e : Expr) → Contains (names_in_reverse e) x → Contains (names_in e) x
  from_words (negated e) h = from_words e h
  from_words (shown e) h = from_words e h
  from_words (both a b) h = swapped (names_in_reverse b) (names_in_reverse a) (names_in b) (names_in a) (from_words b) (from_words a) h
  from_words (either a b) h = swapped (names_in_reverse b) (names_in_reverse a) (names_in b) (names_in a) (from_words b) (from_words a) h
  from_words _ h = h

pub reverse_joined : (c : Connective) (a b : Expr) → names_in_reverse (joined c a b) ≡ names_in_reverse b ++ names_in_reverse a
reverse_joined And a b = refl
reverse_joined Or a b = refl

-- names that were appended for the right part of an expression, and then for its left part, are those of both parts
pub names_of_both : (front right left found all : List (List ℕ)) → found ≡ front ++ right → front ++ (right ++ left) ≡ all → found ++ left ≡ all
names_of_both front right left found all e h = rw e (append_assoc front right left ∙ h)

-- numbers of names, and the names
got_map : {X Y : Type 0} (f : X → Y) (xs : List X) (k : ℕ) (d : X) → get_or (map f xs) k (f d) ≡ f (get_or xs k d)
got_map f [] k d = refl
got_map f (x ∷ xs) zero d = refl
got_map f (x ∷ xs) (suc k) d = got_map f xs k d

contained_map : {X Y : Type 0} (f : X → Y) (xs : List X) (i : X) → Contains xs i → Contains (map f xs) (f i)
contained_map f xs i (k, l, e) = (k, omega (arith, l, length-map xs f), got_map f xs k i ∙ ap f e)

found_map : {X Y : Type 0} (f : X → Y) (xs : List X) (y : Y) (k : ℕ) → k < length (map f xs) → get_or (map f xs) k y ≡ y → (j : X) × Contains xs j × (f j ≡ y)
found_map f [] y k l e = absurd (omega (arith, l))
found_map f (x ∷ xs) y zero l e = (x, (0, omega arith, refl), e)
found_map f (x ∷ xs) y (suc k) l e = let (j, c, q) = found_map f xs y k (omega arith) e in (j, Contains-append_right (x ∷ []) xs j c, q)

-- what was met is what is in the expression
module _ (names : List (List ℕ)) (distinct : AreDistinct names) (found : List ℕ) (e : Expr) (names_are : map (λ i. slice_index_or names i []) found
    ≡ names_in_reverse e) (held : All (λ i. i < length names) found) (i : ℕ) where
  pub found_in : Contains found i → (i < length names) × Contains (names_in e) (slice_index_or names i [])
  found_in c =
      let inside : Contains (names_in_reverse e) (slice_index_or names i []) =
      subst (λ xs. Contains xs (slice_index_or names i [])) names_are (contained_map (λ i. slice_index_or names i []) found i c) in
      (All-contains (λ i. i < length names) found i held c, from_words (slice_index_or names i []) e inside)

  pub in_found : (i < length names) × Contains (names_in e) (slice_index_or names i []) → Contains found i
  in_found h =
      let inside : Contains (map (λ i. slice_index_or names i []) found) (slice_index_or names i []) =
      subst (λ xs. Contains xs (slice_index_or names i [])) (sym names_are) (to_words (slice_index_or names i []) e h.1) in
      let (j, c, q) = found_map (λ i. slice_index_or names i []) found (slice_index_or names i []) inside.0 inside.1 inside.2 in
      subst (Contains found) (distinct j i (All-contains (λ i. i < length names) found j held c) h.0 q) c

none_held : (P : ℕ → Type 0) (xs : List ℕ) → xs ≡ [] → All P xs
none_held P xs e = rw e (search rules)

-- what was met is kept through sorting and taking out repeats, and it is what callers see
module _ (a : Exprs) (s : NodeStore) (view : exprs_in s ≡ a) (id index : ℕ) (same : index ≡ id) (sound : IsSound s) (none found sorted last : List ℕ)
    (empty : none ≡ [])
    (names_are : map (λ i. slice_index_or (stored_names s) i []) found ≡ map (λ i. slice_index_or (stored_names s) i []) none ++ names_in_reverse
    (node_expr (exprs_in s) index))
    (held : All (λ i. i < length (stored_names s)) none → All (λ i. i < length (stored_names s)) found)
    (permuted : IsPermutation found sorted) (kept : last ≡ dedup eqb sorted) (i : ℕ) where
  pub reported_in : Contains last i → (i < length a.names) × Contains (names_in (node_expr a id)) (slice_index_or a.names i [])
  reported_in c =
      let met_all = names_are ∙ ap (λ xs. map (λ i. slice_index_or (stored_names s) i []) xs ++ names_in_reverse (node_expr (exprs_in s) index)) empty in
      let all = held (none_held (λ i. i < length (stored_names s)) none empty) in
      let inside = Contains-permutation sorted found i (IsPermutation-sym found sorted permuted)
      (Contains-from_dedup eqb sorted i (subst (λ xs. Contains xs i) kept c)) in
      let r = found_in (stored_names s) sound.distinct found (node_expr (exprs_in s) index) met_all all i inside in
      subst (λ (x : Exprs). (i < length x.names) × Contains (names_in (node_expr x id)) (slice_index_or x.names i [])) view
      (subst (λ (k : ℕ). (i < length (stored_names s)) × Contains (names_in (node_expr (exprs_in s) k)) (slice_index_or (stored_names s) i [])) same r)

  pub in_reported : (i < length a.names) × Contains (names_in (node_expr a id)) (slice_index_or a.names i []) → Contains last i
  in_reported h =
      let met_all = names_are ∙ ap (λ xs. map (λ i. slice_index_or (stored_names s) i []) xs ++ names_in_reverse (node_expr (exprs_in s) index)) empty in
      let all = held (none_held (λ i. i < length (stored_names s)) none empty) in
      let here = subst (λ (k : ℕ). (i < length (stored_names s)) × Contains (names_in (node_expr (exprs_in s) k)) (slice_index_or (stored_names s) i []))
      (sym same)
      (subst (λ (x : Exprs). (i < length x.names) × Contains (names_in (node_expr x id)) (slice_index_or x.names i [])) (sym view) h) in
      let inside = in_found (stored_names s) sound.distinct found (node_expr (exprs_in s) index) met_all all i here in
      subst (λ xs. Contains xs i) (sym kept) (Contains-dedup_nat sorted i (Contains-permutation found sorted i permuted inside))
