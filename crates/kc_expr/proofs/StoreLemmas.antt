-- The expressions that a store represents, as it grows.
use Rattle.kc_expr.proofs.Common.{◌≡◌, ℕ, suc, ◌+◌, ◌^◌, ◌<◌, ◌≤◌, ◌⊎◌, inl, inr, List, [], ◌∷◌, ◌++◌, length, get_or, take, drop, map, Bool, true, false, cond, refl, ap, sym, ◌∙◌, subst, arith, length-append, append_assoc, append-nil, string_bytes, get_or_append_left, map-append, take-append_seam, take-length, N}
use Rattle.kc_expr.proofs.Common.{Leaf, Constant, Node, Alone, NodeStore, Exprs, node_expr, Represents, Expr, alone, related, negated, shown, constant, named, quoted, AreDistinct, operand_of, expr_of, exprs_after, exprs_of, NodeFits, some_node, stored_names, exprs_in, IsSound, Extends, kept_through}
use Rattle.std.proofs.lemmas.List.{take-append-drop, length-take}
use Rattle.kc_expr.specs.declared.node.Leaf.TheVariants.{Name, Quoted}
use Rattle.kc_expr.specs.declared.node.Node.TheVariants.{Negated, Related, Shown}
use Rattle.kc_expr.specs.between.Arena.{Grows}
use Rattle.kc_expr.specs.checker.Nodes.{LeafFits}
use Rattle.kc_expr.proofs.NodeLemmas.{at_node, nodes_push, represents_last, length-exprs}

-- the expression that a sound store represents at a number is that of the node with this number
pub node_of : (s : NodeStore) (i : ℕ) (found n : Node) → IsSound s → i < length s.nodes.items → found ≡ get_or s.nodes.items i some_node → found ≡ n
    → node_expr (exprs_in s) i ≡ expr_of (stored_names s) s.texts.items (exprs_in s).nodes n
node_of s i found n sound h e f = at_node (stored_names s) s.texts.items (length (stored_names s)) (length s.texts.items) s.nodes.items i n sound.nodes h
    (sym e ∙ f)

pub fits_at : (s : NodeStore) (i : ℕ) (found n : Node) → IsSound s → i < length s.nodes.items → found ≡ get_or s.nodes.items i some_node → found ≡ n
    → NodeFits (length (stored_names s)) (length s.texts.items) i n
fits_at s i found n sound h e f = subst (NodeFits (length (stored_names s)) (length s.texts.items) i) (sym e ∙ f) (sound.nodes i h)

-- a node of one part: the part has a smaller number, and what no `!` and no `shown` changes is that of the part
module _ (s : NodeStore) (i part : ℕ) (found : Node) (sound : IsSound s) (there : i < length s.nodes.items) (at : found ≡ get_or s.nodes.items i some_node) where
  pub part_below : (found ≡ Negated part) ⊎ (found ≡ Shown part) → part < i
  part_below (inl e) = fits_at s i found (Negated part) sound there at e
  part_below (inr e) = fits_at s i found (Shown part) sound there at e

  pub of_part : {X : Type 0} (f : Expr → X) → ((e : Expr) → f (negated e) ≡ f e) → ((e : Expr) → f (shown e) ≡ f e) → (found ≡ Negated part) ⊎ (found ≡ Shown part)
      → f (node_expr (exprs_in s) i) ≡ f (node_expr (exprs_in s) part)
  of_part f n h (inl e) = ap f (node_of s i found (Negated part) sound there at e) ∙ n (node_expr (exprs_in s) part)
  of_part f n h (inr e) = ap f (node_of s i found (Shown part) sound there at e) ∙ h (node_expr (exprs_in s) part)

prefix_parts : {X : Type 0} (xs ys : List X) → take (length xs) ys ≡ xs → ys ≡ xs ++ drop (length xs) ys
prefix_parts xs ys e = sym (take-append-drop (length xs) ys) ∙ ap (λ zs. zs ++ drop (length xs) ys) e

prefix_long : {X : Type 0} (xs ys : List X) → take (length xs) ys ≡ xs → length xs ≤ length ys
prefix_long xs ys e = omega (arith, ap length e, length-take (length xs) ys)

-- an element of a front is that of the whole
kept_get : {X : Type 0} (xs ys : List X) (i : ℕ) (d : X) → take (length xs) ys ≡ xs → i < length xs → get_or ys i d ≡ get_or xs i d
kept_get xs ys i d e h = ap (λ zs. get_or zs i d) (prefix_parts xs ys e) ∙ get_or_append_left xs (drop (length xs) ys) d i h

prefix_map : {X Y : Type 0} (f : X → Y) (xs ys : List X) → take (length xs) ys ≡ xs → take (length (map f xs)) (map f ys) ≡ map f xs
prefix_map f xs ys e =
    ap (λ zs. take (length (map f xs)) (map f zs)) (prefix_parts xs ys e)
    ∙ ap (take (length (map f xs))) (map-append f xs (drop (length xs) ys))
    ∙ take-append_seam (map f xs) (map f (drop (length xs) ys))

pub extends_self : (s : NodeStore) → Extends s s
extends_self s = record { names = take-length s.names.keys; texts = take-length s.texts.items; nodes = take-length s.nodes.items }

pub extends_on : (a b c : NodeStore) → Extends a b → Extends b c → Extends a c
extends_on a b c e f = record {
  names = kept_through a.names.keys b.names.keys c.names.keys e.names f.names;
  texts = kept_through a.texts.items b.texts.items c.texts.items e.texts f.texts;
  nodes = kept_through a.nodes.items b.nodes.items c.nodes.items e.nodes f.nodes;
}

-- names and texts that come after change no operand
module _ (names texts more_names more_texts : List (List ℕ)) (n : take (length names) more_names ≡ names) (t : take (length texts) more_texts ≡ texts) where
  pub operand_kept : (a : Leaf) → LeafFits (length names) (length texts) a → operand_of more_names more_texts a ≡ operand_of names texts a
  operand_kept (Constant v) h = refl
  operand_kept (Name i) h = ap named (kept_get names more_names i [] n h)
  operand_kept (Quoted i) h = ap quoted (kept_get texts more_texts i [] t h)

  pub leaf_kept : (a : Leaf) → LeafFits (length names) (length texts) a → LeafFits (length more_names) (length more_texts) a
  leaf_kept (Constant v) h = tt
  leaf_kept (Name i) h = omega (arith, h, prefix_long names more_names n)
  leaf_kept (Quoted i) h = omega (arith, h, prefix_long texts more_texts t)

  expr_kept : (es : List Expr) (k : ℕ) (m : Node) → NodeFits (length names) (length texts) k m → expr_of more_names more_texts es m ≡ expr_of names texts es m
  expr_kept es k (Alone a) h = ap alone (operand_kept a h)
  expr_kept es k (Related op a b) h = ap (λ x. related op x (operand_of more_names more_texts b)) (operand_kept a h.0)
      ∙ ap (related op (operand_of names texts a)) (operand_kept b h.1)
  expr_kept es k _ h = refl

  fits_kept : (k : ℕ) (m : Node) → NodeFits (length names) (length texts) k m → NodeFits (length more_names) (length more_texts) k m
  fits_kept k (Alone a) h = leaf_kept a h
  fits_kept k (Related op a b) h = (leaf_kept a h.0, leaf_kept b h.1)
  fits_kept k _ h = h

  exprs_kept : (es : List Expr) (ns : List Node) → ((k m : ℕ) → m ≡ length es + k → k < length ns → NodeFits (length names) (length texts) m
      (get_or ns k some_node)) → exprs_after more_names more_texts es ns ≡ exprs_after names texts es ns
  exprs_kept es [] f = refl
  exprs_kept es (m ∷ ms) f =
      let here = expr_kept es (length es) m (f 0 (length es) (omega arith) (omega arith)) in
      ap (λ x. exprs_after more_names more_texts (es ++ x ∷ []) ms) here
      ∙ exprs_kept (es ++ expr_of names texts es m ∷ []) ms (λ k j e l. f (suc k) j (omega (arith, e, length-append es (expr_of names texts es m ∷ [])))
      (omega arith))

module _ (names texts : List (List ℕ)) where
  exprs-append : (es : List Expr) (ns ms : List Node) → exprs_after names texts es (ns ++ ms) ≡ exprs_after names texts (exprs_after names texts es ns) ms
  exprs-append es [] ms = refl
  exprs-append es (n ∷ ns) ms = exprs-append (es ++ expr_of names texts es n ∷ []) ns ms

  -- expressions of further nodes come after
  exprs_extended : (es : List Expr) (ns : List Node) → (rest : List Expr) × (exprs_after names texts es ns ≡ es ++ rest)
  exprs_extended es [] = ([], sym (append-nil es))
  exprs_extended es (n ∷ ns) =
      let (rest, e) = exprs_extended (es ++ expr_of names texts es n ∷ []) ns in
      (expr_of names texts es n ∷ rest, e ∙ append_assoc es (expr_of names texts es n ∷ []) rest)

-- an extended store represents each expression that it represented before
pub grows : (old new : NodeStore) → IsSound old → Extends old new → Grows (exprs_in old) (exprs_in new)
grows old new sound e =
    let names_kept = prefix_map string_bytes old.names.keys new.names.keys e.names in
    let more = drop (length old.nodes.items) new.nodes.items in
    let same : exprs_of (stored_names new) new.texts.items old.nodes.items ≡ exprs_of (stored_names old) old.texts.items old.nodes.items =
    exprs_kept (stored_names old) old.texts.items (stored_names new) new.texts.items names_kept e.texts [] old.nodes.items
    (λ k m q l. let g : k ≡ m = omega arith in rw (← g) (sound.nodes k l)) in
    let es = exprs_of (stored_names old) old.texts.items old.nodes.items in
    let (rest, f) = exprs_extended (stored_names new) new.texts.items es more in
    record {
      names = names_kept;
      nodes = ap (λ ns. take (length es) (exprs_of (stored_names new) new.texts.items ns)) (prefix_parts old.nodes.items new.nodes.items e.nodes)
          ∙ ap (take (length es)) (exprs-append (stored_names new) new.texts.items [] old.nodes.items more
          ∙ ap (λ fs. exprs_after (stored_names new) new.texts.items fs more) same ∙ f)
          ∙ take-append_seam es rest;
    }

-- a node of an arena represents the same expression after names and nodes are appended
pub represents_on : (old new : Exprs) (id : ℕ) (e : Expr) → Grows old new → Represents old id e → Represents new id e
represents_on old new id e g s = record {
  within = omega (arith, s.within, prefix_long old.nodes new.nodes g.nodes);
  is = kept_get old.nodes new.nodes id (alone (constant N)) g.nodes s.within ∙ s.is;
}

pub represents_later : (old new : NodeStore) (id : ℕ) (e : Expr) → IsSound old → Extends old new → Represents (exprs_in old) id e → Represents (exprs_in new) id e
represents_later old new id e sound x s = represents_on (exprs_in old) (exprs_in new) id e (grows old new sound x) s

-- one node more
module _ (old new : NodeStore) (node : Node) (sound : IsSound old) (nodes : new.nodes.items ≡ old.nodes.items ++ node ∷ [])
    (names : new.names.keys ≡ old.names.keys) (texts : new.texts.items ≡ old.texts.items) where
  pub push_extends : Extends old new
  push_extends = record {
    names = rw names (take-length old.names.keys);
    texts = rw texts (take-length old.texts.items);
    nodes = rw nodes (take-append_seam old.nodes.items (node ∷ []));
  }

  pub push_sound : length old.nodes.items < 2 ^ 32 → NodeFits (length (stored_names old)) (length old.texts.items) (length old.nodes.items) node → IsSound new
  push_sound few f = record {
    nodes = rw (nodes, names, texts) (nodes_push (length (stored_names old)) (length old.texts.items) old.nodes.items node sound.nodes f);
    distinct = rw names sound.distinct;
    few_names = rw names sound.few_names;
    few_nodes = rw nodes (omega (arith, few, length-append old.nodes.items (node ∷ [])));
  }

  pub push_represents : (id : ℕ) → id ≡ length old.nodes.items → Represents (exprs_in new) id
      (expr_of (stored_names old) old.texts.items (exprs_in old).nodes node)
  push_represents id e = rw (nodes, names, texts) (represents_last (stored_names old) old.texts.items old.nodes.items node id e)

-- a store has as many expressions as nodes
pub length-nodes : (s : NodeStore) → length (exprs_in s).nodes ≡ length s.nodes.items
length-nodes s = omega (arith, length-exprs (stored_names s) s.texts.items [] s.nodes.items)

-- the number of an expression that contracts see is that of a node of the store
pub within_nodes : (a : Exprs) (s : NodeStore) (i : ℕ) → exprs_in s ≡ a → i < length a.nodes → i < length s.nodes.items
within_nodes a s i e h = omega (arith, h, ap (λ (x : Exprs). length x.nodes) e, length-nodes s)

-- a sound store is still sound after names and texts are appended, if no name is held twice and there aren't too many
pub sound_on : (old new : NodeStore) → IsSound old → Extends old new → new.nodes.items ≡ old.nodes.items → AreDistinct (stored_names new)
    → length new.names.keys ≤ 2 ^ 32 → IsSound new
sound_on old new sound e same d few = record {
  nodes = rw same (λ k l. fits_kept (stored_names old) old.texts.items (stored_names new) new.texts.items
      (prefix_map string_bytes old.names.keys new.names.keys e.names) e.texts k (get_or old.nodes.items k some_node) (sound.nodes k l));
  distinct = d;
  few_names = few;
  few_nodes = rw same sound.few_nodes;
}

-- an operand means the same in an extended store
pub operand_on : (old new : NodeStore) (a : Leaf) → Extends old new → LeafFits (length (stored_names old)) (length old.texts.items) a
    → operand_of (stored_names new) new.texts.items a ≡ operand_of (stored_names old) old.texts.items a
operand_on old new a e h = operand_kept (stored_names old) old.texts.items (stored_names new) new.texts.items
    (prefix_map string_bytes old.names.keys new.names.keys e.names) e.texts a h

pub represents_node : (s : NodeStore) (i : ℕ) (e : Expr) → Represents (exprs_in s) i e → i < length s.nodes.items
represents_node s i e h = omega (arith, h.within, length-nodes s)

-- a list to which an element is appended, or none, begins with what it was
pub pushed_prefix : {X : Type 0} (b : Bool) (xs : List X) (x : X) → take (length xs) (cond b xs (xs ++ x ∷ [])) ≡ xs
pushed_prefix true xs x = take-length xs
pushed_prefix false xs x = take-append_seam xs (x ∷ [])

pub pushed_long : {X : Type 0} (b : Bool) (xs : List X) (x : X) → length (cond b xs (xs ++ x ∷ [])) ≤ length xs + 1
pushed_long true xs x = omega arith
pushed_long false xs x = omega (arith, length-append xs (x ∷ []))
