-- The expressions of an arena are there also once it has grown.
use Rattle.std.proofs.Common.{◌≡◌, ℕ, ◌<◌, ◌≤◌, List, [], ◌++◌, length, get_or, take, drop, refl, ap, sym, ◌∙◌, arith, Option, Some, None}
use Rattle.std.proofs.lemmas.List.{take-append-drop, length-take, get_or_append_left}
use Rattle.kc_value.specs.declared.tri.Tri.TheVariants.{N}
use Rattle.kc_expr.specs.between.Arena.{Exprs, node_expr, Grows}
use Rattle.kc_expr.specs.Expr.{Expr, alone, constant}
use Rattle.kc_tree_model.specs.between.Attributes.{DefaultAttribute, TargetAttribute}
use Rattle.kc_tree_model.specs.declared.statement.Head.TheVariants as heads
use Rattle.kc_tree_model.specs.declared.statement.Attribute.TheVariants as attributes
use Rattle.kc_statements.specs.between.StatementViews.{ReadHead, ReadDefault, ReadTarget, ReadRange, ReadAttribute}
use Rattle.kc_statements.specs.between.StatementViews.{if_in, operand_of_expr, operand_or_n, default_in, target_in, range_in, attribute_in, head_in, NodeExists, IfNodeExists, OperandNodeExists, DefaultNodesExist, TargetNodesExist, RangeNodesExist, AttributeNodesExist, HeadNodesExist}

-- a list is no shorter than its front
pub front_long : {X : Type 0} (xs ys : List X) → take (length xs) ys ≡ xs → length xs ≤ length ys
front_long xs ys e = omega (arith, ap length e, length-take (length xs) ys)

-- a list is its front and the rest
pub front_parts : {X : Type 0} (xs ys : List X) → take (length xs) ys ≡ xs → ys ≡ xs ++ drop (length xs) ys
front_parts xs ys e = sym (take-append-drop (length xs) ys) ∙ ap (λ zs. zs ++ drop (length xs) ys) e

-- an element of a front is that of the whole
pub front_get : {X : Type 0} (xs ys : List X) (i : ℕ) (d : X) → take (length xs) ys ≡ xs → i < length xs → get_or ys i d ≡ get_or xs i d
front_get xs ys i d e h = ap (λ zs. get_or zs i d) (front_parts xs ys e) ∙ get_or_append_left xs (drop (length xs) ys) d i h

-- a node of an arena is also one of the grown arena
pub node_held : (old new : Exprs) (id : ℕ) → Grows old new → NodeExists old id → NodeExists new id
node_held old new id g h = let l = front_long old.nodes new.nodes g.nodes in omega arith

pub node_same : (old new : Exprs) (id : ℕ) → Grows old new → NodeExists old id → node_expr new id ≡ node_expr old id
node_same old new id g h = front_get old.nodes new.nodes id (alone (constant N)) g.nodes h

-- a condition that is a node of an arena, or none, is so too in the grown arena
pub if_held : (old new : Exprs) (c : Option ℕ) → Grows old new → IfNodeExists old c → IfNodeExists new c
if_held old new None g h = tt
if_held old new (Some id) g h = node_held old new id g h

pub if_same : (old new : Exprs) (c : Option ℕ) → Grows old new → IfNodeExists old c → if_in new c ≡ if_in old c
if_same old new None g h = refl
if_same old new (Some id) g h = ap Some (node_same old new id g h)

-- a node that is an operand is the same operand in the grown arena
pub operand_same : (old new : Exprs) (id : ℕ) → Grows old new → OperandNodeExists old id → operand_or_n new id ≡ operand_or_n old id
operand_same old new id g h = ap operand_of_expr (node_same old new id g h.within)

pub operand_held : (old new : Exprs) (id : ℕ) → Grows old new → OperandNodeExists old id → OperandNodeExists new id
operand_held old new id g h = record {
  within = node_held old new id g h.within;
  is = node_same old new id g h.within ∙ h.is ∙ ap alone (sym (operand_same old new id g h));
}

-- a `default` attribute means the same over the grown arena
pub valued_same : (old new : Exprs) (d : ReadDefault) → Grows old new → DefaultNodesExist old d → default_in new d ≡ default_in old d
valued_same old new d g h =
    ap (λ (v : Expr). let r : DefaultAttribute = record { value = v; single = d.single; condition = if_in new d.condition; from_environment = d.from_environment } in r)
    (node_same old new d.value g h.0)
    ∙ ap (λ (c : Option Expr). let r : DefaultAttribute = record { value = node_expr old d.value; single = d.single; condition = c; from_environment = d.from_environment } in r)
    (if_same old new d.condition g h.1)

pub valued_held : (old new : Exprs) (d : ReadDefault) → Grows old new → DefaultNodesExist old d → DefaultNodesExist new d
valued_held old new d g h = (node_held old new d.value g h.0, if_held old new d.condition g h.1)

-- a `select` or `imply` attribute means the same over the grown arena
pub target_same : (old new : Exprs) (s : ReadTarget) → Grows old new → TargetNodesExist old s → target_in new s ≡ target_in old s
target_same old new s g h =
    ap (λ (x : List ℕ). let r : TargetAttribute = record { name = x; condition = if_in new s.condition } in r)
    (front_get old.names new.names s.name [] g.names h.0)
    ∙ ap (λ (c : Option Expr). let r : TargetAttribute = record { name = get_or old.names s.name []; condition = c } in r) (if_same old new s.condition g h.1)

pub target_held : (old new : Exprs) (s : ReadTarget) → Grows old new → TargetNodesExist old s → TargetNodesExist new s
target_held old new s g h = let l = front_long old.names new.names g.names in (omega (arith, h.0), if_held old new s.condition g h.1)

-- a `range` attribute means the same over the grown arena
pub bounded_same : (old new : Exprs) (r : ReadRange) → Grows old new → RangeNodesExist old r → range_in new r ≡ range_in old r
bounded_same old new r g h =
    let low = operand_same old new r.low g h.0 in
    let high = operand_same old new r.high g h.1 in
    let c = if_same old new r.condition g h.2 in
    cc

pub bounded_held : (old new : Exprs) (r : ReadRange) → Grows old new → RangeNodesExist old r → RangeNodesExist new r
bounded_held old new r g h = (operand_held old new r.low g h.0, operand_held old new r.high g h.1, if_held old new r.condition g h.2)

-- an attribute means the same over the grown arena
pub attribute_same : (old new : Exprs) (a : ReadAttribute) → Grows old new → AttributeNodesExist old a → attribute_in new a ≡ attribute_in old a
attribute_same old new (attributes.Typed k) g h = refl
attribute_same old new (attributes.TypedPrompt k c) g h = ap (attributes.TypedPrompt k) (if_same old new c g h)
attribute_same old new (attributes.TypedDefault k d) g h = ap (attributes.TypedDefault k) (valued_same old new d g h)
attribute_same old new (attributes.Prompt c) g h = ap attributes.Prompt (if_same old new c g h)
attribute_same old new (attributes.Default d) g h = ap attributes.Default (valued_same old new d g h)
attribute_same old new (attributes.Depends id) g h = ap attributes.Depends (node_same old new id g h)
attribute_same old new (attributes.Select s) g h = ap attributes.Select (target_same old new s g h)
attribute_same old new (attributes.Imply s) g h = ap attributes.Imply (target_same old new s g h)
attribute_same old new (attributes.Range r) g h = ap attributes.Range (bounded_same old new r g h)
attribute_same old new (attributes.Visible id) g h = ap attributes.Visible (node_same old new id g h)
attribute_same old new attributes.Help g h = refl
attribute_same old new attributes.Modules g h = refl
attribute_same old new attributes.Optional g h = refl

pub attribute_held : (old new : Exprs) (a : ReadAttribute) → Grows old new → AttributeNodesExist old a → AttributeNodesExist new a
attribute_held old new (attributes.Typed k) g h = tt
attribute_held old new (attributes.TypedPrompt k c) g h = if_held old new c g h
attribute_held old new (attributes.TypedDefault k d) g h = valued_held old new d g h
attribute_held old new (attributes.Prompt c) g h = if_held old new c g h
attribute_held old new (attributes.Default d) g h = valued_held old new d g h
attribute_held old new (attributes.Depends id) g h = node_held old new id g h
attribute_held old new (attributes.Select s) g h = target_held old new s g h
attribute_held old new (attributes.Imply s) g h = target_held old new s g h
attribute_held old new (attributes.Range r) g h = bounded_held old new r g h
attribute_held old new (attributes.Visible id) g h = node_held old new id g h
attribute_held old new attributes.Help g h = tt
attribute_held old new attributes.Modules g h = tt
attribute_held old new attributes.Optional g h = tt

-- a statement other than an attribute means the same over the grown arena
pub head_same : (old new : Exprs) (h : ReadHead) → Grows old new → HeadNodesExist old h → head_in new h ≡ head_in old h
head_same old new (heads.Config name) g h = refl
head_same old new heads.Choice g h = refl
head_same old new (heads.Menu title) g h = refl
head_same old new (heads.Condition id) g h = ap heads.Condition (node_same old new id g h)
head_same old new (heads.Comment title) g h = refl
head_same old new (heads.Source path) g h = refl
head_same old new heads.Mainmenu g h = refl
head_same old new (heads.Ends b) g h = refl
