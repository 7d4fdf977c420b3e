-- The walk over the parts of a condition.
use Rattle.std.proofs.Common.{filter, reverse, append-nil, subst}
use Rattle.std.proofs.lemmas.List.{map-append, reverse-append}
use Rattle.std.proofs.lemmas.List.Elements.{filter-append}
use Rattle.kc_reasons.proofs.Common.{◌≡◌, ℕ, Bool, true, false, cond, List, [], ◌∷◌, ◌++◌, map, refl, ap, sym, ◌∙◌, append_assoc, Tri, node_expr, Part, lacking, LowPart, part_view, parts_view, lacking_in_reverse}
use Rattle.kc_value.specs.declared.tri.Tri.TheVariants.{M}
use Rattle.kc_expr.specs.Expr.{Expr, alone, related, negated, both, either, shown, Environment, value}
use Rattle.kc_expr.specs.between.Arena.{Exprs}
use Rattle.kc_value.specs.Tri.{is_n}
use Rattle.kc_reasons_model.specs.Conjuncts.{below, conjuncts, lacks}
use Rattle.kc_reasons.specs.checker.LackingWalk.{if_low}

-- appending a part that is too low
pub one_more : (exprs : Exprs) (names : Environment) (id : ℕ) (t : Tri) (old new : List LowPart)
    → new ≡ old ++ cond (below (value names (node_expr exprs id)) t) (record { expr = id; wanted = t } ∷ []) []
    → parts_view exprs new ≡ parts_view exprs old ++ if_low names t (node_expr exprs id)
one_more exprs names id t old new e =
    ap (parts_view exprs) e ∙ map-append (part_view exprs) old _ ∙ ap (λ ps. parts_view exprs old ++ ps) (of_one (below (value names (node_expr exprs id)) t))
  where
    of_one : (b : Bool) → map (part_view exprs) (cond b (record { expr = id; wanted = t } ∷ []) []) ≡ cond b (record { expr = node_expr exprs id; wanted = t } ∷ []) []
    of_one true = refl
    of_one false = refl

-- the walk goes on into the left part
pub into_left : (exprs : Exprs) (names : Environment) (t : Tri) (e left right : Expr) (before found all : List Part)
    → e ≡ both left right → found ≡ before ++ lacking_in_reverse names t right → before ++ lacking_in_reverse names t e ≡ all
    → found ++ lacking_in_reverse names t left ≡ all
into_left exprs names t e left right before found all is f h =
    ap (λ ps. ps ++ lacking_in_reverse names t left) f ∙ append_assoc before (lacking_in_reverse names t right) (lacking_in_reverse names t left)
    ∙ ap (λ x. before ++ lacking_in_reverse names t x) (sym is) ∙ h

-- or into what is to be shown
pub into_shown : (names : Environment) (t : Tri) (e part : Expr) (before all : List Part)
    → e ≡ shown part → is_n t ≡ false → before ++ lacking_in_reverse names t e ≡ all
    → before ++ lacking_in_reverse names M part ≡ all
into_shown names t e part before all is some h =
    ap (λ ps. before ++ ps) (sym (ap (lacking_in_reverse names t) is ∙ ap (λ b. cond b [] (lacking_in_reverse names M part)) some)) ∙ h

pub nothing_shown : (names : Environment) (t : Tri) (e part : Expr) (before all : List Part)
    → e ≡ shown part → is_n t ≡ true → before ++ lacking_in_reverse names t e ≡ all → before ≡ all
nothing_shown names t e part before all is none h =
    sym (append-nil before)
    ∙ ap (λ ps. before ++ ps) (sym (ap (lacking_in_reverse names t) is ∙ ap (λ b. cond b [] (lacking_in_reverse names M part)) none)) ∙ h

-- the walk ends at a part
pub at_part : (names : Environment) (t : Tri) (e : Expr) (before found all : List Part)
    → lacking_in_reverse names t e ≡ if_low names t e → found ≡ before ++ if_low names t e → before ++ lacking_in_reverse names t e ≡ all
    → found ≡ all
at_part names t e before found all is f h = f ∙ ap (λ ps. before ++ ps) (sym is) ∙ h

map-reverse : {X Y : Type 0} (f : X → Y) (xs : List X) → map f (reverse xs) ≡ reverse (map f xs)
map-reverse f [] = refl
map-reverse f (x ∷ xs) =
    ap (map f) (reverse-append (x ∷ []) xs) ∙ map-append f (reverse xs) (x ∷ []) ∙ ap (λ ys. ys ++ f x ∷ []) (map-reverse f xs)
    ∙ sym (reverse-append (f x ∷ []) (map f xs))

-- turned round, what the walk finds is what lacks
module _ (names : Environment) where
  one_kept : (p : Part) (b : Bool) → reverse (cond b (p ∷ []) []) ≡ cond b (p ∷ []) []
  one_kept p true = refl
  one_kept p false = refl

  shown_kept : (b : Bool) (e : Expr) → reverse (lacking_in_reverse names M e) ≡ lacking names M e
      → reverse (cond b [] (lacking_in_reverse names M e)) ≡ filter (lacks names) (cond b [] (conjuncts M e))
  shown_kept true e h = refl
  shown_kept false e h = h

  turned : (t : Tri) (e : Expr) → reverse (lacking_in_reverse names t e) ≡ lacking names t e
  turned t (alone a) = one_kept (record { expr = alone a; wanted = t }) (below (value names (alone a)) t)
  turned t (related op a b) = one_kept (record { expr = related op a b; wanted = t }) (below (value names (related op a b)) t)
  turned t (negated e) = one_kept (record { expr = negated e; wanted = t }) (below (value names (negated e)) t)
  turned t (either a b) = one_kept (record { expr = either a b; wanted = t }) (below (value names (either a b)) t)
  turned t (both a b) =
      reverse-append (lacking_in_reverse names t b) (lacking_in_reverse names t a)
      ∙ ap (λ ps. ps ++ reverse (lacking_in_reverse names t b)) (turned t a) ∙ ap (λ ps. lacking names t a ++ ps) (turned t b)
      ∙ sym (filter-append (lacks names) (conjuncts t a) (conjuncts t b))
  turned t (shown e) = shown_kept (is_n t) e (turned M e)

  pub found_turned : (exprs : Exprs) (t : Tri) (e : Expr) (none found last : List LowPart) → none ≡ []
      → parts_view exprs found ≡ parts_view exprs none ++ lacking_in_reverse names t e → last ≡ reverse found
      → parts_view exprs last ≡ lacking names t e
  found_turned exprs t e none found last empty f h =
      ap (parts_view exprs) h ∙ map-reverse (part_view exprs) found
      ∙ ap reverse (f ∙ ap (λ ps. parts_view exprs ps ++ lacking_in_reverse names t e) empty) ∙ turned t e
