-- Parts with their places.
use Rattle.std.proofs.Common.{ℕ, ◌<◌, get_or, append_assoc, add-one, drop-cons}
use Rattle.kc_located_reasons.proofs.Common.{◌≡◌, ◌+◌, length, drop, List, [], ◌∷◌, ◌++◌, map, refl, ap, sym, ◌∙◌, map-append, Tri, Part, parts_view, position_view, located_view, all_located, at_place, lacking_at, located_lacking, LocatedPart, located_part_view, located_parts_view, part_at}
use Rattle.kc_expr.specs.Expr.{Environment}
use Rattle.kc_expr.specs.between.Arena.{Exprs}
use Rattle.kc_reasons.specs.declared.low_parts.LowPart.{LowPart}
use Rattle.kc_symbol_lines.specs.declared.located.Position.{Position}
use Rattle.kc_symbol_lines.specs.declared.located.LocatedExpr.{LocatedExpr}
use Rattle.kc_located_reasons.specs.LocatedNeeds as model

parts_placed : (exprs : Exprs) (at : Position) (low : List LowPart) → located_parts_view exprs (map (part_at at) low) ≡ map (at_place (position_view at)) (parts_view exprs low)
parts_placed exprs at [] = refl
parts_placed exprs at (p ∷ low) = ap (λ xs. located_part_view exprs (part_at at p) ∷ xs) (parts_placed exprs at low)

-- appending the parts of a line
pub parts_added : (exprs : Exprs) (at : Position) (low : List LowPart) (ps : List Part) (old new : List LocatedPart)
    → parts_view exprs low ≡ ps → new ≡ old ++ map (part_at at) low
    → located_parts_view exprs new ≡ located_parts_view exprs old ++ map (at_place (position_view at)) ps
parts_added exprs at low ps old new e h =
    ap (located_parts_view exprs) h ∙ map-append (located_part_view exprs) old (map (part_at at) low)
    ∙ ap (λ xs. located_parts_view exprs old ++ xs) (parts_placed exprs at low ∙ ap (map (at_place (position_view at))) e)

-- a line more of a condition
pub more_lines : (exprs : Exprs) (names : Environment) (t : Tri) (parts : List LocatedExpr) (k : ℕ) (p : LocatedExpr) (old new all : List model.LocatedPart)
    → k < length parts → old ++ located_lacking names t (all_located exprs (drop k parts)) ≡ all
    → new ≡ old ++ lacking_at names t (located_view exprs (get_or parts k p))
    → new ++ located_lacking names t (all_located exprs (drop (k + 1) parts)) ≡ all
more_lines exprs names t parts k p old new all l h e =
    let rest : List model.LocatedPart = located_lacking names t (all_located exprs (drop (k + 1) parts)) in
    let next : drop k parts ≡ get_or parts k p ∷ drop (k + 1) parts = rw add-one (drop-cons parts k p l) in
    ap (λ xs. xs ++ rest) e ∙ append_assoc old (lacking_at names t (located_view exprs (get_or parts k p))) rest
    ∙ ap (λ ps. old ++ located_lacking names t (all_located exprs ps)) (sym next) ∙ h
