-- Lines of parts of conditions, and of selects and implies.
use Rattle.std.proofs.Common.{cond, Option}
use Rattle.kc_explanation.proofs.Common.{◌≡◌, ℕ, List, [], ◌∷◌, ◌++◌, map, refl, ap, ◌∙◌, append_assoc, codes, Exprs, Tree, Symbol, Position, UnitValue, environment, Strings, located_alternatives_view, located_forcing_lines, joined_parts, part_lines, needed_lines}
use Rattle.std.specs.Global.{Vec}
use Rattle.kc_expr.specs.Expr.{Environment}
use Rattle.kc_located_reasons.specs.declared.located_parts.LocatedPart.{LocatedPart}
use Rattle.kc_located_reasons.specs.between.PartsView.{located_part_view, located_parts_view}
use Rattle.kc_reasons_model.specs.declared.cases.Hindrance.{Hindrance}
use Rattle.kc_explanation.specs.Explained.{inner_line, is_without_prompt}
use Rattle.kc_explanation.specs.Located.{located_part_text, located_parts_text, located_alternative_lines, located_needs_lines}

module _ (strings : Strings) (names : Environment) (exprs : Exprs) (paths : List (List ℕ)) where
  abbrev pub located_texts : List LocatedPart → List (List ℕ)
  located_texts ps = map (λ p. located_part_text strings names paths (located_part_view exprs p)) ps

  abbrev pub each_located : List (Vec LocatedPart) → List (List (List ℕ))
  each_located vs = map (λ (v : Vec LocatedPart). located_texts v.items) vs

  located_parts : (word : List ℕ) (ps : List LocatedPart)
      → joined_parts word (located_texts ps) ≡ located_parts_text strings names paths word (located_parts_view exprs ps)
  located_parts word [] = refl
  located_parts word (p ∷ ps) = ap (λ x. word ++ (located_part_text strings names paths (located_part_view exprs p) ++ x)) (located_parts (codes " and ") ps)

  pub located_lines : (word : List ℕ) (vs : List (Vec LocatedPart))
      → part_lines word (each_located vs) ≡ located_alternative_lines strings names paths word (located_alternatives_view exprs vs)
  located_lines word [] = refl
  located_lines word (v ∷ vs) =
      ap (λ x. inner_line x ++ part_lines (codes "or ") (each_located vs)) (located_parts word v.items)
      ∙ ap (λ x. inner_line (located_parts_text strings names paths word (located_parts_view exprs v.items)) ++ x) (located_lines (codes "or ") vs)

-- the details of a symbol, each part equal to another text
joined_details : (n m f g h i u v : List ℕ) → n ≡ m → f ≡ g → h ≡ i → u ≡ v → n ++ ((f ++ h) ++ u) ≡ m ++ (g ++ (i ++ v))
joined_details n m f g h i u v is_n is_f is_h is_u =
    ap (λ x. x ++ ((f ++ h) ++ u)) is_n
    ∙ ap (λ x. m ++ x) (append_assoc f h u ∙ ap (λ x. x ++ (h ++ u)) is_f ∙ ap (λ x. g ++ (x ++ u)) is_h ∙ ap (λ x. g ++ (i ++ x)) is_u)

module _ (strings : Strings) (tree : Tree) (values : List UnitValue) (exprs : Exprs) (symbol : Symbol) (hindrance : Option Hindrance) (selected_by implied_by : List ℕ) where
  abbrev pub placed_details : List (List ℕ) → List (Vec LocatedPart) → List (Vec LocatedPart) → List Position → List Position → List ℕ
  placed_details paths needs unmet selectors impliers =
      needed_lines (is_without_prompt hindrance symbol) (each_located strings (environment tree values) exprs paths needs)
      ++ ((located_forcing_lines strings paths tree values (codes "selected by ") symbol.selectors selectors selected_by
      ++ located_forcing_lines strings paths tree values (codes "implied by ") symbol.impliers impliers implied_by)
      ++ part_lines (codes "unmet: ") (each_located strings (environment tree values) exprs paths unmet))

  pub placed_details_are : (paths : List (List ℕ)) (needs unmet : List (Vec LocatedPart)) (selectors impliers : List Position)
      → placed_details paths needs unmet selectors impliers
      ≡ located_needs_lines strings (environment tree values) paths (is_without_prompt hindrance symbol) (located_alternatives_view exprs needs)
      ++ (located_forcing_lines strings paths tree values (codes "selected by ") symbol.selectors selectors selected_by
      ++ (located_forcing_lines strings paths tree values (codes "implied by ") symbol.impliers impliers implied_by
      ++ located_alternative_lines strings (environment tree values) paths (codes "unmet: ") (located_alternatives_view exprs unmet)))
  placed_details_are paths needs unmet selectors impliers =
      let selects = located_forcing_lines strings paths tree values (codes "selected by ") symbol.selectors selectors selected_by in
      let implies = located_forcing_lines strings paths tree values (codes "implied by ") symbol.impliers impliers implied_by in
      joined_details _ _ selects selects implies implies _ _
      (ap (λ x. cond (is_without_prompt hindrance symbol) (inner_line (codes "it has no prompt")) x) (located_lines strings (environment tree values) exprs paths (codes "needs ") needs))
      refl
      refl
      (located_lines strings (environment tree values) exprs paths (codes "unmet: ") unmet)
