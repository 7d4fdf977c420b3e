-- The conditions that enclose what is inside blocks are those of the definitions.
use Rattle.kc_symbol_lines.proofs.Common.{◌≡◌, inl, inr, ℕ, Bool, true, false, List, [], ◌∷◌, ◌++◌, map, Option, Some, None, refl, ap, sym, ◌∙◌, slice_get, option_map, unwrap_or, map-append, Exprs, node_expr, RepresentsHead, RepresentsGroup, Group, GroupHead, names_defined, Has, LocatedContext}
use Rattle.kc_symbol_lines.proofs.Common.{located_at, located_context, HasLines, TreeLines, Visibles, located_view, all_located, EnclosingLists, position_at, located_if, parts_in, prompts_in, as_choice_part, shown_parts, inside_menu, inside_choice, inside_head, inside_blocks, CodeGroup, CodeLine}
use Rattle.kc_symbol_lines.proofs.Common.{CodeHead, CodeLocated}
use Rattle.std.proofs.lemmas.Option.{slice_get-map}
use Rattle.kc_value.specs.declared.tri.Tri.TheVariants.{N}
use Rattle.kc_expr.specs.Expr.{alone, constant}
use Rattle.kc_parser.specs.declared.listing.GroupHead.TheVariants as codes
use Rattle.kc_tree_model.specs.declared.statement.Head.TheVariants as heads
use Rattle.kc_tree_model.specs.Blocks.{of_head}
use Rattle.kc_reasons_model.specs.Places.{LocatedExpr, as_choice_parts, located_choice, located_inside_menu, located_inside}
use Rattle.kc_symbol_lines.proofs.OwnLineLaws.{context_view, parts_located, dependencies_located, prompts_located}
use Rattle.kc_symbol_lines.proofs.PlacedGroups.{shown_of}

same_context : (ds es vs ws : List LocatedExpr) → ds ≡ es → vs ≡ ws
    → (let c : LocatedContext = record { dependencies = ds; visibles = vs } in c) ≡ record { dependencies = es; visibles = ws }
same_context ds es vs ws d v = rw (d, v) refl

marked : (e : Exprs) (ps : List CodeLocated) → all_located e (map as_choice_part ps) ≡ as_choice_parts (all_located e ps)
marked e [] = refl
marked e (p ∷ ps) = ap (λ xs. located_view e (as_choice_part p) ∷ xs) (marked e ps)

module _ (e : Exprs) (off : ℕ) (is_n : node_expr e off ≡ alone (constant N)) (names texts : List (List ℕ)) (code : CodeGroup) (ls : List CodeLine) (before : ℕ) (g : Group)
    (r : RepresentsGroup e names texts ls before code g) (a : EnclosingLists) where
  menu_located : context_view e (inside_menu a code.file ls) ≡ located_inside_menu (context_view e a) g
  menu_located =
      same_context _ _ _ _ (dependencies_located e g code.file ls r.file_is r.attributes a)
      (map-append (located_view e) a.visibles (parts_in Visibles code.file ls)
      ∙ ap (λ xs. all_located e a.visibles ++ xs) (parts_located e g code.file ls r.file_is r.attributes Visibles))

  shown_located : (o : Option (List CodeLocated))
      → all_located e (shown_parts off (position_at code.file code.line) o)
      ≡ unwrap_or (option_map as_choice_parts (option_map (all_located e) o)) (located_at g g.at.line (alone (constant N)) ∷ [])
  shown_located None = rw (is_n, r.file_is, r.line_is) refl
  shown_located (Some ps) = marked e ps

  choice_located : context_view e (inside_choice off a code.file code.line ls) ≡ record { dependencies = located_choice (context_view e a) g; visibles = [] }
  choice_located =
      ap (λ xs. let c : LocatedContext = record { dependencies = xs; visibles = [] } in c)
      (shown_located (slice_get (prompts_in a code.file ls ls) 0)
      ∙ ap (λ o. unwrap_or (option_map as_choice_parts o) (located_at g g.at.line (alone (constant N)) ∷ []))
      (sym (slice_get-map (all_located e) (prompts_in a code.file ls ls) 0)
      ∙ ap (λ ps. slice_get ps 0) (prompts_located e g code.file ls r.file_is r.attributes a)))

  choice_by : (through : Bool) → context_view e (inside_head through off codes.Choice a code.file code.line ls)
      ≡ located_inside through (of_head heads.Choice) (context_view e a) g
  choice_by true = menu_located
  choice_by false = choice_located

  by_head : (through : Bool) (h : CodeHead) (w : GroupHead) → RepresentsHead e names texts h w
      → context_view e (inside_head through off h a code.file code.line ls) ≡ located_inside through w (context_view e a) g
  by_head through (codes.Config s) w k = rw k.2 refl
  by_head through codes.Choice w k = choice_by through ∙ ap (λ v. located_inside through v (context_view e a) g) (sym k)
  by_head through (codes.Menu t) w k = menu_located ∙ ap (λ v. located_inside through v (context_view e a) g) (sym k.2)
  by_head through (codes.Condition i) w k =
      same_context _ _ _ _
      (map-append (located_view e) a.dependencies (located_if (position_at code.file code.line) (Some i))
      ∙ ap (λ x. all_located e a.dependencies ++ x ∷ [])
      (rw (r.file_is, r.line_is) refl)) refl
      ∙ ap (λ v. located_inside through v (context_view e a) g) (sym k.1)
  by_head through (codes.Comment t) w k = rw k.2 refl
  by_head through (codes.Source t) w k = rw k.2 refl
  by_head through x w k = rw k refl

  pub inside_located : (through : Bool) → context_view e (inside_head through off code.head a code.file code.line ls) ≡ located_inside through g.head (context_view e a) g
  inside_located through = by_head through code.head g.head r.head

-- those inside open blocks
pub blocks_located : (e : Exprs) (lines : TreeLines) (read : List Group) → HasLines e lines read → (through : Bool) (opened : List Group)
    → ((g : Group) → Has g opened → Has g read)
    → context_view e (inside_blocks through lines.no lines.groups.items lines.lines.items (map (λ (g : Group). g.number) opened)) ≡ located_context through opened
blocks_located e lines read h through [] k = refl
blocks_located e lines read h through (g ∷ outer) k =
    let n = shown_of e lines read h g (k g (inl refl)) in
    inside_located e lines.no h.no_is.is (names_defined read) h.texts _ _ _ g n.shown
    (inside_blocks through lines.no lines.groups.items lines.lines.items (map (λ (m : Group). m.number) outer)) through
    ∙ ap (λ c. located_inside through g.head c g) (blocks_located e lines read h through outer (λ m i. k m (inr i)))
