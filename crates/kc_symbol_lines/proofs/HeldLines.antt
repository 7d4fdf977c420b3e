-- What is on the lines of a tree are expressions of its arena.
use Rattle.kc_symbol_lines.proofs.Common.{◌≡◌, inl, inr, ℕ, suc, ◌<◌, Bool, true, false, List, [], ◌∷◌, ◌++◌, length, map, Option, Some, None, refl, sym, subst, arith, slice_get, flat_map, All, IfSome, Vec, All-nil, All-cons, Exprs, RepresentsHead, LineNodesExist, Group, GroupHead, names_defined}
use Rattle.kc_symbol_lines.proofs.Common.{Has, HasLines, TreeLines, Conjuncts, Dependencies, Visibles, LocatedExpr, IsHeld, AreHeld, conjunct_given, prompt_of, each_items, EnclosingLists, position_at, located_if, parts_in, dependency_parts, prompt_at, prompts_in, as_choice_part, shown_parts}
use Rattle.kc_symbol_lines.proofs.Common.{inside_menu, inside_choice, inside_head, inside_blocks, lines_at, All-take, CodeGroup, CodeLine, CodeHead}
use Rattle.std.proofs.lemmas.List.Elements.{All-append, All-map}
use Rattle.kc_parser.specs.declared.listing.GroupHead.TheVariants as codes
use Rattle.kc_symbol_lines.specs.declared.located.Position.{Position}
use Rattle.kc_conditions.proofs.Growth.{reported_there}
use Rattle.kc_symbol_lines.proofs.AttributeViews.{prompt_held}
use Rattle.kc_symbol_lines.proofs.PlacedGroups.{shown_of}
use Rattle.std.proofs.lemmas.List.Elements.{All-drop}

module _ (e : Exprs) where
  pub record AreHeldLists (a : EnclosingLists) : Type 0 where
    pub dependencies : All (IsHeld e) a.dependencies
    pub visibles : All (IsHeld e) a.visibles

  one_held : (at : Position) (o : Option ℕ) → IfSome o (λ i. i < length e.nodes) → All (IsHeld e) (located_if at o)
  one_held at None h = All-nil (IsHeld e)
  one_held at (Some i) h = All-cons (IsHeld e) _ [] h (All-nil (IsHeld e))

  pub parts_held : (part : Conjuncts) (file : ℕ) (ls : List CodeLine) → All (LineNodesExist e) ls → All (IsHeld e) (parts_in part file ls)
  parts_held part file [] h = All-nil (IsHeld e)
  parts_held part file (l ∷ ls) h =
      All-append (IsHeld e) (located_if (position_at file l.number) (conjunct_given part l.attribute)) (parts_in part file ls)
      (one_held (position_at file l.number) (conjunct_given part l.attribute) (reported_there part e l.attribute (h 0 l (omega arith))))
      (parts_held part file ls (λ i d b. h (suc i) d (omega arith)))

  module _ (file : ℕ) (all : List CodeLine) (own : All (LineNodesExist e) all) (a : EnclosingLists) (outer : AreHeldLists a) where
    pub dependencies_held : All (IsHeld e) (dependency_parts a file all)
    dependencies_held = All-append (IsHeld e) a.dependencies (parts_in Dependencies file all) outer.dependencies (parts_held Dependencies file all own)

    prompt_at_held : (line : ℕ) (o : Option (Option ℕ)) → IfSome o (λ c. IfSome c (λ i. i < length e.nodes)) → All (All (IsHeld e)) (prompt_at a file all line o)
    prompt_at_held line None h = All-nil (All (IsHeld e))
    prompt_at_held line (Some c) h =
        All-cons (All (IsHeld e)) _ []
        (All-append (IsHeld e) (dependency_parts a file all) (a.visibles ++ located_if (position_at file line) c) dependencies_held
        (All-append (IsHeld e) a.visibles (located_if (position_at file line) c) outer.visibles (one_held (position_at file line) c h)))
        (All-nil (All (IsHeld e)))

    pub prompts_held : (some : List CodeLine) → All (LineNodesExist e) some → All (All (IsHeld e)) (prompts_in a file all some)
    prompts_held [] h = All-nil (All (IsHeld e))
    prompts_held (l ∷ some) h =
        All-append (All (IsHeld e)) (prompt_at a file all l.number (prompt_of l.attribute)) (prompts_in a file all some)
        (prompt_at_held l.number (prompt_of l.attribute) (prompt_held e l.attribute (h 0 l (omega arith))))
        (prompts_held some (λ i d b. h (suc i) d (omega arith)))

    first_held : (pss : List (List LocatedExpr)) → All (All (IsHeld e)) pss → (off : ℕ) (at : Position) → off < length e.nodes
        → All (IsHeld e) (shown_parts off at (slice_get pss 0))
    first_held [] h off at n = one_held at (Some off) n
    first_held (ps ∷ pss) h off at n = All-map (IsHeld e) as_choice_part ps (h 0 ps (omega arith))

    menu_held : AreHeldLists (inside_menu a file all)
    menu_held = record {
      dependencies = dependencies_held;
      visibles = All-append (IsHeld e) a.visibles (parts_in Visibles file all) outer.visibles (parts_held Visibles file all own);
    }

    choice_held : (off line : ℕ) → off < length e.nodes → AreHeldLists (inside_choice off a file line all)
    choice_held off line n = record {
      dependencies = first_held (prompts_in a file all all) (prompts_held all own) off (position_at file line) n;
      visibles = All-nil (IsHeld e);
    }

    choice_by : (through : Bool) (off line : ℕ) → off < length e.nodes → AreHeldLists (inside_head through off codes.Choice a file line all)
    choice_by true off line n = menu_held
    choice_by false off line n = choice_held off line n

    pub head_held : (through : Bool) (off line : ℕ) (names texts : List (List ℕ)) (h : CodeHead) (w : GroupHead) → off < length e.nodes → RepresentsHead e names texts h w
        → AreHeldLists (inside_head through off h a file line all)
    head_held through off line names texts codes.Choice w n r = choice_by through off line n
    head_held through off line names texts (codes.Menu t) w n r = menu_held
    head_held through off line names texts (codes.Condition i) w n r = record {
      dependencies = All-append (IsHeld e) a.dependencies (located_if (position_at file line) (Some i)) outer.dependencies (one_held (position_at file line) (Some i) r.0);
      visibles = outer.visibles;
    }
    head_held through off line names texts x w n r = outer

-- lines of a group
pub own_held : (e : Exprs) (groups : List CodeGroup) (lines : List CodeLine) (i : ℕ) → All (LineNodesExist e) lines → All (LineNodesExist e) (lines_at groups lines i)
own_held e groups lines i h = All-take (LineNodesExist e) _ _ (All-drop (LineNodesExist e) _ lines h)

pub blocks_held : (e : Exprs) (lines : TreeLines) (read : List Group) → HasLines e lines read → (through : Bool) (opened : List Group)
    → ((g : Group) → Has g opened → Has g read)
    → AreHeldLists e (inside_blocks through lines.no lines.groups.items lines.lines.items (map (λ (g : Group). g.number) opened))
blocks_held e lines read h through [] k = record { dependencies = All-nil (IsHeld e); visibles = All-nil (IsHeld e) }
blocks_held e lines read h through (g ∷ outer) k =
    let n = shown_of e lines read h g (k g (inl refl)) in
    head_held e _ (lines_at lines.groups.items lines.lines.items g.number) (own_held e lines.groups.items lines.lines.items g.number h.held)
    (inside_blocks through lines.no lines.groups.items lines.lines.items (map (λ (m : Group). m.number) outer))
    (blocks_held e lines read h through outer (λ m i. k m (inr i))) through lines.no _ (names_defined read) h.texts _ g.head h.no_is.within n.shown.head

-- lists of lists
pub each_held : (e : Exprs) (vs : List (Vec LocatedExpr)) (pss : List (List LocatedExpr)) → each_items vs ≡ pss → All (All (IsHeld e)) pss → AreHeld e vs
each_held e [] pss same h = All-nil (λ (v : Vec LocatedExpr). All (IsHeld e) v.items)
each_held e (v ∷ vs) pss same h =
    let k = subst (All (All (IsHeld e))) (sym same) h in
    All-cons (λ (w : Vec LocatedExpr). All (IsHeld e) w.items) v vs (k 0 [] (omega arith))
    (each_held e vs (each_items vs) refl (λ i d b. k (suc i) d (omega arith)))

pub all_held : {X : Type 0} (e : Exprs) (f : X → List (List LocatedExpr)) (xs : List X) → ((x : X) → Has x xs → All (All (IsHeld e)) (f x))
    → All (All (IsHeld e)) (flat_map f xs)
all_held e f [] h = All-nil (All (IsHeld e))
all_held e f (x ∷ xs) h = All-append (All (IsHeld e)) (f x) (flat_map f xs) (h x (inl refl)) (all_held e f xs (λ y k. h y (inr k)))

pub mapped_held : {X : Type 0} (e : Exprs) (f : X → List LocatedExpr) (xs : List X) → ((x : X) → Has x xs → All (IsHeld e) (f x))
    → All (All (IsHeld e)) (map f xs)
mapped_held e f [] h = All-nil (All (IsHeld e))
mapped_held e f (x ∷ xs) h = All-cons (All (IsHeld e)) (f x) (map f xs) (h x (inl refl)) (mapped_held e f xs (λ y k. h y (inr k)))
