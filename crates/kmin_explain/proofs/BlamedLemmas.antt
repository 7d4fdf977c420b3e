-- The walk over an expression that keeps a condition too low.
use Rattle.std.proofs.Common.{ltb, reverse}
use Rattle.std.specs.Prelude.{filter_map, bytes_eq}
use Rattle.std.proofs.lemmas.Bool.{ltb-true}
use Rattle.std.specs.List.{position_or_len}
use Rattle.std.proofs.lemmas.List.{reverse-append}
use Rattle.std.proofs.lemmas.List.Elements.{filter_map-append}
use Rattle.kmin_explain.proofs.Common.{◌≡◌, ℕ, ◌<◌, Bool, true, false, not, cond, List, [], ◌∷◌, ◌++◌, length, Option, Some, None, refl, sym, ◌∙◌, ap, append_assoc, append-nil, All, arith, cons_option, All-nil, All-cons, Tri, Tree, Symbol, symbol_named, blamed, blamed_in_reverse}
use Rattle.kc_value.specs.declared.tri.Tri.TheVariants.{N, M}
use Rattle.kc_value.specs.Tri.{tri_not}
use Rattle.kc_expr.specs.Expr.{Expr, Operand, constant, named, quoted, alone, related, negated, both, either, shown, Environment, value}
use Rattle.kc_expr.specs.ExpressionNames.{operand_names}
use Rattle.kc_reasons_model.specs.Blame.{is_off}
use Rattle.kmin_explain.specs.checker.Bounds.{is_never_off, shown_limit}
use Rattle.kmin_explain.specs.checker.BlamedWalk.{operand_symbols}

-- the walk goes on into the left part
pub into_left : (left right whole before found all : List ℕ) → whole ≡ right ++ left → found ≡ before ++ right → before ++ whole ≡ all → found ++ left ≡ all
into_left left right whole before found all is f h =
    ap (λ xs. xs ++ left) f ∙ append_assoc before right left ∙ ap (λ x. before ++ x) (sym is) ∙ h

-- or in one part
pub into_part : (whole part before all : List ℕ) → whole ≡ part → before ++ whole ≡ all → before ++ part ≡ all
into_part whole part before all is h = ap (λ x. before ++ x) (sym is) ∙ h

-- it ends where nothing is left
pub nothing_left : (whole before all : List ℕ) → whole ≡ [] → before ++ whole ≡ all → before ≡ all
nothing_left whole before all is h = sym (append-nil before) ∙ into_part whole [] before all is h

module _ (tree : Tree) (names : Environment) where
  pub of_shown : (above : Bool) (t : Tri) (e part : Expr) (above' : Bool) (t' : Tri) → e ≡ shown part → is_never_off above t ≡ false → above' ≡ above → t' ≡ shown_limit above
      → blamed_in_reverse tree names above t e ≡ blamed_in_reverse tree names above' t' part
  of_shown above t e part above' t' is never a b =
      ap (blamed_in_reverse tree names above t) is ∙ ap (λ c. cond c [] (blamed_in_reverse tree names above (shown_limit above) part)) never
      ∙ ap (λ x. blamed_in_reverse tree names x (shown_limit above) part) (sym a) ∙ ap (λ x. blamed_in_reverse tree names above' x part) (sym b)

  -- turned round, what the walk finds are the blamed names
  one_kept : (o : Option ℕ) → reverse (cons_option o []) ≡ cons_option o []
  one_kept None = refl
  one_kept (Some s) = refl

  operand_kept : (a : Operand) → reverse (operand_symbols tree a) ≡ operand_symbols tree a
  operand_kept (constant t) = refl
  operand_kept (named name) = one_kept (symbol_named tree name)
  operand_kept (quoted text) = refl

  if_kept : (b : Bool) (xs : List ℕ) (ys : List (List ℕ)) → reverse xs ≡ filter_map (symbol_named tree) ys → reverse (cond b xs []) ≡ filter_map (symbol_named tree) (cond b ys [])
  if_kept true xs ys h = h
  if_kept false xs ys h = refl

  pair_kept : (xs ys : List ℕ) (ns ms : List (List ℕ)) → reverse xs ≡ filter_map (symbol_named tree) ns → reverse ys ≡ filter_map (symbol_named tree) ms
      → reverse (ys ++ xs) ≡ filter_map (symbol_named tree) (ns ++ ms)
  pair_kept xs ys ns ms e f =
      reverse-append ys xs ∙ ap (λ x. x ++ reverse ys) e ∙ ap (λ y. filter_map (symbol_named tree) ns ++ y) f ∙ sym (filter_map-append (symbol_named tree) ns ms)

  unless_kept : (b : Bool) (xs : List ℕ) (ys : List (List ℕ)) → reverse xs ≡ filter_map (symbol_named tree) ys → reverse (cond b [] xs) ≡ filter_map (symbol_named tree) (cond b [] ys)
  unless_kept true xs ys h = refl
  unless_kept false xs ys h = h

  pub turned : (above : Bool) (t : Tri) (e : Expr) → reverse (blamed_in_reverse tree names above t e) ≡ filter_map (symbol_named tree) (blamed names above t e)
  turned above t (alone a) = if_kept (is_off above t (value names (alone a))) (operand_symbols tree a) (operand_names a) (operand_kept a)
  turned above t (related op a b) =
      if_kept (is_off above t (value names (related op a b))) (operand_symbols tree b ++ operand_symbols tree a) (operand_names a ++ operand_names b)
      (pair_kept (operand_symbols tree a) (operand_symbols tree b) (operand_names a) (operand_names b) (operand_kept a) (operand_kept b))
  turned above t (negated e) = turned (not above) (tri_not t) e
  turned above t (both a b) =
      if_kept (is_off above t (value names (both a b))) _ (blamed names above t a ++ blamed names above t b)
      (pair_kept (blamed_in_reverse tree names above t a) (blamed_in_reverse tree names above t b) (blamed names above t a) (blamed names above t b) (turned above t a) (turned above t b))
  turned above t (either a b) =
      if_kept (is_off above t (value names (either a b))) _ (blamed names above t a ++ blamed names above t b)
      (pair_kept (blamed_in_reverse tree names above t a) (blamed_in_reverse tree names above t b) (blamed names above t a) (blamed names above t b) (turned above t a) (turned above t b))
  turned true t (shown e) = unless_kept (is_never_off true t) (blamed_in_reverse tree names true N e) (blamed names true N e) (turned true N e)
  turned false t (shown e) = unless_kept (is_never_off false t) (blamed_in_reverse tree names false M e) (blamed names false M e) (turned false M e)

  pub found_turned : (t : Tri) (e : Expr) (none found last : List ℕ) → none ≡ [] → found ≡ none ++ blamed_in_reverse tree names false t e → last ≡ reverse found
      → last ≡ filter_map (symbol_named tree) (blamed names false t e)
  found_turned t e none found last empty f h = h ∙ ap reverse (f ∙ ap (λ xs. xs ++ blamed_in_reverse tree names false t e) empty) ∙ turned false t e

-- the symbols that names mean are of the tree
module _ (tree : Tree) where
  found_below : (at n s : ℕ) → cond (ltb at n) (Some at) None ≡ Some s → s < n
  found_below at n s e = by_test (ltb at n) refl e where
    by_test : (b : Bool) → ltb at n ≡ b → cond b (Some at) None ≡ Some s → s < n
    by_test true test e = let same : at ≡ s = cc in let below = ltb-true at n test in omega arith
    by_test false test e = absurd (cc)

  named_there : (name : List ℕ) (s : ℕ) → symbol_named tree name ≡ Some s → s < length tree.symbols
  named_there name s e = found_below (position_or_len (λ (symbol : Symbol). bytes_eq name symbol.name) tree.symbols) (length tree.symbols) s e

  with_one : (o : Option ℕ) (rest : List ℕ) → ((s : ℕ) → o ≡ Some s → s < length tree.symbols) → All (λ s. s < length tree.symbols) rest
      → All (λ s. s < length tree.symbols) (cons_option o rest)
  with_one None rest there all = all
  with_one (Some s) rest there all = All-cons (λ s. s < length tree.symbols) s rest (there s refl) all

  pub all_there : (names : List (List ℕ)) → All (λ s. s < length tree.symbols) (filter_map (symbol_named tree) names)
  all_there [] = All-nil (λ s. s < length tree.symbols)
  all_there (name ∷ names) = with_one (symbol_named tree name) (filter_map (symbol_named tree) names) (λ s e. named_there name s e) (all_there names)
