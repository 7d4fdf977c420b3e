-- The text for a symbol, by its parts.
use Rattle.std.proofs.Common.{◌&&◌, ◌||◌, Result, IfOk}
use Rattle.kmin_explain.proofs.Common.{◌≡◌, ℕ, zero, suc, ◌+◌, ◌<◌, ◌≤◌, Bool, true, false, List, [], ◌∷◌, ◌++◌, length, Option, Some, None, refl, sym, subst, ◌∙◌, ap, append_assoc, append-nil, drop, get_or, arith, flat_map, option_map, unwrap_or, slice_get, is_some, list_any, at_drop_more, Tree}
use Rattle.kmin_explain.proofs.Common.{Symbol, Group, TreeModel, symbol_view, PlainReasons, assigning_place, symbol_lines_view, SourcesModel, reasons_of, is_hindered_at, listed_reasons}
use Rattle.kmin_explain.proofs.Common.{explained_at}
use Rattle.std.proofs.Math.ListN.{drop_of_length-le}
use Rattle.std.proofs.lemmas.Option.{slice_get_within}
use Rattle.kc_tree_model.specs.Contents.{contents_of, symbol_of, tree_of_groups}
use Rattle.kc_tree_model.specs.Limits.{names_defined}
use Rattle.kc_tree_model.proofs.Consistency.Lists.{map-get}
use Rattle.kc_tree.specs.declared.symbol.Symbol.{Symbol as CodeSymbol}
use Rattle.kc_reasons_model.specs.SymbolLines.{lines_of_symbol}
use Rattle.kc_symbol_lines.proofs.IndexLaws.{symbol_name}
use Rattle.kc_builder.specs.declared.tree_lines.TreeLines.{TreeLines}
use Rattle.kc_builder.specs.between.TreeLines.{HasLines}
use Rattle.kc_symbol_lines.specs.declared.located.SymbolLines.{SymbolLines as CodeLines}
use Rattle.kmin_explain.specs.Explanations.{unit_for, is_hindered, explained}

-- the name of a symbol is defined with its number
pub name_defined : (t : TreeModel) (read : List Group) (s : ℕ) (symbol : Symbol) → t.tree ≡ tree_of_groups t.tree.language read
    → slice_get t.tree.symbols s ≡ Some symbol → slice_get (names_defined read) s ≡ Some symbol.name
unfolding tree_of_groups
name_defined t read s symbol e at =
    let name = symbol_name t read s e (slice_get_within t.tree.symbols s symbol at) in
    let made : slice_get t.tree.symbols s ≡ Some (symbol_of t.tree.language (contents_of read) name.0) = ap (λ (w : Tree). slice_get w.symbols s) e
    ∙ map-get (symbol_of t.tree.language (contents_of read)) (names_defined read) s name.0 name.1 in
    let same : symbol ≡ symbol_of t.tree.language (contents_of read) name.0 = same_symbol _ symbol _ at made in
    name.1 ∙ ap (λ (x : Symbol). Some x.name) (sym same)
  where
    same_symbol : (o : Option Symbol) (x y : Symbol) → o ≡ Some x → o ≡ Some y → x ≡ y
    same_symbol o x y a b = cc

-- the text of a symbol that the tree has
pub explained_is : (g : SourcesModel) (all : Bool) (s : ℕ) (symbol : Symbol) → slice_get g.tree.symbols s ≡ Some symbol
    → explained_at g all s ≡ explained g all s symbol
explained_is g all s symbol at = ap (λ k. unwrap_or (option_map (explained g all s) k) []) at

-- the reasons of a symbol as they are listed, without `--all` and with it
pub listed_plainly : (all : Bool) (symbol : Symbol) (r listed : PlainReasons) → all ≡ false → listed ≡ r → listed ≡ listed_reasons all symbol r
listed_plainly all symbol r listed off is = is ∙ sym (ap (λ b. listed_reasons b symbol r) off)

pub listed_with_all : (all : Bool) (symbol other : Symbol) (r found listed : PlainReasons) → all ≡ true → other ≡ symbol → found ≡ r → listed ≡ listed_reasons true other found
    → listed ≡ listed_reasons all symbol r
listed_with_all all symbol other r found listed on same are is =
    is ∙ ap (λ k. listed_reasons true k found) same ∙ ap (λ f. listed_reasons true symbol f) are ∙ sym (ap (λ b. listed_reasons b symbol r) on)

-- a symbol of the code as the tree has it
pub symbol_is : (t m : TreeModel) (s : ℕ) (code : CodeSymbol) (symbol : Symbol) → t ≡ m → slice_get t.tree.symbols s ≡ Some (symbol_view t.exprs code)
    → slice_get m.tree.symbols s ≡ Some symbol → symbol_view m.exprs code ≡ symbol
symbol_is t m s code symbol same at there =
    one (slice_get m.tree.symbols s) _ _ (subst (λ (x : TreeModel). slice_get x.tree.symbols s ≡ Some (symbol_view x.exprs code)) same at) there
  where
    one : (o : Option Symbol) (x y : Symbol) → o ≡ Some x → o ≡ Some y → x ≡ y
    one o x y a b = cc

-- a symbol with a number below the count of symbols
pub symbol_there : (symbols : List Symbol) (s : ℕ) → s < length symbols → (symbol : Symbol) × (slice_get symbols s ≡ Some symbol)
symbol_there [] s l = absurd (omega arith)
symbol_there (x ∷ xs) zero l = (x, refl)
symbol_there (x ∷ xs) (suc s) l = symbol_there xs s (omega arith)

-- the text of one more element
pub one_more_text : {X : Type 0} (f : X → List ℕ) (xs : List X) (i : ℕ) (d : X) (old new all : List ℕ) → i < length xs → new ≡ old ++ f (get_or xs i d)
    → old ++ flat_map f (drop i xs) ≡ all → new ++ flat_map f (drop (i + 1) xs) ≡ all
one_more_text f xs i d old new all inside pushed before =
    ap (λ x. x ++ flat_map f (drop (i + 1) xs)) pushed ∙ append_assoc old (f (get_or xs i d)) (flat_map f (drop (i + 1) xs))
    ∙ ap (λ x. old ++ x) (sym (at_drop_more (flat_map f) xs i d inside)) ∙ before

-- and after the last one
pub no_more_text : {X : Type 0} (f : X → List ℕ) (xs : List X) (i : ℕ) (old all : List ℕ) → length xs ≤ i → old ++ flat_map f (drop i xs) ≡ all → old ≡ all
no_more_text f xs i old all past before = sym (append-nil old) ∙ ap (λ ys. old ++ flat_map f ys) (sym (drop_of_length-le xs past)) ∙ before

-- what is found of a symbol's lines in a tree, and in the same tree
abbrev FindsLines : {E : Type 0} → Result CodeLines E → TreeLines → ℕ → TreeModel → Type 0
FindsLines r lines s t = (read : List Group) (name : List ℕ) → t.tree ≡ tree_of_groups t.tree.language read → HasLines t.exprs lines read
    → slice_get (names_defined read) s ≡ Some name → IfOk r (λ l. symbol_lines_view t.exprs l ≡ lines_of_symbol t.tree.language (contents_of read) name)

pub lines_found : {E : Type 0} (r : Result CodeLines E) (lines : TreeLines) (s : ℕ) (t m : TreeModel) → t ≡ m → FindsLines r lines s t → FindsLines r lines s m
lines_found r lines s t m same found = subst (FindsLines r lines s) same found

-- whether a line isn't taken, by whether there is one and whether something hinders it
pub hindered_by : (g : SourcesModel) (s : ℕ) (symbol : Symbol) (line found : Bool) → slice_get g.tree.symbols s ≡ Some symbol
    → is_some (assigning_place (unit_for g s) s 0 g.meanings) ≡ line → is_some (reasons_of g s symbol).hindrance ≡ found
    → is_hindered_at g s ≡ (line && found)
hindered_by g s symbol line found at e f =
    ap (λ k. unwrap_or (option_map (is_hindered g s) k) false) at
    ∙ ap (λ b. b && is_some (reasons_of g s symbol).hindrance) e ∙ ap (λ b. line && b) f

pub without_line : (g : SourcesModel) (s : ℕ) (symbol : Symbol) → slice_get g.tree.symbols s ≡ Some symbol
    → is_some (assigning_place (unit_for g s) s 0 g.meanings) ≡ false → is_hindered_at g s ≡ false
without_line g s symbol at e =
    ap (λ k. unwrap_or (option_map (is_hindered g s) k) false) at ∙ ap (λ b. b && is_some (reasons_of g s symbol).hindrance) e

pub some_mapped : {X Y : Type 0} (f : X → Y) (o : Option X) → is_some (option_map f o) ≡ is_some o
some_mapped f None = refl
some_mapped f (Some x) = refl

-- whether one of what is left of a list passes a test, where its first element doesn't, and where it does
pub one_passed : {X : Type 0} (p : X → Bool) (xs : List X) (i : ℕ) (d : X) (all : Bool) → i < length xs → p (get_or xs i d) ≡ false
    → list_any p (drop i xs) ≡ all → list_any p (drop (i + 1) xs) ≡ all
one_passed p xs i d all inside off before =
    sym (at_drop_more (list_any p) xs i d inside ∙ ap (λ b. b || list_any p (drop (i + 1) xs)) off) ∙ before

pub one_found : {X : Type 0} (p : X → Bool) (xs : List X) (i : ℕ) (d : X) (all : Bool) → i < length xs → p (get_or xs i d) ≡ true
    → list_any p (drop i xs) ≡ all → true ≡ all
one_found p xs i d all inside on before =
    sym (at_drop_more (list_any p) xs i d inside ∙ ap (λ b. b || list_any p (drop (i + 1) xs)) on) ∙ before

pub none_found : {X : Type 0} (p : X → Bool) (xs : List X) (i : ℕ) (all : Bool) → length xs ≤ i → list_any p (drop i xs) ≡ all → false ≡ all
none_found p xs i all past before = sym (ap (list_any p) (drop_of_length-le xs past)) ∙ before
