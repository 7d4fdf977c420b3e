-- The text for a symbol, as the code makes it.
use Rattle.kmin_explain.proofs.Common.{◌≡◌, ℕ, Bool, List, ◌++◌, Option, Some, sym, subst, ◌∙◌, ap, option_map, slice_get, Tri, Exprs, Tree, Symbol, symbol_view, UnitValue, environment, Case, wanted_by, SymbolLines, reasons_view, symbol_lines_view, ReasonPlaces, located_first_line, located_details_at}
use Rattle.kmin_explain.proofs.Common.{SourcesModel, asked_lines, reason_places, explained_at, explained_by, listed_reasons, reasons_of}
use Rattle.kc_tree.specs.declared.symbol.Symbol.{Symbol as CodeSymbol}
use Rattle.kc_symbol_lines.specs.declared.located.SymbolLines.{SymbolLines as CodeLines}
use Rattle.kc_symbol_lines.specs.between.LinesView.{position_view}
use Rattle.kc_located_reasons.specs.GivenPlaces.{given_place}
use Rattle.kc_located_reasons.specs.LocatedNeeds.{prompts_lack_at, dependencies_lack_at}
use Rattle.kc_explanation.specs.declared.located_explanation.ReasonPlaces.{ReasonPlaces as CodePlaces}
use Rattle.kc_explanation.specs.between.ReasonPlacesView.{places_view}
use Rattle.kmin_explain.specs.Explanations.{user_for}
use Rattle.kc_explanation.specs.Located.{located_details}
use Rattle.kmin_explain.proofs.SymbolTexts.{explained_is}
use Rattle.kc_explanation.proofs.ExplanationLemmas.{joined_three, located_details_is}
use Rattle.kmin_explain.specs.between.ExplainedSymbols.{IsExplained}
use Rattle.kmin_explain.specs.declared.explained_symbols.ExplainedSymbol.{ExplainedSymbol}

-- the places that are found for a symbol
abbrev pub places_for : Tree → List UnitValue → Symbol → SymbolLines → Tri → Case → ReasonPlaces
places_for tree values symbol lines wanted case = record {
  given_at = given_place tree values symbol lines case;
  needs = prompts_lack_at (environment tree values) wanted symbol lines;
  unmet = dependencies_lack_at tree values symbol lines;
}

pub places_are : (g : SourcesModel) (s : ℕ) (symbol code : Symbol) (lines : SymbolLines) (case : Case) (tree : Tree) (values : List UnitValue) (wanted : Tri) (places : ReasonPlaces)
    → tree ≡ g.tree → values ≡ g.values → code ≡ symbol → wanted ≡ wanted_by tree code (user_for g s) values
    → places ≡ places_for tree values code lines wanted case → places ≡ reason_places g s symbol lines case
places_are g s symbol code lines case tree values wanted places is_tree is_values is_symbol is_wanted are =
    are ∙ ap (λ w. places_for tree values code lines w case) is_wanted
    ∙ ap (λ k. places_for tree values k lines (wanted_by tree k (user_for g s) values) case) is_symbol
    ∙ ap (λ v. places_for tree v symbol lines (wanted_by tree symbol (user_for g s) v) case) is_values
    ∙ ap (λ t. places_for t g.values symbol lines (wanted_by t symbol (user_for g s) g.values) case) is_tree

pub places_found : (g : SourcesModel) (e m : Exprs) (s : ℕ) (symbol : Symbol) (code : CodeSymbol) (lines : CodeLines) (case : Case) (places : CodePlaces)
    (tree : Tree) (values : List UnitValue) (wanted : Tri) → e ≡ m → tree ≡ g.tree → values ≡ g.values → symbol_view e code ≡ symbol
    → wanted ≡ wanted_by tree (symbol_view e code) (user_for g s) values
    → places_view e places ≡ places_for tree values (symbol_view e code) (symbol_lines_view e lines) wanted case
    → places_view m places ≡ reason_places g s symbol (symbol_lines_view m lines) case
places_found g e m s symbol code lines case places tree values wanted same is_tree is_values is_symbol is_wanted are =
    subst (λ x. places_view x places ≡ reason_places g s symbol (symbol_lines_view x lines) case) same
    (places_are g s symbol (symbol_view e code) (symbol_lines_view e lines) case tree values wanted (places_view e places) is_tree is_values is_symbol is_wanted are)

-- what is known of a symbol, by its number
pub reasons_known : (g : SourcesModel) (m : Exprs) (all : Bool) (s : ℕ) (symbol : Symbol) (found : ExplainedSymbol) → found.symbol.s ≡ s
    → IsExplained g m all symbol found → reasons_view m found.reasons ≡ listed_reasons all symbol (reasons_of g s symbol)
reasons_known g m all s symbol found number is = is.reasons ∙ ap (λ n. listed_reasons all symbol (reasons_of g n symbol)) number

pub places_known : (g : SourcesModel) (m : Exprs) (all : Bool) (s : ℕ) (symbol : Symbol) (found : ExplainedSymbol) → found.symbol.s ≡ s
    → IsExplained g m all symbol found → places_view m found.places ≡ reason_places g s symbol (symbol_lines_view m found.lines) found.reasons.case
places_known g m all s symbol found number is = is.places ∙ ap (λ n. reason_places g n symbol (symbol_lines_view m found.lines) found.reasons.case) number

pub details_known : (g : SourcesModel) (m : Exprs) (all : Bool) (s : ℕ) (symbol : Symbol) (found : ExplainedSymbol) → found.symbol.s ≡ s
    → IsExplained g m all symbol found → slice_get g.tree.symbols s ≡ Some symbol
    → located_details_at g.strings g.tree_paths g.tree g.values found.symbol.s (symbol_lines_view m found.lines) (reasons_view m found.reasons) (places_view m found.places)
    ≡ located_details g.strings g.tree_paths g.tree g.values symbol (symbol_lines_view m found.lines) (reasons_view m found.reasons) (reason_places g s symbol (symbol_lines_view m found.lines) found.reasons.case)
details_known g m all s symbol found number is at =
    let r = reasons_view m found.reasons in
    let lines = symbol_lines_view m found.lines in
    ap (λ n. located_details_at g.strings g.tree_paths g.tree g.values n lines r (places_view m found.places)) number
    ∙ ap (λ p. located_details_at g.strings g.tree_paths g.tree g.values s lines r p) (places_known g m all s symbol found number is)
    ∙ located_details_is g.strings g.tree_paths g.tree g.values s symbol lines r (reason_places g s symbol lines found.reasons.case) at

-- the three parts of the text for a symbol, each appended to what was there
pub explained_text : (g : SourcesModel) (m : Exprs) (all : Bool) (s : ℕ) (symbol : Symbol) (found : ExplainedSymbol) → found.symbol.s ≡ s → IsExplained g m all symbol found
    → slice_get g.tree.symbols s ≡ Some symbol → (old one two three : List ℕ)
    → one ≡ old ++ located_first_line g.strings g.tree_paths g.tree g.values found.symbol.s found.reasons.chosen found.reasons.case (option_map position_view found.places.given_at)
    → two ≡ one ++ asked_lines g found.symbol.s found.symbol.kind found.reasons.case found.reasons.hindrance
    → three ≡ two ++ located_details_at g.strings g.tree_paths g.tree g.values found.symbol.s (symbol_lines_view m found.lines) (reasons_view m found.reasons) (places_view m found.places)
    → three ≡ old ++ explained_at g all s
explained_text g m all s symbol found number is at old one two three first second third =
    let r = reasons_view m found.reasons in
    let lines = symbol_lines_view m found.lines in
    joined_three old one two three _ _ _
    (first ∙ ap (λ n. old ++ located_first_line g.strings g.tree_paths g.tree g.values n r.chosen r.case (places_view m found.places).given_at) number
    ∙ ap (λ (p : ReasonPlaces). old ++ located_first_line g.strings g.tree_paths g.tree g.values s r.chosen r.case p.given_at) (places_known g m all s symbol found number is))
    (second ∙ ap (λ n. one ++ asked_lines g n found.symbol.kind r.case r.hindrance) number ∙ ap (λ k. one ++ asked_lines g s k r.case r.hindrance) is.kind)
    (third ∙ ap (λ x. two ++ x) (details_known g m all s symbol found number is at))
    ∙ ap (λ x. old ++ explained_by g s symbol x lines) (reasons_known g m all s symbol found number is)
    ∙ ap (λ l. old ++ explained_by g s symbol (listed_reasons all symbol (reasons_of g s symbol)) l) is.lines
    ∙ ap (λ x. old ++ x) (sym (explained_is g all s symbol at))

-- two symbols with one number in one tree
pub same_at : (tree other : Tree) (s : ℕ) (x y : Symbol) → tree ≡ other → slice_get tree.symbols s ≡ Some x → slice_get other.symbols s ≡ Some y → x ≡ y
same_at tree other s x y same at there =
    one (slice_get other.symbols s) x y (subst (λ (t : Tree). slice_get t.symbols s ≡ Some x) same at) there
  where
    one : (o : Option Symbol) (x y : Symbol) → o ≡ Some x → o ≡ Some y → x ≡ y
    one o x y a b = cc
