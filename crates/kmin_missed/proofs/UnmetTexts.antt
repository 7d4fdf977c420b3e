-- What selects a symbol against its dependencies, and what is unmet, as the code finds it.
use Rattle.kmin_missed.proofs.Common.{◌≡◌, ℕ, List, [], ◌∷◌, ◌++◌, Some, subst, ◌∙◌, ap, append_assoc, slice_get, option_map, unwrap_or, codes, pieces, Exprs, Tree, Symbol, UnitValue, value_of_symbol, PlainReasons, value_text, SymbolLines, Vec, symbol_view, symbol_lines_view, place_text}
use Rattle.kmin_missed.proofs.Common.{SourcesModel, in_one_line, first_place, unmet_row_at, unmet_row_by}
use Rattle.kc_reasons_model.specs.Reasons.{name_of_symbol}
use Rattle.kc_symbol_lines.specs.declared.located.SymbolLines.{SymbolLines as CodeLines}
use Rattle.kc_located_reasons.specs.LocatedNeeds.{LocatedPart, dependencies_lack_at}
use Rattle.kc_tree.specs.declared.symbol.Symbol.{Symbol as CodeSymbol}
use Rattle.kc_located_reasons.specs.declared.located_parts.LocatedPart.{LocatedPart as CodePart}
use Rattle.kc_located_reasons.specs.between.PartsView.{located_alternatives_view}
use Rattle.kc_explanation.specs.Located.{located_unmet_at}
use Rattle.kc_explanation.specs.declared.context.Context.{Context}
use Rattle.kc_explanation.specs.checker.Contexts.{exprs_of, tree_of, values_of}
use Rattle.kc_explanation.proofs.ExplanationLemmas.{located_unmet_is}
use Rattle.kmin_explain.proofs.Contexts.{IsContextOf}
use Rattle.kmin_missed.specs.UnmetLines.{unmet_row}
use Rattle.kmin_missed.specs.checker.UnmetDetails.{unmet_details}

-- what the definitions of a symbol lack
pub lacking_are : (g : SourcesModel) (e m : Exprs) (symbol : Symbol) (code : CodeSymbol) (lines : CodeLines) (parts : List (Vec CodePart)) (tree : Tree) (values : List UnitValue)
    → e ≡ m → tree ≡ g.tree → values ≡ g.values → symbol_view e code ≡ symbol
    → located_alternatives_view e parts ≡ dependencies_lack_at tree values (symbol_view e code) (symbol_lines_view e lines)
    → located_alternatives_view m parts ≡ dependencies_lack_at g.tree g.values symbol (symbol_lines_view m lines)
lacking_are g e m symbol code lines parts tree values same is_tree is_values is_symbol are =
    subst (λ x. located_alternatives_view x parts ≡ dependencies_lack_at g.tree g.values symbol (symbol_lines_view x lines)) same
    (are ∙ ap (λ t. dependencies_lack_at t values (symbol_view e code) (symbol_lines_view e lines)) is_tree
    ∙ ap (λ v. dependencies_lack_at g.tree v (symbol_view e code) (symbol_lines_view e lines)) is_values
    ∙ ap (λ k. dependencies_lack_at g.tree g.values k (symbol_lines_view e lines)) is_symbol)

pub unmet_details_are : (g : SourcesModel) (m : Exprs) (by : Context) → IsContextOf g m by → (s : ℕ) (symbol : Symbol) (r : PlainReasons) (lines : SymbolLines)
    (parts : Exprs → List (List LocatedPart)) → parts m ≡ dependencies_lack_at g.tree g.values symbol lines → slice_get g.tree.symbols s ≡ Some symbol
    → (none text : List ℕ) → none ≡ []
    → text ≡ none ++ located_unmet_at by.strings by.paths.now (tree_of by) (values_of by) s lines.selectors r.selected_by (parts (exprs_of by))
    → text ≡ unmet_details g symbol r lines
unmet_details_are g m by is s symbol r lines parts are at none text empty made =
    let ps = lines.selectors in
    let ns = r.selected_by in
    made ∙ ap (λ t. t ++ located_unmet_at by.strings by.paths.now (tree_of by) (values_of by) s ps ns (parts (exprs_of by))) empty
    ∙ ap (λ k. located_unmet_at k by.paths.now (tree_of by) (values_of by) s ps ns (parts (exprs_of by))) is.strings
    ∙ ap (λ paths. located_unmet_at g.strings paths (tree_of by) (values_of by) s ps ns (parts (exprs_of by))) is.paths
    ∙ ap (λ t. located_unmet_at g.strings g.tree_paths t (values_of by) s ps ns (parts (exprs_of by))) is.tree
    ∙ ap (λ v. located_unmet_at g.strings g.tree_paths g.tree v s ps ns (parts (exprs_of by))) is.values
    ∙ ap (λ x. located_unmet_at g.strings g.tree_paths g.tree g.values s ps ns (parts x)) is.exprs
    ∙ ap (λ qs. located_unmet_at g.strings g.tree_paths g.tree g.values s ps ns qs) are
    ∙ located_unmet_is g.strings g.tree_paths g.tree g.values s symbol ps ns (dependencies_lack_at g.tree g.values symbol lines) at

-- parts that are appended one by one, with the same text after the first two
joined : (old place colon name value details last : List ℕ) → ((((((old ++ place) ++ colon) ++ name) ++ colon) ++ value) ++ details) ++ last
    ≡ old ++ (place ++ (colon ++ (name ++ (colon ++ (value ++ (details ++ last))))))
joined old place colon name value details last = simp append_assoc

-- the parts of a line, each appended to what was there
pub unmet_appended : (g : SourcesModel) (s : ℕ) (symbol : Symbol) (r : PlainReasons) (lines : SymbolLines) (tree : Tree) (values : List UnitValue) (details : List ℕ)
    → tree ≡ g.tree → values ≡ g.values
    → details ≡ unmet_details g symbol r lines
    → (old a b c d e f h : List ℕ) → a ≡ old ++ place_text g.tree_paths (first_place symbol) → b ≡ a ++ codes ": " → c ≡ b ++ name_of_symbol tree s → d ≡ c ++ codes ": "
    → e ≡ d ++ value_text g.strings (value_of_symbol tree values s) → f ≡ e ++ in_one_line (codes ": ") (pieces 10 details) → h ≡ f ++ 10 ∷ []
    → h ≡ old ++ unmet_row_by g s symbol r lines
unmet_appended g s symbol r lines tree values details is_tree is_values is_details old a b c d e f h first second third fourth fifth sixth last =
    let text = in_one_line (codes ": ") (pieces 10 (unmet_details g symbol r lines)) in
    last ∙ ap (λ x. x ++ 10 ∷ []) (sixth ∙ ap (λ x. e ++ in_one_line (codes ": ") (pieces 10 x)) is_details ∙ ap (λ x. x ++ text)
    (fifth ∙ ap (λ t. d ++ value_text g.strings (value_of_symbol t values s)) is_tree ∙ ap (λ v. d ++ value_text g.strings (value_of_symbol g.tree v s)) is_values
    ∙ ap (λ x. x ++ value_text g.strings (value_of_symbol g.tree g.values s))
    (fourth ∙ ap (λ x. x ++ codes ": ") (third ∙ ap (λ t. b ++ name_of_symbol t s) is_tree ∙ ap (λ x. x ++ name_of_symbol g.tree s) (second ∙ ap (λ x. x ++ codes ": ") first)))))
    ∙ joined old (place_text g.tree_paths (first_place symbol)) (codes ": ") (name_of_symbol g.tree s) (value_text g.strings (value_of_symbol g.tree g.values s)) text (10 ∷ [])

-- the line of a symbol that the tree has
pub unmet_row_is : (g : SourcesModel) (s : ℕ) (symbol : Symbol) → slice_get g.tree.symbols s ≡ Some symbol → unmet_row_at g s ≡ unmet_row g s symbol
unmet_row_is g s symbol at = ap (λ k. unwrap_or (option_map (unmet_row g s) k) []) at
