-- What keeps a symbol from its assigned value, and what selects it against its dependencies, as the code finds it.
use Rattle.kmin_missed.proofs.Common.{◌≡◌, ℕ, false, List, [], ◌++◌, Some, sym, ◌∙◌, ap, append_assoc, slice_get, option_map, unwrap_or, codes, pieces, Exprs, Tree, Symbol, UnitValue, value_of_symbol, PlainReasons, value_text, SymbolLines, reasons_view}
use Rattle.kmin_missed.proofs.Common.{symbol_lines_view, SourcesModel, reasons_of, in_one_line, cause_at, cause_by}
use Rattle.kc_explanation.specs.Asked.{why_text}
use Rattle.kc_explanation.specs.Located.{located_details, located_details_at}
use Rattle.kc_explanation.specs.between.ReasonPlacesView.{places_view}
use Rattle.kmin_explain.specs.Explanations.{reason_places}
use Rattle.kmin_explain.specs.between.ExplainedSymbols.{IsExplained}
use Rattle.kmin_explain.specs.declared.explained_symbols.ExplainedSymbol.{ExplainedSymbol}
use Rattle.kmin_missed.specs.MissedLines.{cause}
use Rattle.kmin_explain.proofs.ReasonTexts.{reasons_known, details_known}

pub details_are : (g : SourcesModel) (m : Exprs) (s : ℕ) (symbol : Symbol) (found : ExplainedSymbol) → found.symbol.s ≡ s → IsExplained g m false symbol found
    → slice_get g.tree.symbols s ≡ Some symbol → (none text : List ℕ) → none ≡ []
    → text ≡ none ++ located_details_at g.strings g.tree_paths g.tree g.values found.symbol.s (symbol_lines_view m found.lines) (reasons_view m found.reasons) (places_view m found.places)
    → text ≡ located_details g.strings g.tree_paths g.tree g.values symbol (symbol_lines_view m found.lines) (reasons_view m found.reasons) (reason_places g s symbol (symbol_lines_view m found.lines) found.reasons.case)
details_are g m s symbol found number is at none text empty made =
    made ∙ ap (λ t. t ++ located_details_at g.strings g.tree_paths g.tree g.values found.symbol.s (symbol_lines_view m found.lines) (reasons_view m found.reasons) (places_view m found.places)) empty
    ∙ details_known g m false s symbol found number is at

-- the parts of a cause, each appended to what was there
pub cause_appended : (g : SourcesModel) (s : ℕ) (symbol : Symbol) (r : PlainReasons) (lines : SymbolLines) (tree : Tree) (values : List UnitValue) (details : List ℕ)
    → tree ≡ g.tree → values ≡ g.values
    → details ≡ located_details g.strings g.tree_paths g.tree g.values symbol lines r (reason_places g s symbol lines r.case)
    → (old one two three four : List ℕ)
    → one ≡ old ++ value_text g.strings (value_of_symbol tree values s) → two ≡ one ++ codes ": " → three ≡ two ++ why_text r.hindrance
    → four ≡ three ++ in_one_line (codes "; ") (pieces 10 details) → four ≡ old ++ cause_by g s symbol r lines
cause_appended g s symbol r lines tree values details is_tree is_values is_details old one two three four first second third fourth =
    fourth ∙ ap (λ d. three ++ in_one_line (codes "; ") (pieces 10 d)) is_details
    ∙ ap (λ x. x ++ in_one_line (codes "; ") (pieces 10 (located_details g.strings g.tree_paths g.tree g.values symbol lines r (reason_places g s symbol lines r.case))))
    (third ∙ ap (λ x. x ++ why_text r.hindrance) (second ∙ ap (λ x. x ++ codes ": ")
    (first ∙ ap (λ t. old ++ value_text g.strings (value_of_symbol t values s)) is_tree
    ∙ ap (λ v. old ++ value_text g.strings (value_of_symbol g.tree v s)) is_values)))
    ∙ simp append_assoc

-- the cause of a symbol that the tree has
pub cause_known : (g : SourcesModel) (m : Exprs) (s : ℕ) (symbol : Symbol) (found : ExplainedSymbol) → found.symbol.s ≡ s → IsExplained g m false symbol found
    → slice_get g.tree.symbols s ≡ Some symbol → cause_by g s symbol (reasons_view m found.reasons) (symbol_lines_view m found.lines) ≡ cause_at g s
cause_known g m s symbol found number is at =
    ap (λ (r : PlainReasons). cause_by g s symbol r (symbol_lines_view m found.lines)) (reasons_known g m false s symbol found number is)
    ∙ ap (λ l. cause_by g s symbol (reasons_of g s symbol) l) is.lines
    ∙ sym (ap (λ k. unwrap_or (option_map (cause g s) k) []) at)
