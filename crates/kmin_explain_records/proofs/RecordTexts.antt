-- The line of JSON for a symbol, as the code makes it.
use Rattle.kmin_explain_records.proofs.Common.{◌≡◌, ℕ, Bool, List, [], ◌++◌, Some, ◌∙◌, ap, option_map, slice_get, Json, Tree, Symbol, UnitValue, Kind, PlainReasons, SymbolLines, reasons_view, symbol_lines_view, places_view, SourcesModel, reason_places, given_members}
use Rattle.kmin_explain_records.proofs.Common.{asked_members, lacking_members, forcing_members, record_members, explained_as_json_at}
use Rattle.std.specs.Prelude.{unwrap_or}
use Rattle.kc_expr.specs.between.Arena.{Exprs}
use Rattle.kc_tree_model.specs.Contents.{contents_of}
use Rattle.kc_reasons_model.specs.SymbolLines.{lines_of_symbol}
use Rattle.kc_explanation.specs.Located.{ReasonPlaces}
use Rattle.kmin_explain.specs.Explanations.{listed_reasons, reasons_of}
use Rattle.kmin_explain.specs.between.ExplainedSymbols.{IsExplained}
use Rattle.kmin_explain.specs.declared.explained_symbols.ExplainedSymbol.{ExplainedSymbol}
use Rattle.kmin_explain_records.specs.SymbolRecords.{first_place, explained_as_json}

-- the members as the code writes them, over these values, with the symbol and its kind as it has them
abbrev pub members_over : SourcesModel → Tree → List UnitValue → ℕ → Symbol → Kind → PlainReasons → SymbolLines → ReasonPlaces → List (List ℕ × Json)
members_over g tree values s symbol kind r lines places =
    given_members g.strings g.tree_paths tree values s (first_place symbol) r.chosen r.case places.given_at
    ++ (asked_members g s kind r.case r.hindrance
    ++ (lacking_members g.strings g.tree_paths tree values symbol r.hindrance places
    ++ forcing_members g.strings g.tree_paths tree values symbol lines r))

pub members_are : (g : SourcesModel) (e m : Exprs) (tree : Tree) (values : List UnitValue) → e ≡ m → tree ≡ g.tree → values ≡ g.values
    → (s : ℕ) (symbol code : Symbol) (kind : Kind) (r : Exprs → PlainReasons) (lines : Exprs → SymbolLines) (places : Exprs → ReasonPlaces) → code ≡ symbol → kind ≡ symbol.kind
    → members_over g tree values s code kind (r e) (lines e) (places e) ≡ record_members g s symbol (r m) (lines m) (places m)
members_are g e m tree values same is_tree is_values s symbol code kind r lines places is_symbol is_kind =
    ap (λ t. members_over g t values s code kind (r e) (lines e) (places e)) is_tree
    ∙ ap (λ v. members_over g g.tree v s code kind (r e) (lines e) (places e)) is_values
    ∙ ap (λ k. members_over g g.tree g.values s code k (r e) (lines e) (places e)) is_kind
    ∙ ap (λ (x : Symbol). members_over g g.tree g.values s x symbol.kind (r e) (lines e) (places e)) is_symbol
    ∙ ap (λ x. record_members g s symbol (r x) (lines x) (places x)) same

-- the members of what is known of a symbol
pub members_known : (g : SourcesModel) (m : Exprs) (all : Bool) (symbol : Symbol) (found : ExplainedSymbol) → IsExplained g m all symbol found
    → record_members g found.symbol.s symbol (reasons_view m found.reasons) (symbol_lines_view m found.lines) (places_view m found.places)
    ≡ record_members g found.symbol.s symbol (listed_reasons all symbol (reasons_of g found.symbol.s symbol)) (lines_of_symbol g.tree.language (contents_of g.read) symbol.name)
    (reason_places g found.symbol.s symbol (lines_of_symbol g.tree.language (contents_of g.read) symbol.name) (listed_reasons all symbol (reasons_of g found.symbol.s symbol)).case)
members_known g m all symbol found is =
    let s = found.symbol.s in
    ap (λ (p : ReasonPlaces). record_members g s symbol (reasons_view m found.reasons) (symbol_lines_view m found.lines) p) is.places
    ∙ ap (λ (r : PlainReasons). record_members g s symbol r (symbol_lines_view m found.lines) (reason_places g s symbol (symbol_lines_view m found.lines) r.case)) is.reasons
    ∙ ap (λ (l : SymbolLines). record_members g s symbol (listed_reasons all symbol (reasons_of g s symbol)) l (reason_places g s symbol l (listed_reasons all symbol (reasons_of g s symbol)).case)) is.lines

-- the line of a symbol that the tree has
pub record_is : (g : SourcesModel) (all : _) (s : ℕ) (symbol : Symbol) → slice_get g.tree.symbols s ≡ Some symbol
    → explained_as_json_at g all s ≡ explained_as_json g all s symbol
record_is g all s symbol at = ap (λ k. unwrap_or (option_map (explained_as_json g all s) k) []) at
