-- Laws of the reasons that `explain` gives for a symbol.
use Rattle.std.specs.Prelude.{◌≡◌, ◌≢◌, ℕ, true, false, not, ◌&&◌, List, [], Some, length, slice_get, Contains, unwrap_or}
use Rattle.std.specs.List.{All}
use Rattle.kc_value.specs.declared.tri.Tri.{Tri}
use Rattle.kc_value.specs.declared.tri.Tri.TheVariants.{M}
use Rattle.kc_expr.specs.Expr.{Environment, value}
use Rattle.kc_tree_model.specs.Trees.{Symbol, Choice}
use Rattle.kc_tree_model.specs.declared.ids.Unit.TheVariants.{Symbol as of_symbol, Choice as of_choice}
use Rattle.kc_rules_model.specs.Rule.{visibility, is_visible, assigned_tri, selected, counted_prompts}
use Rattle.kc_rules_model.specs.Reports.{is_unmet_symbol}
use Rattle.kc_reasons_model.specs.Conjuncts.{below}
use Rattle.kc_reasons_model.specs.SymbolLines.{SymbolLines}
use Rattle.kc_reasons_model.specs.Laws.{AreLinesOf, IsDependency}
use Rattle.kc_reasons_model.specs.Reasons.{ExplainedRun, names_of, user_for, wanted_of_prompts, reasons_of, LowPart}

-- the tristate that is assigned to symbol s; `m`, that is any visibility, where none is
abbrev pub wanted_visibility : ExplainedRun → ℕ → Tri
wanted_visibility run s = unwrap_or (assigned_tri (user_for run s)) M

-- law: where the visibility is too low for what is assigned, each prompt that counts has its alternative, and none is empty
abbrev pub HiddenNeedsAreGiven : Type 0
HiddenNeedsAreGiven = (run : ExplainedRun) (lines : SymbolLines) (s : ℕ) (symbol : Symbol)
    → AreLinesOf (names_of run) (wanted_of_prompts run s symbol) symbol lines
    → (is_visible run.tree run.values symbol && not (below (visibility run.tree run.values symbol) (wanted_visibility run s))) ≡ false
    → (length (reasons_of run lines s symbol).needs ≡ length (counted_prompts symbol))
    × All (λ (parts : List LowPart). parts ≢ []) (reasons_of run lines s symbol).needs

-- law: and where it is high enough, nothing is needed
abbrev pub NothingIsNeededIfVisible : Type 0
NothingIsNeededIfVisible = (run : ExplainedRun) (lines : SymbolLines) (s : ℕ) (symbol : Symbol)
    → AreLinesOf (names_of run) (wanted_of_prompts run s symbol) symbol lines
    → (is_visible run.tree run.values symbol && not (below (visibility run.tree run.values symbol) (wanted_visibility run s))) ≡ true
    → (reasons_of run lines s symbol).needs ≡ []

-- law: of an unmet dependency each definition has its alternative, and none is empty
abbrev pub UnmetPartsAreGiven : Type 0
UnmetPartsAreGiven = (run : ExplainedRun) (lines : SymbolLines) (s : ℕ) (symbol : Symbol)
    → AreLinesOf (names_of run) (selected run.tree run.values symbol) symbol lines
    → is_unmet_symbol run.tree run.values symbol ≡ true
    → (length (reasons_of run lines s symbol).unmet ≡ length symbol.direct)
    × All (λ (parts : List LowPart). parts ≢ []) (reasons_of run lines s symbol).unmet

-- law: the names to go on with are of units on which the symbol's unit depends
abbrev pub NextAreDependencies : Type 0
NextAreDependencies = (run : ExplainedRun) (lines : SymbolLines) (u s : ℕ) (symbol : Symbol)
    → slice_get run.tree.units u ≡ Some (of_symbol s) → slice_get run.tree.symbols s ≡ Some symbol
    → All (IsDependency run.tree u) (reasons_of run lines s symbol).next

-- law: and of a member of a choice, of units on which the choice depends; so going on from name to name comes to an end
abbrev pub MemberNextAreDependencies : Type 0
MemberNextAreDependencies = (run : ExplainedRun) (lines : SymbolLines) (u c s : ℕ) (choice : Choice) (symbol : Symbol)
    → slice_get run.tree.units u ≡ Some (of_choice c) → slice_get run.tree.choices c ≡ Some choice
    → Contains choice.members s → slice_get run.tree.symbols s ≡ Some symbol → symbol.choice ≡ Some c
    → All (IsDependency run.tree u) (reasons_of run lines s symbol).next

-- law: as long as the names to go on with have their values, no prompt that counts is high enough, whatever else changes
abbrev pub NextNamesHide : Type 0
NextNamesHide = (run : ExplainedRun) (lines : SymbolLines) (s : ℕ) (symbol : Symbol) (changed : Environment)
    → AreLinesOf (names_of run) (wanted_of_prompts run s symbol) symbol lines
    → (is_visible run.tree run.values symbol && not (below (visibility run.tree run.values symbol) (wanted_visibility run s))) ≡ false
    → All (λ name. changed name ≡ names_of run name) (reasons_of run lines s symbol).next
    → All (λ e. below (value changed e) (wanted_of_prompts run s symbol) ≡ true) (counted_prompts symbol)
