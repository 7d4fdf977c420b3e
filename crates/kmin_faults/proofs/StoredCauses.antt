-- Causes by the stored parts of a symbol or a choice.
use Rattle.kmin_faults.proofs.Common.{◌≡◌, ℕ, Bool, false, Option, Some, None, ap, ◌∙◌, find, slice_get, list_any, Exprs, node_expr, any_map, symbol_view, Tree, choice_depends, names_unit, prompts_name_unit, symbol_depends}
use Rattle.kc_tree.specs.declared.symbol.Symbol.{Symbol as KeptSymbol}
use Rattle.kc_tree_model.specs.Trees.{Symbol, Choice}
use Rattle.kc_tree_model.specs.declared.ids.Unit.TheVariants.{Symbol as of_symbol, Choice as of_choice}
use Rattle.kc_tree_model.specs.declared.ids.Unit.{Unit as TreeUnit}
use Rattle.kmin_faults.specs.Causes.{all_causes, cause_of, unit_depends}

-- the test of a prompt that is stored
pub prompts_shown : (tree : Tree) (exprs : Exprs) (unit s : ℕ) (k : KeptSymbol) → slice_get tree.symbols s ≡ Some (symbol_view exprs k)
    → prompts_name_unit tree unit (slice_get tree.symbols s) ≡ list_any (λ id. names_unit tree unit (node_expr exprs id)) k.prompts.now
prompts_shown tree exprs unit s k e = ap (prompts_name_unit tree unit) e ∙ any_map (names_unit tree unit) (node_expr exprs) k.prompts.now

-- the first cause of a unit is that of its symbol or choice
pub symbol_unit : (tree : Tree) (unit other s : ℕ) (symbol : Symbol) → slice_get tree.units unit ≡ Some (of_symbol s) → slice_get tree.symbols s ≡ Some symbol
    → cause_of tree unit other ≡ find (λ one. symbol_depends one tree symbol other) all_causes
symbol_unit tree unit other s symbol e f =
    ap (λ (u : Option TreeUnit). find (λ cause. unit_depends cause tree u other) all_causes) e
    ∙ ap (λ (o : Option Symbol). find (λ cause. elim o as (λ _. Bool) [ None ↦ false | Some symbol ↦ symbol_depends cause tree symbol other ]) all_causes) f

pub choice_unit : (tree : Tree) (unit other c : ℕ) (choice : Choice) → slice_get tree.units unit ≡ Some (of_choice c) → slice_get tree.choices c ≡ Some choice
    → cause_of tree unit other ≡ find (λ one. choice_depends one tree choice other) all_causes
choice_unit tree unit other c choice e f =
    ap (λ (u : Option TreeUnit). find (λ cause. unit_depends cause tree u other) all_causes) e
    ∙ ap (λ (o : Option Choice). find (λ cause. elim o as (λ _. Bool) [ None ↦ false | Some choice ↦ choice_depends cause tree choice other ]) all_causes) f
