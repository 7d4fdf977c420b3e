-- A summary while it is made, and what a definition adds to it.
use Rattle.std.specs.Prelude.{◌≡◌, ℕ, ◌&&◌, List, ◌++◌, map, slice_index_or, slice_set, Option, Some, None, is_none, option_to_list, if◌then◌else◌}
use Rattle.kc_tree_model.specs.declared.ids.Unit.{Unit as TreeUnit}
use Rattle.kc_tree_model.specs.declared.ids.Unit.TheVariants.{Symbol as of_symbol}
use Rattle.kc_tree_model.specs.Blocks.{Group}
use Rattle.kc_tree_model.specs.Conditions.{groups_in_context}
use Rattle.kc_tree_model.specs.Contents.{contents_of}
use Rattle.kc_parser.specs.declared.listing.Listing.{Listing}
use Rattle.kc_parser.specs.between.ListingView.{RepresentsListing}
use Rattle.kc_tree.specs.declared.items_with_keys.ItemsWithKeys.{ItemsWithKeys}
use Rattle.kc_checks.specs.between.Summaries.{first_summary, read_before, IsSummaryOf}
use Rattle.kc_checks.specs.declared.summary.Summary.{Summary}
use Rattle.kc_checks.specs.declared.summary.SymbolSummary.{SymbolSummary}

-- a summary is that of the groups of a listing before the one of this number
unfoldable pub IsSummedTo : Listing → ℕ → Summary → Type 0
IsSummedTo l i s = (read : List Group) → RepresentsListing l read → IsSummaryOf (contents_of read) (groups_in_context (read_before i read)) s

-- the summary of a symbol without definitions
abbrev pub nothing_known : SymbolSummary
nothing_known = record { first = None; given = None; choice = None }

-- the summary of the symbol with this number; an empty one if there is no such symbol
abbrev pub summary_at : List SymbolSummary → ℕ → SymbolSummary
summary_at symbols s = slice_index_or symbols s nothing_known

-- the choice in which a definition defines its symbol first, if it does so in a choice: from the summary of the definitions before,
-- and that of this one
abbrev pub choice_if_first : SymbolSummary → SymbolSummary → Option ℕ
choice_if_first symbol_summary here = if is_none symbol_summary.first then here.choice else None

-- the symbol as a unit, if a definition defines it first and outside choices
abbrev pub unit_if_first : SymbolSummary → SymbolSummary → ℕ → Option TreeUnit
unit_if_first symbol_summary here s = if is_none symbol_summary.first && is_none here.choice then Some (of_symbol s) else None

-- `new` is `old` with a symbol appended under the number of a choice, if there is a choice
pub record HasMember (choice : Option ℕ) (s : ℕ) (old new : ItemsWithKeys ℕ) : Type 0 where
  pub keys : new.keys.items ≡ old.keys.items ++ option_to_list choice
  pub members : new.items.items ≡ old.items.items ++ map (λ _. s) (option_to_list choice)

-- `new` is `old` with one more definition of a symbol, which alone gives the summary `here`
pub record HasDefined (s : ℕ) (here : SymbolSummary) (old new : Summary) : Type 0 where
  pub symbols : new.symbols.items ≡ slice_set old.symbols.items s (first_summary (summary_at old.symbols.items s) here)
  pub choices : new.choices ≡ old.choices
  pub members : HasMember here.choice s old.members new.members
  pub own_members : HasMember (choice_if_first (summary_at old.symbols.items s) here) s old.own_members new.own_members
  pub units : new.units.items ≡ old.units.items ++ option_to_list (unit_if_first (summary_at old.symbols.items s) here s)
