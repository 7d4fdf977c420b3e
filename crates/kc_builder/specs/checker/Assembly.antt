-- The parts from which a tree is assembled.
use Rattle.std.specs.Prelude.{◌≡◌, ◌⊎◌, ℕ, ◌<◌, ◌^◌, List, None, Some, length, slice_get}
use Rattle.kc_tree_model.specs.Blocks.{Group}
use Rattle.kc_tokens.specs.declared.language.Language.{Language}
use Rattle.kc_tree_model.specs.Contents.{tree_of_groups}
use Rattle.kc_tree_model.specs.declared.fault.TreeFault.{TreeFault}
use Rattle.kc_tree_model.specs.TreeFiles.{Files}
use Rattle.kc_tree_model.specs.TreeReading.{reading}
use Rattle.kc_tree_model.specs.TreeFaults.{first_tree_fault, tree_faults}
use Rattle.kc_parser.specs.declared.listing.Listing.{Listing}
use Rattle.kc_parser.specs.between.ListingView.{RepresentsListing}
use Rattle.kc_parser.specs.between.MemoryFaults.{no_memory}
use Rattle.kc_builder.specs.between.TreeLines.{HasLines}
use Rattle.kc_builder.specs.checker.ChoiceDefaults.{IsWalkOf}
use Rattle.kc_tree.specs.between.GatheredFits.{GatheredFit}
use Rattle.kc_tree.specs.between.GatheredView.{gathered_tree}
use Rattle.kc_builder.specs.declared.tree_lines.TreeLines.{TreeLines}
use Rattle.kc_tree.specs.declared.rows.SymbolRow.{SymbolRow}
use Rattle.kc_tree.specs.declared.tree_lists.TreeLists.{TreeLists}
use Rattle.kc_checks.specs.declared.summary.Summary.{Summary}
use Rattle.kc_builder.specs.declared.group_parts.GroupParts.{GroupParts}
use Rattle.std.specs.Global.{Vec}
use Rattle.kc_conditions.specs.declared.listing_walk.WalkedListing.{WalkedListing}

-- a listing represents the statements read from files in this language
pub record IsReadIn (language : Language) (l : Listing) (files : Files) (root : List ℕ) : Type 0 where
  pub written : language ≡ files.language
  pub shows : RepresentsListing l (reading files root).read

-- a walked listing represents the statements read from files, with their conditions and the language
pub record IsWalk (w : WalkedListing) (files : Files) (root : List ℕ) : Type 0 where
  pub walk : IsWalkOf files.language w.listing w.groups.items w.conditions.items (reading files root).read
  pub written : w.language ≡ files.language

-- a walked listing has fewer than 2^32 groups, so that each group's number fits in 32 bits
abbrev pub AreFew : WalkedListing → Type 0
AreFew w = length w.listing.groups.items < 2 ^ 32

-- the collected lists of a tree, from a listing, the rows of its symbols, what its groups give, and its summary
abbrev pub lists_from : Language → Listing → Vec SymbolRow → GroupParts → Summary → TreeLists
lists_from language l symbols parts summary = record {
  arena = l.names.arena;
  symbols = symbols;
  attributes = parts.attributes;
  choices = parts.rows;
  members = summary.own_members;
  member_defaults = parts.defaults;
  entries = parts.entries;
  titles = l.texts;
  units = summary.units;
  language = language;
}

-- the lines of a tree, from a listing and the number of the expression `n`
abbrev pub lines_from : Listing → ℕ → TreeLines
lines_from l off = record { groups = l.groups; lines = l.lines; no = off }

-- the collected lists represent the tree of the statements read in a language, and all numbers in them are in range
pub record IsGathering (language : Language) (read : List Group) (g : TreeLists) : Type 0 where
  pub whole : gathered_tree g ≡ tree_of_groups language read
  pub fits : GatheredFit g

-- the collected lists and lines are those of the statements read from files, in which the checks on the whole tree find no fault
pub record IsGatheredRead (files : Files) (root : List ℕ) (g : TreeLists) (lines : TreeLines) : Type 0 where
  pub faultless : None ≡ slice_get (tree_faults files.language (reading files root).read) 0
  pub lists : IsGathering files.language (reading files root).read g
  pub lines_are : HasLines g.arena lines (reading files root).read

-- a fault is out of memory, or the first of the checks on the statements read from files
abbrev pub IsFaultRead : Files → List ℕ → TreeFault → Type 0
IsFaultRead files root fault = (fault ≡ no_memory) ⊎ (Some fault ≡ slice_get (tree_faults files.language (reading files root).read) 0)

-- the collected lists and lines are those of files without a fault
pub record IsGathered (files : Files) (root : List ℕ) (g : TreeLists) (lines : TreeLines) : Type 0 where
  pub untold : first_tree_fault files root ≡ None
  pub lists : IsGathering files.language (reading files root).read g
  pub lines_are : HasLines g.arena lines (reading files root).read
