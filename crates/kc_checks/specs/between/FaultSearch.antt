-- The state of the search for the first fault.
use Rattle.std.specs.Prelude.{◌≡◌, ℕ, ◌≤◌, List, [], flat_map, length, slice_get, slice_index, None}
use Rattle.kc_tokens.specs.declared.language.Language.{Language}
use Rattle.kc_tree_model.specs.Blocks.{Group}
use Rattle.kc_tree_model.specs.Conditions.{groups_in_context}
use Rattle.kc_tree_model.specs.Contents.{Contents, contents_of}
use Rattle.kc_tree_model.specs.TreeFaults.{faults_of_group, tree_faults}
use Rattle.kc_parser.specs.declared.listing.Listing.{Listing}
use Rattle.kc_parser.specs.between.ListingView.{RepresentsListing}
use Rattle.kc_tree.specs.between.GroupedItems.{IsGrouped}
use Rattle.kc_checks.specs.declared.search.Checks.{Checks}
use Rattle.kc_checks.specs.between.Summaries.{read_before, enclosing_choice, member_keys_at, members_at}

-- the number of choices that begin before the group of this number
abbrev pub choices_before : ℕ → List Group → ℕ
choices_before i read = length (contents_of (read_before i read)).choices

-- the second number counts the choices that begin before the group of the first number in a listing
abbrev pub CountsChoices : Listing → ℕ → ℕ → Type 0
CountsChoices l i choices = (read : List Group) → RepresentsListing l read → choices ≡ choices_before i read

-- the members of the choices that were read are grouped by choice: the first list has where each choice's members begin, the
-- second the members
abbrev pub AreMembersByChoice : Contents → List ℕ → List ℕ → Type 0
AreMembersByChoice c starts items =
    IsGrouped (length c.choices) (flat_map (member_keys_at (enclosing_choice c) c) c.places) (flat_map (members_at (enclosing_choice c) c) c.places) starts items

-- the members of the choices of a listing are grouped by choice
abbrev pub HasMembers : Listing → List ℕ → List ℕ → Type 0
HasMembers l starts items = (read : List Group) → RepresentsListing l read → AreMembersByChoice (contents_of read) starts items

-- no mark of a list is greater than a number
abbrev pub AreSmall : List ℕ → ℕ → Type 0
AreSmall marks most = (s : ℕ) → slice_index marks s ≤ most

-- no group of a listing before the one of this number has a fault in a language
abbrev pub HaveNoFault : Language → Listing → ℕ → Type 0
HaveNoFault language l i = (read : List Group) → RepresentsListing l read → slice_get (flat_map (faults_of_group language (contents_of read)) (groups_in_context (read_before i read))) 0 ≡ None

-- the checks have found no fault in a language among the groups of a listing before the one of this number
pub record AreFaultless (language : Language) (l : Listing) (i : ℕ) (c : Checks) : Type 0 where
  pub few : c.choices ≤ i
  pub members : HasMembers l c.members.starts.items c.members.items.items
  pub many : length c.marks.items ≡ length l.names.symbols.items
  pub small : AreSmall c.marks.items c.choices
  pub counted : CountsChoices l i c.choices
  pub none : HaveNoFault language l i

-- the statements read have no fault in at least one language
abbrev pub HasNoFaults : List Group → Type 0
HasNoFaults read = (language : Language) × (tree_faults language read ≡ [])
