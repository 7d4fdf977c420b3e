-- The statements that a listing represents.
use Rattle.std.specs.Prelude.{◌≡◌, ℕ, ◌<◌, ◌≤◌, List, [], ◌∷◌, length, map, reverse, slice_get, slice_range, Some, All}
use Rattle.kc_expr.specs.between.Arena.{Exprs, node_expr}
use Rattle.kc_statements.specs.between.StatementViews.{attribute_in, AttributeNodesExist}
use Rattle.kc_tree_model.specs.declared.statement.Head.TheVariants.{Config as config, Choice as choice, Menu as menu, Condition as condition, Comment as comment, Source as source, Mainmenu as mainmenu, Ends as ends}
use Rattle.kc_tree_model.specs.Blocks.{Group, Line, GroupHead, of_head, file_end}
use Rattle.kc_tree_model.specs.Limits.{names_defined}
use Rattle.kc_parser.specs.declared.listing.Group.{Group as CodeGroup}
use Rattle.kc_parser.specs.declared.listing.Line.{Line as CodeLine}
use Rattle.kc_parser.specs.declared.listing.Listing.{Listing}
use Rattle.kc_parser.specs.declared.listing.GroupHead.{GroupHead as CodeHead}
use Rattle.kc_parser.specs.declared.listing.GroupHead.TheVariants as codes
use Rattle.kc_parser.specs.between.EnclosingChoices.{HaveChoices}
use Rattle.kc_parser.specs.between.SymbolTable.{HasNames}

-- the head of a group in a listing represents the head of a group in the model, given the expressions, the names of symbols, and
-- the texts of titles and paths
abbrev pub RepresentsHead : Exprs → List (List ℕ) → List (List ℕ) → CodeHead → GroupHead → Type 0
RepresentsHead exprs names texts (codes.Config s) w = (name : List ℕ) × (slice_get names s ≡ Some name) × (w ≡ of_head (config name))
RepresentsHead exprs names texts codes.Choice w = w ≡ of_head choice
RepresentsHead exprs names texts (codes.Menu t) w = (title : List ℕ) × (slice_get texts t ≡ Some title) × (w ≡ of_head (menu title))
RepresentsHead exprs names texts (codes.Condition id) w = (id < length exprs.nodes) × (w ≡ of_head (condition (node_expr exprs id)))
RepresentsHead exprs names texts (codes.Comment t) w = (title : List ℕ) × (slice_get texts t ≡ Some title) × (w ≡ of_head (comment title))
RepresentsHead exprs names texts (codes.Source t) w = (path : List ℕ) × (slice_get texts t ≡ Some path) × (w ≡ of_head (source path))
RepresentsHead exprs names texts codes.Mainmenu w = w ≡ of_head mainmenu
RepresentsHead exprs names texts (codes.Ends b) w = w ≡ of_head (ends b)
RepresentsHead exprs names texts codes.FileEnd w = w ≡ file_end

-- the attribute of the model, with its line, that an attribute line of a listing represents, given the expressions
abbrev pub line_in : Exprs → CodeLine → Line
line_in exprs l = record { number = l.number; attribute = attribute_in exprs l.attribute }

-- the nodes of an attribute's expressions are nodes of the arena
abbrev pub LineNodesExist : Exprs → CodeLine → Type 0
LineNodesExist exprs l = AttributeNodesExist exprs l.attribute

-- the group `g` of a listing, with `own` as its attributes and `before` groups before it, represents the group `m` of the model
pub record RepresentsGroup (exprs : Exprs) (names texts : List (List ℕ)) (own : List CodeLine) (before : ℕ) (g : CodeGroup) (m : Group) : Type 0 where
  pub number_is : m.number ≡ before
  pub file_is : m.at.file ≡ g.file
  pub line_is : m.at.line ≡ g.line
  pub head : RepresentsHead exprs names texts g.head m.head
  pub attributes : m.attributes ≡ map (line_in exprs) own

-- the groups of a listing, the newest first, represent those of the model; the attributes of the newest end before an index
abbrev pub RepresentsGroups : Exprs → List (List ℕ) → List (List ℕ) → List CodeLine → ℕ → List CodeGroup → List Group → Type 0
RepresentsGroups exprs names texts lines end [] [] = Unit {0}
RepresentsGroups exprs names texts lines end (g ∷ gs) (m ∷ ms) =
    RepresentsGroup exprs names texts (slice_range lines g.attributes end) (length ms) g m × (g.attributes ≤ end) × RepresentsGroups exprs names texts lines g.attributes gs ms
RepresentsGroups exprs names texts lines end gs ms = ⊥

-- the lists of a listing represent the groups that were read, the newest first in `read`, and each group of the listing has the
-- number of the choice that encloses it
pub record RepresentsLists (exprs : Exprs) (symbols numbers : List ℕ) (texts : List (List ℕ)) (lines : List CodeLine) (groups : List CodeGroup) (read : List Group) : Type 0 where
  pub names : HasNames exprs symbols numbers (names_defined read)
  pub held : All (LineNodesExist exprs) lines
  pub groups_are : RepresentsGroups exprs (names_defined read) texts lines (length lines) (reverse groups) read
  pub choices_are : HaveChoices (reverse groups)

-- the listing represents all groups that were read (the newest first), with the symbols in order of first definition
unfoldable pub RepresentsListing : Listing → List Group → Type 0
RepresentsListing l read = RepresentsLists l.names.arena l.names.symbols.items l.names.numbers.items l.texts.items l.lines.items l.groups.items read
