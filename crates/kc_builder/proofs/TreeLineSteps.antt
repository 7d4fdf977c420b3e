-- The lines of a tree are those of the reading that gives it.
use Rattle.kc_builder.proofs.Common.{◌≡◌, ℕ, ◌<◌, ◌^◌, List, length, ap, sym, subst, Exprs, Represents, Group, Files, Listing, TreeModel, RepresentsListing}
use Rattle.kc_value.specs.declared.tri.Tri.TheVariants.{N}
use Rattle.kc_expr.specs.Expr.{alone, constant}
use Rattle.kc_tree_model.specs.TreeReading.{Outcome, reading}
use Rattle.kc_tree_model.specs.TreesOfFiles.{origin_of, IsTreeOfFiles}
use Rattle.kc_tree_model.proofs.ReadingLaws.ReadingCompleteness.{whole_read}
use Rattle.kc_builder.specs.between.TreeLines.{HasLines, IsTreeWithLines}
use Rattle.kc_builder.specs.checker.Assembly.{lines_from}
use Rattle.kc_builder.specs.declared.tree_lines.TreeLines.{TreeLines}

-- the groups and lines of a listing are the lines of its statements
pub lines_of_listing : (l : Listing) (off : ℕ) (read : List Group) → RepresentsListing l read → length l.groups.items < 2 ^ 32
    → Represents l.names.arena off (alone (constant N)) → HasLines l.names.arena (lines_from l off) read
unfolding RepresentsListing
lines_of_listing l off read h few stands = record { texts = l.texts.items; held = h.held; groups_are = h.groups_are; few = few; no_is = stands }

pub tree_with_lines : (files : Files) (root : List ℕ) (t : TreeModel) (lines : TreeLines) → IsTreeOfFiles files root t.tree
    → HasLines t.exprs lines (reading files root).read → IsTreeWithLines files root t lines
unfolding reading
tree_with_lines files root t lines h k =
    let same = whole_read (origin_of files root) h.0 h.1 in
    record {
      groups = h.0;
      whole = h.1;
      faultless = h.2;
      tree_is = h.3;
      lines_are = subst (HasLines t.exprs lines) (ap (λ (o : Outcome). o.read) same) k;
    }

-- lines are of a tree with the same arena
pub of_arena : (arena : Exprs) (t : TreeModel) (lines : TreeLines) (read : List Group) → t.exprs ≡ arena → HasLines arena lines read → HasLines t.exprs lines read
of_arena arena t lines read e h = subst (λ x. HasLines x lines read) (sym e) h
