-- What symbols are explained by, as the code has it.
use Rattle.std.specs.Prelude.{◌≡◌, ℕ, List, map}
use Rattle.std.specs.List.{AllZip}
use Rattle.std.specs.Borrow.{Bor}
use Rattle.kc_tree_model.specs.Blocks.{Group}
use Rattle.kc_tree_model.specs.Contents.{tree_of_groups}
use Rattle.kc_rules.specs.between.SettledViews.{tree_model_of, profile_of}
use Rattle.kc_dotconfig_model.specs.ConfigLines.{LineMeaning}
use Rattle.kc_config.specs.ConfigStates.{Configured, tree_in}
use Rattle.kc_builder.specs.between.TreeLines.{HasLines}
use Rattle.kc_symbol_lines.specs.between.Indexes.{IsReadTree, IsIndex}
use Rattle.kc_config_reasons.specs.between.FileLines.{KeepsLines}
use Rattle.kmin_explain.specs.Explanations.{SourcesModel}
use Rattle.kmin_explain.specs.declared.sources.Sources.{Sources}

-- the configuration whose symbols are explained
abbrev pub config_of : Sources → Configured
config_of by = by.config.now

-- the lines of the tree are those of its files, and the index is theirs
pub record AreReadSources (by : Sources) : Type 0 where
  pub read : IsReadTree (tree_model_of (config_of by).system) by.lines.now
  pub index : IsIndex (tree_model_of (config_of by).system) by.lines.now by.index.now

-- of these groups the tree and its lines are made, and of the configuration files the last lines are kept, whose lines have these
-- meanings
pub record AreSourcesOf (by : Sources) (read : List Group) (meanings : List (List LineMeaning)) : Type 0 where
  pub tree_is : (tree_model_of (config_of by).system).tree ≡ tree_of_groups (tree_model_of (config_of by).system).tree.language read
  pub has : HasLines (tree_model_of (config_of by).system).exprs by.lines.now read
  pub kept : AllZip (KeepsLines (tree_in (config_of by))) meanings by.files.now

-- what symbols are explained by
abbrev pub sources_model : Sources → List Group → List (List LineMeaning) → SourcesModel
sources_model by read meanings = record {
  profile = profile_of (config_of by).system;
  tree = tree_in (config_of by);
  users = (config_of by).users;
  values = (config_of by).values;
  read = read;
  tree_paths = by.tree_paths.now;
  meanings = meanings;
  file_paths = map (λ (path : Bor (List ℕ)). path.now) by.file_paths.now;
  strings = by.strings;
}
