-- A full file of which a part is written.
use Rattle.std.specs.Prelude.{◌≡◌, ℕ, ◌<◌, false, List, ◌++◌, length, nat_eq, slice_index_or}
use Rattle.std.specs.List.{list_any}
use Rattle.kc_tree_model.specs.Trees.{Tree, Entry}
use Rattle.kc_rules_model.specs.declared.values.UnitValue.{UnitValue}
use Rattle.kc_minimal_model.specs.FullFile.{full_file}
use Rattle.kc_minimal_model.specs.between.EntryTexts.{entry_texts}
use Rattle.kc_minimal.specs.declared.full.Draft.{Draft}
use Rattle.kc_dotconfig_model.specs.Formats.{FileFormat}

-- the text of a draft followed by what the entries `left` write is the full file, and the draft marks exactly the symbols that
-- were defined so far (`seen`)
pub record IsDraft (format : FileFormat) (tree : Tree) (values : List UnitValue) (left : List Entry) (draft : Draft) : Type 0 where
  pub seen : List ℕ
  pub marked : (s : ℕ) → s < length tree.symbols → slice_index_or draft.defined.items s false ≡ list_any (nat_eq s) seen
  pub whole : draft.text.items ++ entry_texts format tree values seen draft.gap left ≡ full_file format tree values
