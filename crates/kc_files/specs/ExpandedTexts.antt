-- Expanded files, as slices have them.
use Rattle.kc_macros_model.specs.ReadingStates.{ExpandedFile}
use Rattle.kc_files.specs.declared.expanded_tree.ExpandedText.{ExpandedText}

-- an `ExpandedText` of the code (slices of a key, a path and a text) as an expanded file of `kc_macros_model`
abbrev pub file_of_slices : ExpandedText → ExpandedFile
file_of_slices t = record { key = t.key.now; path = t.path.now; text = t.text.now.value.items }
