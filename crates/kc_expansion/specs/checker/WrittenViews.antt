-- The text of a file with some of its lines replaced.
use Rattle.std.specs.Prelude.{ℕ, List, ◌++◌, slice_range}
use Rattle.kc_expansion.specs.declared.written_file.WrittenFile.{WrittenFile}

-- the expanded text of a file up to a place in its original bytes, which comes after all lines that were replaced
abbrev pub text_up_to : WrittenFile → ℕ → List ℕ
text_up_to f at = f.written.items ++ slice_range f.original.value.items f.copied at
