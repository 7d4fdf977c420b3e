-- The lines of standard output and of standard error.
use Rattle.std.specs.Prelude.{ℕ, ◌==◌, ◌&&◌, List, ◌++◌, codes, map, if◌then◌else◌}
use Rattle.std.specs.Fmt.{decimal}
use Rattle.kc_tree_model.specs.Trees.{Tree}
use Rattle.kmin_report.specs.Reports.{ErrorLine, tree_notice_line}
use Rattle.kmin_lines.specs.Lines.{count_lines_not_in, have_same_lines}
use Rattle.kmin_records.specs.declared.output_form.OutputForm.{OutputForm}
use Rattle.kmin_records.specs.declared.output_form.OutputForm.TheVariants.{Plain, Json}
use Rattle.kmin_records.specs.Records.{tidy_record}
use Rattle.kmin_tidy.specs.Options.{Notices}

-- how the lines of a file differ from those of its minimal file, as text: `K out, L in` for K lines that only the file has and L
-- lines that only its minimal file has, or `order` where both are 0
abbrev pub counted : (out_count in_count : ℕ) → List ℕ
counted out_count in_count = if (out_count == 0) && (in_count == 0)
    then codes "order"
    else (decimal out_count ++ (codes " out, " ++ (decimal in_count ++ codes " in")))

-- how a file of these bytes differs from its minimal file `minimal_bytes`, as text: `line ends` where they have the same lines in the same
-- order, and so differ in nothing but carriage returns at the ends of lines and the newline after the last one
abbrev pub difference : (bytes minimal_bytes : List ℕ) → List ℕ
difference bytes minimal_bytes = if have_same_lines bytes minimal_bytes
    then codes "line ends"
    else counted (count_lines_not_in bytes minimal_bytes) (count_lines_not_in minimal_bytes bytes)

-- the line of standard output for a file that isn't its own minimal file: `FILE: K out, L in`, `FILE: line ends` or `FILE: order`
abbrev pub difference_line : (path bytes minimal_bytes : List ℕ) → List ℕ
difference_line path bytes minimal_bytes = path ++ (codes ": " ++ (difference bytes minimal_bytes ++ codes "\n"))

-- the line of standard output, in a form, for a file that isn't its own minimal file
abbrev pub file_line : OutputForm → (path bytes minimal_bytes : List ℕ) → List ℕ
file_line Plain path bytes minimal_bytes = difference_line path bytes minimal_bytes
file_line Json path bytes minimal_bytes = tidy_record path bytes minimal_bytes

-- the lines of standard error for the notices of a configuration file over a tree, in order
abbrev pub notice_lines : Tree → (path : List ℕ) → Notices → List ErrorLine
notice_lines tree path notices = map (tree_notice_line tree path) notices
