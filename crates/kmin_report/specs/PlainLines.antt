-- The plain spelling of the lines of standard error.
use Rattle.std.specs.Prelude.{ℕ, List, [], ◌∷◌, ◌++◌, Option, codes}
use Rattle.std.specs.Fmt.{decimal}
use Rattle.kc_tree_model.specs.FaultNames.{tree_kind_name}
use Rattle.kc_dotconfig_model.specs.KindNames.{load_kind_name, notice_kind_name}
use Rattle.kc_macros_model.specs.FaultNames.{macro_kind_name, macro_notice_name, answers_kind_name}
use Rattle.kmin_report.specs.Reports.{ErrorLine, tree_line, cycle_line, fault_line, notice_line, answers_line, macro_notice_line, macro_fault_line, output_line, not_regular_line, write_line, left_line, memory_line, refused_line, units_text}
use Rattle.kmin_report.specs.StandardError.{SpelledBytes}

-- a fault or a notice at a line of a file: `FILE:LINE: KIND`
abbrev pub place_line : (path : List ℕ) (number : ℕ) (kind : List ℕ) → List ℕ
place_line path number kind = path ++ (codes ":" ++ (decimal number ++ (codes ": " ++ (kind ++ codes "\n"))))

-- a space and this text; empty for the empty text
abbrev pub after_space : List ℕ → List ℕ
after_space [] = []
after_space (c ∷ text) = 32 ∷ c ∷ text

-- a fault or a notice with a text: `FILE:LINE: KIND TEXT`, or `FILE:LINE: KIND` if the text is empty
abbrev pub message_line : (file : List ℕ) (line : ℕ) (kind text : List ℕ) → List ℕ
message_line file line kind text = place_line file line (kind ++ after_space text)

-- the bytes of a line of standard error in the plain spelling, with the newline at its end
abbrev pub plain_line : ErrorLine → List ℕ
plain_line (tree_line path number kind read) = place_line path number (tree_kind_name kind)
plain_line (cycle_line path number tree units) = place_line path number (codes "Cycle" ++ units_text tree units)
plain_line (fault_line path number kind) = place_line path number (load_kind_name kind)
plain_line (notice_line path notice names) = place_line path notice.0 (notice_kind_name notice.1)
plain_line (answers_line path number kind) = place_line path number (answers_kind_name kind)
plain_line (macro_notice_line notice) = message_line notice.at.file notice.at.line (macro_notice_name notice.kind) notice.text
plain_line (macro_fault_line fault) = message_line fault.at.file fault.at.line (macro_kind_name fault.kind) fault.text
plain_line output_line = codes "output: Write\n"
plain_line (not_regular_line path) = place_line path 0 (codes "NotRegular")
plain_line (write_line path) = path ++ codes ": Write\n"
plain_line (left_line new_path) = new_path ++ codes ": Left\n"
plain_line memory_line = codes "out of memory\n"
plain_line (refused_line message) = message

-- standard error that took these bytes, None if they aren't known, and spells lines plainly
abbrev pub plain_bytes : Option (List ℕ) → SpelledBytes
plain_bytes taken = record { spelling = λ line detail. plain_line line; bytes = taken }
