-- How standard error spells lines in a form.
use Rattle.std.specs.Prelude.{ℕ, List, Option, Some, None, if◌then◌else◌}
use Rattle.kc_tokens.specs.declared.language.Language.{Language}
use Rattle.kmin_messages.specs.ShownTexts.{shown}
use Rattle.kmin_messages.specs.declared.message.Form.{Form}
use Rattle.kmin_report.specs.Reports.{ErrorLine}
use Rattle.kmin_report.specs.PlainLines.{plain_line}
use Rattle.kmin_report.specs.StandardError.{Detail, SpelledBytes}
use Rattle.kmin_texts.specs.KnownLines.{KnownLines}
use Rattle.kmin_texts.specs.LineDetails.{is_detail_of, no_detail}
use Rattle.kmin_details.specs.ReportMessages.{line_in}

-- a form of messages, and what their texts are read by: the folder of the tree, its language, and the prefix of names in configuration
-- files
pub record AskedForm : Type 0 where
  pub form : Form
  pub root : List ℕ
  pub language : Language
  pub prefix : List ℕ

-- a detail, if it may be that of the line; else none
abbrev pub detail_of : AskedForm → KnownLines → ErrorLine → Detail → Detail
detail_of asked known line detail = if is_detail_of asked.root asked.language asked.prefix known line detail then detail else no_detail

-- The bytes of a line in a form: its message with a detail that is of the line, by what is known of files, as it is shown; or without
-- a text, or the plain line, as where memory ran out for the one or for both.
abbrev pub spelling_of : AskedForm → KnownLines → ErrorLine → Option Detail → List ℕ
spelling_of asked known line None = plain_line line
spelling_of asked known line (Some detail) =
    let own = detail_of asked known line detail in line_in asked.form asked.root line (shown own.text) own.names

-- standard error that spells lines in a form, with the texts of files that are known so far, and took the same bytes
abbrev pub in_form : AskedForm → KnownLines → SpelledBytes → SpelledBytes
in_form asked known taken = record { spelling = spelling_of asked known; bytes = taken.bytes }

-- standard error that spells lines in the form that is asked for, if there is one, and else as before
abbrev pub as_asked : Option AskedForm → KnownLines → SpelledBytes → SpelledBytes
as_asked None known taken = taken
as_asked (Some asked) known taken = in_form asked known taken
