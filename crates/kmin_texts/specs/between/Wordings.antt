-- The wording that standard error keeps.
use Rattle.std.specs.Prelude.{◌≡◌, ℕ, List, Option, Some, None, string_bytes}
use Rattle.kc_dotconfig_model.specs.between.Prefixes.{prefix_bytes}
use Rattle.kmin_report.specs.Reports.{ErrorLine}
use Rattle.kmin_report.specs.PlainLines.{plain_line}
use Rattle.kmin_report.specs.StandardError.{Detail}
use Rattle.kmin_texts.specs.KnownLines.{KnownLines}
use Rattle.kmin_texts.specs.LineDetails.{is_detail_of}
use Rattle.kmin_texts.specs.Spellings.{AskedForm, spelling_of}
use Rattle.kmin_texts.specs.between.KeptDetails.{MayBe}
use Rattle.kmin_texts.specs.declared.form_messages.Wording.{Wording}
use Rattle.kmin_texts.specs.declared.formed_messages.KeptWording.{KeptWording}

-- the form for which a wording asks
abbrev pub asked_by : Wording → AskedForm
asked_by wording = record { form = wording.form; root = wording.root.now; language = wording.language; prefix = prefix_bytes wording.prefix.now }

-- the form for which the wording that standard error keeps asks
abbrev pub asked_by_kept : KeptWording → AskedForm
asked_by_kept wording = record { form = wording.form; root = string_bytes wording.root; language = wording.language; prefix = prefix_bytes wording.prefix }

-- how standard error spells lines by the wording that it keeps, by what is known of files; plainly where it has none
abbrev pub kept_spelling : Option KeptWording → KnownLines → ErrorLine → Option Detail → List ℕ
kept_spelling None known = λ line detail. plain_line line
kept_spelling (Some wording) known = spelling_of (asked_by_kept wording) known

-- a detail has no text, or may be that of a line, by what is known of files
abbrev pub IsDetailOf : AskedForm → KnownLines → ErrorLine → Detail → Type 0
IsDetailOf asked known line detail = MayBe (is_detail_of asked.root asked.language asked.prefix known line) detail

-- these are the bytes of a line in a form, with a detail of it, by what is known of files
abbrev pub IsSpelled : AskedForm → KnownLines → ErrorLine → (bytes : List ℕ) → Type 0
IsSpelled asked known line bytes = (detail : Option Detail) × (bytes ≡ spelling_of asked known line detail)
