-- The details of notices of configuration files.
use Rattle.std.specs.Prelude.{ℕ, Bool, ◌&&◌, List, Option, Some, None}
use Rattle.kc_dotconfig_model.specs.declared.notice.NoticeKind.{NoticeKind}
use Rattle.kmin_report.specs.StandardError.{Detail}
use Rattle.kmin_texts.specs.LineDetails.{is_of_kind, is_one_of, no_detail, on_noticed, unknown}
use Rattle.kmin_details.specs.NearNames.{nearest}
use Rattle.kmin_details.specs.between.NamedSymbols.{hidden_text, notice_names}

-- whether a detail is that of a notice at a line, by the names of the tree
abbrev pub is_noticed_on : NoticeKind → (prefix : List ℕ) → (names : List (List ℕ)) → (line : Option (List ℕ)) → Detail → Bool
is_noticed_on kind prefix names line detail = is_of_kind kind names detail && is_one_of (on_noticed kind prefix names line) detail

-- the detail of a notice at a line of UTF-8, if it is one, whose words may not be shown: a name alone
abbrev pub hidden_detail : NoticeKind → (prefix : List ℕ) → (line : Option (List ℕ)) → Detail
hidden_detail kind prefix None = no_detail
hidden_detail kind prefix (Some text) = record { text = hidden_text kind prefix text; names = notice_names kind prefix text }

-- of a name that the tree lacks: the name, and that of these names which is nearest to it
abbrev pub nearest_detail : (name : Option (List ℕ)) (names : List (List ℕ)) → Detail
nearest_detail None names = no_detail
nearest_detail (Some name) names = unknown name (nearest name names)
