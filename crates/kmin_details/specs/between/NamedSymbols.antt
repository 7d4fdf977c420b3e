-- The symbol that a line of a configuration file names.
use Rattle.std.specs.Prelude.{ℕ, List, [], ◌∷◌, Option, Some, None, option_map}
use Rattle.kc_tree_model.specs.LogicalLines.{without_white_end}
use Rattle.kc_dotconfig_model.specs.between.LineMeanings.{value_parts, unset_name}
use Rattle.kc_dotconfig_model.specs.declared.notice.NoticeKind.{NoticeKind}
use Rattle.kc_dotconfig_model.specs.declared.notice.NoticeKind.TheVariants.{UnknownSymbol, NotOfType}
use Rattle.kmin_details.specs.Texts.{unknown_text, value_text}

-- the name on a line `CONFIG_NAME=value` or `# CONFIG_NAME is not set` with this prefix, without the prefix; None on any other line
abbrev pub named_on : (prefix line : List ℕ) → Option (List ℕ)
named_on prefix line = elim (value_parts prefix (without_white_end line)) [
  | Some parts ↦ Some parts.0
  | None ↦ unset_name prefix (without_white_end line)
]

-- a name that the tree lacks, if there is one
abbrev pub name_text : Option (List ℕ) → List ℕ
name_text None = []
name_text (Some name) = unknown_text name None

-- a name and its value, if there are any
abbrev pub parts_text : Option (List ℕ × List ℕ) → List ℕ
parts_text None = []
parts_text (Some parts) = value_text parts.0 parts.1

-- the names that there are
abbrev pub one_name : Option (List ℕ) → List (List ℕ)
one_name None = []
one_name (Some name) = name ∷ []

abbrev pub first_name : Option (List ℕ × List ℕ) → List (List ℕ)
first_name None = []
first_name (Some parts) = parts.0 ∷ []

-- the text of a notice of a line, by its kind, without a name that is near
abbrev pub notice_text : NoticeKind → (prefix line : List ℕ) → List ℕ
notice_text UnknownSymbol prefix line = name_text (named_on prefix line)
notice_text NotOfType prefix line = parts_text (value_parts prefix (without_white_end line))
notice_text kind prefix line = []

-- the same where no words of the line may be shown: the name alone
abbrev pub hidden_text : NoticeKind → (prefix line : List ℕ) → List ℕ
hidden_text UnknownSymbol prefix line = name_text (named_on prefix line)
hidden_text NotOfType prefix line = name_text (option_map (λ (parts : List ℕ × List ℕ). parts.0) (value_parts prefix (without_white_end line)))
hidden_text kind prefix line = []

-- the names in either
abbrev pub notice_names : NoticeKind → (prefix line : List ℕ) → List (List ℕ)
notice_names UnknownSymbol prefix line = one_name (named_on prefix line)
notice_names NotOfType prefix line = first_name (value_parts prefix (without_white_end line))
notice_names kind prefix line = []
