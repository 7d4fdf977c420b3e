-- The rows of choices.
use Rattle.std.specs.Prelude.{◌≡◌, ℕ, ◌<◌, Bool, List, [], ◌∷◌, length, slice_get, Some, option_map, if◌then◌else◌}
use Rattle.std.specs.List.{list_any}
use Rattle.kc_tokens.specs.declared.language.Language.{Language}
use Rattle.kc_expr.specs.between.Arena.{Exprs, node_expr}
use Rattle.kc_tree_model.specs.Blocks.{opens_choice}
use Rattle.kc_tree_model.specs.Conditions.{GroupInContext, context_of, prompts_of}
use Rattle.kc_tree_model.specs.Contents.{is_optional_group}
use Rattle.kc_parser.specs.declared.listing.Group.{Group as CodeGroup}
use Rattle.kc_parser.specs.declared.listing.Line.{Line as CodeLine}
use Rattle.kc_tree_model.specs.Statements.{is_optional}
use Rattle.kc_parser.specs.between.EnclosingChoices.{is_choice_code}
use Rattle.kc_conditions.specs.between.Firsts.{first_prompt}
use Rattle.kc_tree.specs.declared.rows.ChoiceRow.{ChoiceRow}

-- whether the attribute of a line is `optional`
abbrev pub is_optional_line : CodeLine → Bool
is_optional_line l = is_optional l.attribute

-- the stored row of the choice that a group opens, from the group's attribute lines and their conditions
abbrev pub choice_row : CodeGroup → List CodeLine → List ℕ → ChoiceRow
choice_row g ls cs = record { file = g.file; line = g.line; prompt = first_prompt ls cs; optional = list_any is_optional_line ls }

-- the stored rows of the choices that a group opens: one if it is a `choice`, else none
abbrev pub group_rows : CodeGroup → List CodeLine → List ℕ → List ChoiceRow
group_rows g ls cs = if is_choice_code g.head then choice_row g ls cs ∷ [] else []

-- whether a group opens a choice
abbrev pub opens : GroupInContext → Bool
opens p = opens_choice p.group

-- a row has the file, line, prompt condition and `optional` of the choice that a group opens
pub record IsChoiceRow (language : Language) (exprs : Exprs) (p : GroupInContext) (r : ChoiceRow) : Type 0 where
  pub file_is : r.file ≡ p.group.at.file
  pub line_is : r.line ≡ p.group.at.line
  pub prompt_is : option_map (node_expr exprs) r.prompt ≡ slice_get (prompts_of (context_of language p) p.group) 0
  pub optional_is : r.optional ≡ is_optional_group p.group
  pub held : (i : ℕ) → r.prompt ≡ Some i → i < length exprs.nodes

-- the rows represent, one by one, the choices that these groups open
abbrev pub AreChoiceRows : Language → Exprs → List GroupInContext → List ChoiceRow → Type 0
AreChoiceRows language exprs [] [] = Unit {0}
AreChoiceRows language exprs (p ∷ ps) (r ∷ rs) = IsChoiceRow language exprs p r × AreChoiceRows language exprs ps rs
AreChoiceRows language exprs ps rs = ⊥
