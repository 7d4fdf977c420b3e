-- The content of a line of the code, as `kc_macros_model` defines it.
use Rattle.kc_macros_model.specs.Assignments.{assigned, LineContent, assigns, tokens}
use Rattle.kc_macro_lines.specs.declared.line_content.LineContent.{LineContent as CodeContent}
use Rattle.kc_macro_lines.specs.declared.line_content.LineContent.TheVariants as kinds
use Rattle.kc_macro_forms.specs.between.WrittenTokens.{tokens_of}

-- the content of a line of the code, an assignment or written tokens, as one of `kc_macros_model`
abbrev pub content_of : CodeContent → LineContent
content_of (kinds.Assigns a) = assigns a.name (assigned a.operator a.text)
content_of (kinds.Tokens ts) = tokens (tokens_of ts.items)
