-- Forms of lines of the code, as `kc_macros_model` defines them.
use Rattle.std.specs.Prelude.{ℕ, List, option_map}
use Rattle.std.specs.Borrow.{Bor}
use Rattle.kc_macros_model.specs.LineForms.{SourceSort, LineForm, plain, bare_prompt, replaced_by, named_choice, sources}
use Rattle.kc_macro_forms.specs.declared.forms.SourceSort.{SourceSort as CodeSort}
use Rattle.kc_macro_forms.specs.declared.forms.LineForm.{LineForm as CodeForm}
use Rattle.kc_macro_forms.specs.declared.forms.LineForm.TheVariants as kinds

-- the sort of a `source` line of the code as one of `kc_macros_model`
abbrev pub source_sort_of : CodeSort → SourceSort
source_sort_of s = record { relative = s.relative; optional = s.optional }

-- the form of a line of the code as one of `kc_macros_model`
abbrev pub form_view : CodeForm → LineForm
form_view kinds.Plain = plain
form_view (kinds.BarePrompt text) = bare_prompt text.now
form_view (kinds.ReplacedBy text) = replaced_by text.now
form_view (kinds.NamedChoice name) = named_choice name.now
form_view (kinds.Sources sort path) = sources (source_sort_of sort) (option_map (λ (p : Bor (List ℕ)). p.now) path)
