-- What the code finds in a run, a token of word bytes and references.
use Rattle.std.specs.Prelude.{◌≡◌, true, false, List}
use Rattle.std.specs.List.{list_any}
use Rattle.kc_macros_model.specs.References.{Item, is_reference, is_plain_dollar}
use Rattle.kc_macro_lines.specs.declared.token_values.RunContent.{RunContent}
use Rattle.kc_macro_lines.specs.declared.token_values.RunContent.TheVariants.{PlainDollar, Reference, Word}

-- the code's answer to what a run has agrees with the items of the run
abbrev pub IsRunContent : List Item → RunContent → Type 0
IsRunContent is PlainDollar = list_any is_plain_dollar is ≡ true
IsRunContent is Reference = (list_any is_plain_dollar is ≡ false) × (list_any is_reference is ≡ true)
IsRunContent is Word = (list_any is_plain_dollar is ≡ false) × (list_any is_reference is ≡ false)
