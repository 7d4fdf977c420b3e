-- The keywords of statements that aren't attributes.
use Rattle.std.specs.Prelude.{Bool, true, false}
use Rattle.kc_tree_model.specs.declared.keyword.Keyword.{Keyword}
use Rattle.kc_tree_model.specs.declared.keyword.Keyword.TheVariants as words

-- whether a line with this keyword is a statement other than an attribute
abbrev pub begins_head : Keyword → Bool
begins_head words.Config = true
begins_head words.Choice = true
begins_head words.Menu = true
begins_head words.If = true
begins_head words.Comment = true
begins_head words.Source = true
begins_head words.Mainmenu = true
begins_head (words.End b) = true
begins_head k = false
