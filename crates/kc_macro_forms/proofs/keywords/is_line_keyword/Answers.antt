use Rattle.std.proofs.Common.{ap, ◌∙◌}
use Rattle.std.specs.Prelude.{is_some}
use Rattle.kc_tree_model.specs.Keywords.{keywords}
use Rattle.kc_macro_forms.proofs.KeywordLemmas.{named_in}
use Rattle.kc_macro_forms.proofs.keywords.is_line_keyword.Goals as goal

pub returns : goal.returns
returns c = c.is_some.ensures ∙ ap is_some c.keyword_named.ensures ∙ named_in keywords c.args.word.now
