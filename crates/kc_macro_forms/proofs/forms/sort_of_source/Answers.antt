use Rattle.std.proofs.Common.{◌∙◌, ap, Bool}
use Rattle.kc_macros_model.specs.LineForms.{SourceSort, sort_of_source}
use Rattle.kc_macro_forms.proofs.forms.sort_of_source.Goals as goal

pub returns : goal.returns
returns c =
    ap (λ (b : Bool). let s : SourceSort = record { relative = c.is_among.result; optional = b } in s) c.is_among-2.ensures
    ∙ ap (λ (b : Bool). let s : SourceSort = record { relative = b; optional = (sort_of_source c.args.word.now).optional } in s) c.is_among.ensures
