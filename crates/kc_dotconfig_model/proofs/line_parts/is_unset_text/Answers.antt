use Rattle.kc_dotconfig_model.proofs.Common.{◌∙◌, sym, codes, Decides-eqb, without_white_end}
use Rattle.std.proofs.lemmas.Slice.Eq.{strip_suffix_is}
use Rattle.kc_dotconfig_model.proofs.UnsetNames.{no_unset_text, unset_by_name}
use Rattle.kc_dotconfig_model.proofs.line_parts.is_unset_text.Goals as goal

pub returns-then-not-is_empty : goal.returns-then-not-is_empty
returns-then-not-is_empty c =
    let ends = strip_suffix_is Decides-eqb c.as_bytes.result.now (codes " is not set") c.strip_suffix.result c.strip_suffix.ensures.cases in
    unset_by_name (without_white_end c.args.text.now) c.as_bytes.result.now c.in-Some.name.now c.contains.result
    (c.as_bytes.ensures.value ∙ c.trimmed.ensures) (rw c.in-Some.is at ends) (sym c.is_empty.ensures ∙ c.if-not-is_empty.true) c.contains.ensures.value

pub returns-in-None : goal.returns-in-None
returns-in-None c =
    let ends = strip_suffix_is Decides-eqb c.as_bytes.result.now (codes " is not set") c.strip_suffix.result c.strip_suffix.ensures.cases in
    no_unset_text (without_white_end c.args.text.now) c.as_bytes.result.now (c.as_bytes.ensures.value ∙ c.trimmed.ensures) (rw c.in-None.is at ends)
