use Rattle.std.proofs.Common.{◌∙◌}
use Rattle.kc_dotconfig_model.specs.declared.format.Strings.TheVariants.{Escaped}
use Rattle.kc_dotconfig.proofs.LineMeanings.{some_is, none_is, string_assigned, no_string_noticed}
use Rattle.kc_dotconfig.proofs.meanings.read_escaped.Goals as goal

pub returns-in-Some : goal.returns-in-Some
returns-in-Some c =
    c.escaped_text.ensures
    ∙ string_assigned c.args.language Escaped c.args.unit c.args.text.now _ c.from_string.result c.from_string.ensures.text
    (some_is c.in_ok-means.field-0 _ c.in-Some.means c.in_ok-means.ensures.read c.in-Some.is)

pub returns-in-None : goal.returns-in-None
returns-in-None c =
    no_string_noticed c.args.language Escaped c.args.unit c.args.text.now (none_is c.in_ok-means.field-0 _ c.in_ok-means.ensures.none c.in-None.is)
