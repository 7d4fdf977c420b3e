use Rattle.kc_dotconfig_model.specs.declared.format.Strings.TheVariants.{Raw}
use Rattle.kc_dotconfig.proofs.LineMeanings.{raw_assigned, no_string_noticed}
use Rattle.kc_dotconfig.proofs.meanings.read_raw.Goals as goal

pub returns-in_ok-text-in-Some : goal.returns-in_ok-text-in-Some
returns-in_ok-text-in-Some c language =
    raw_assigned language c.args.unit c.args.text.now c.in-Some.text.now c.in_ok-text-in-Some.text c.in_ok-text-in-Some.ensures c.in-Some.ensures.some

pub returns-in-None : goal.returns-in-None
returns-in-None c language = no_string_noticed language Raw c.args.unit c.args.text.now c.in-None.ensures.none
