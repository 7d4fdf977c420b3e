use Rattle.kc_macros.proofs.Common.{◌∙◌, Some, sym, ap, rules, place_of}
use Rattle.kc_macros_model.specs.Programs.{returns as returns_value}
use Rattle.kc_macros.proofs.ExpansionLemmas.{fails_so, returns_so}
use Rattle.kc_macros.proofs.NameLemmas.{other_with_args, number_ungiven, name_undefined}
use Rattle.kc_macros.proofs.names.other_value.Goals as goal

pub returns-then-not-is_empty : goal.returns-then-not-is_empty
returns-then-not-is_empty c = fails_so c.args.run.now _ _ c.fault.result (other_with_args (place_of c.args.at) c.args.name.now c.args.args.now (search rules))
    c.fault.ensures

pub returns-then-is_number : goal.returns-then-is_number
returns-then-is_number c =
    returns_so c.args.run.now _ _ (number_ungiven (place_of c.args.at) c.args.name.now c.args.args.now (search rules)
    (sym c.is_number.ensures ∙ c.if-is_number.true)
    ∙ ap (λ v. returns_value (Some v)) (sym (c.from_vec.ensures ∙ c.new.ensures.items)))

pub returns : goal.returns
returns c =
    fails_so c.args.run.now _ _ c.fault-2.result (name_undefined (place_of c.args.at) c.args.name.now c.args.args.now (search rules)
    (sym c.is_number.ensures ∙ c.if-is_number.false) (sym c.is_environment_name.ensures ∙ c.if-is_environment_name.false)) c.fault-2.ensures
