use Rattle.std.proofs.Common.{Bor}
use Rattle.kc_macros.proofs.Common.{◌∙◌, ℕ, List, Some, sym, ap, option_map, place_of, message_value}
use Rattle.kc_macros_model.specs.declared.fault.MacroKind.TheVariants.{Error}
use Rattle.kc_macros_model.specs.Programs.{returns as returns_value}
use Rattle.kc_macros_model.specs.Expansion.{fault as fault_program}
use Rattle.kc_macros.proofs.ExpansionLemmas.{fails_so, returns_so}
use Rattle.kc_macros.proofs.names.error_value.Goals as goal

pub returns-in-Some : goal.returns-in-Some
returns-in-Some c = fails_so c.args.run.now _ _ c.fault.result (ap (λ o. message_value (fault_program (place_of c.args.at) Error)
    (option_map (λ (t : Bor (List ℕ)). t.now) o)) c.in-Some.is) c.fault.ensures

pub returns-in-None : goal.returns-in-None
returns-in-None c = returns_so c.args.run.now _ _ (ap (λ o. message_value (fault_program (place_of c.args.at) Error)
    (option_map (λ (t : Bor (List ℕ)). t.now) o)) c.in-None.is ∙ ap (λ v. returns_value (Some v)) (sym (c.from_vec.ensures ∙ c.new.ensures.items)))
