use Rattle.std.proofs.Common.{Bor}
use Rattle.kc_macros.proofs.Common.{◌∙◌, ℕ, List, Some, sym, ap, option_map, reported, place_of, message_value}
use Rattle.kc_macros_model.specs.Programs.{returns as returns_value}
use Rattle.kc_macros.proofs.ExpansionLemmas.{returns_so}
use Rattle.kc_macros.proofs.names.notice_value.Goals as goal

pub returns-in-None : goal.returns-in-None
returns-in-None c = returns_so c.args.run.now _ _ (ap (λ o. message_value (reported (place_of c.args.at) c.args.kind)
    (option_map (λ (t : Bor (List ℕ)). t.now) o)) c.in-None.is ∙ ap (λ v. returns_value (Some v)) (sym (c.from_vec.ensures ∙ c.new.ensures.items)))
