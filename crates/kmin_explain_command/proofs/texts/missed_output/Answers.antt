use Rattle.kmin_explain_command.proofs.Common.{◌≤◌, ◌∙◌, ap, subst, sym, status_of_list, status_at_most_one}
use Rattle.kmin_explain_command.proofs.texts.missed_output.Goals as goal

pub returns-clause-status : goal.returns-clause-status
returns-clause-status c = subst (λ n. n ≤ 1) (sym c.list_status-status.ensures) (status_at_most_one c.args.exit_code c.deref-2.result.now)

pub returns-clause-output : goal.returns-clause-output
returns-clause-output c = λ named read meanings are. record {
  text_is = c.in_ok-text.ensures read meanings are;
  status_is = c.list_status-status.ensures ∙ ap (status_of_list c.args.exit_code) (c.deref-2.ensures.value ∙ c.in_ok-symbols.ensures);
}
