use Rattle.std.proofs.Common.{ap, rules}
use Rattle.std.proofs.lemmas.Result.{IfOk-weaker}
use Rattle.clap.specs.Words.{App}
use Rattle.kmin_commands.proofs.CommandParts.{with_command}
use Rattle.kmin_commands.proofs.ErrorExits.{no_value}
use Rattle.kmin_commands.proofs.Simplicity.{program_is_simple}
use Rattle.kmin_commands.proofs.commands.program.Goals as goal

pub returns-clause-required : goal.returns-clause-required
returns-clause-required c =
    let listing = c.in_ok-program-2.ensures _ (c.in_ok-program.ensures _ c.in_ok-named.ensures) in
    let explain = with_command _ _ _ _ _ c.in_ok-program-3.ensures c.in_ok-explain.ensures listing in
    let compare = with_command _ _ _ _ _ c.in_ok-program-4.ensures c.in_ok-compare.ensures explain in
    IfOk-weaker c.with_tidy_and_wants.result _ _ (λ made adds.
    let has = adds _ compare in (has.0, ap (λ (app : App). app.top.subcommand_required) has.1)) c.with_tidy_and_wants.ensures

pub returns-clause-declared : goal.returns-clause-declared
returns-clause-declared c =
    let listing = c.in_ok-program-2.ensures _ (c.in_ok-program.ensures _ c.in_ok-named.ensures) in
    let explain = with_command _ _ _ _ _ c.in_ok-program-3.ensures c.in_ok-explain.ensures listing in
    let compare = with_command _ _ _ _ _ c.in_ok-program-4.ensures c.in_ok-compare.ensures explain in
    IfOk-weaker c.with_tidy_and_wants.result _ _ (λ made adds.
    (_, record { languages = search rules; forms = search rules; profiles = search rules; messages = search rules; outputs = search rules }, (adds _ compare).1)) c.with_tidy_and_wants.ensures

pub returns-clause-simple : goal.returns-clause-simple
returns-clause-simple c =
    IfOk-weaker c.with_tidy_and_wants.result _ _ (λ made is. program_is_simple _ is) (returns-clause-declared c)

pub returns-in_err-named : goal.returns-in_err-named
returns-in_err-named c = record {
  required = no_value c.from_residual.result _ _ c.from_residual.ensures.1;
  declared = no_value c.from_residual.result _ _ c.from_residual.ensures.1;
  simple = no_value c.from_residual.result _ _ c.from_residual.ensures.1;
}

pub returns-in_err-program : goal.returns-in_err-program
returns-in_err-program c = record {
  required = no_value c.from_residual-in_err-program.result _ _ c.from_residual-in_err-program.ensures.1;
  declared = no_value c.from_residual-in_err-program.result _ _ c.from_residual-in_err-program.ensures.1;
  simple = no_value c.from_residual-in_err-program.result _ _ c.from_residual-in_err-program.ensures.1;
}

pub returns-in_err-program-2 : goal.returns-in_err-program-2
returns-in_err-program-2 c = record {
  required = no_value c.from_residual-in_err-program-2.result _ _ c.from_residual-in_err-program-2.ensures.1;
  declared = no_value c.from_residual-in_err-program-2.result _ _ c.from_residual-in_err-program-2.ensures.1;
  simple = no_value c.from_residual-in_err-program-2.result _ _ c.from_residual-in_err-program-2.ensures.1;
}

pub returns-in_err-explain : goal.returns-in_err-explain
returns-in_err-explain c = record {
  required = no_value c.from_residual-in_err-explain.result _ _ c.from_residual-in_err-explain.ensures.1;
  declared = no_value c.from_residual-in_err-explain.result _ _ c.from_residual-in_err-explain.ensures.1;
  simple = no_value c.from_residual-in_err-explain.result _ _ c.from_residual-in_err-explain.ensures.1;
}

pub returns-in_err-program-3 : goal.returns-in_err-program-3
returns-in_err-program-3 c = record {
  required = no_value c.from_residual-in_err-program-3.result _ _ c.from_residual-in_err-program-3.ensures.1;
  declared = no_value c.from_residual-in_err-program-3.result _ _ c.from_residual-in_err-program-3.ensures.1;
  simple = no_value c.from_residual-in_err-program-3.result _ _ c.from_residual-in_err-program-3.ensures.1;
}

pub returns-in_err-compare : goal.returns-in_err-compare
returns-in_err-compare c = record {
  required = no_value c.from_residual-in_err-compare.result _ _ c.from_residual-in_err-compare.ensures.1;
  declared = no_value c.from_residual-in_err-compare.result _ _ c.from_residual-in_err-compare.ensures.1;
  simple = no_value c.from_residual-in_err-compare.result _ _ c.from_residual-in_err-compare.ensures.1;
}

pub returns-in_err-program-4 : goal.returns-in_err-program-4
returns-in_err-program-4 c = record {
  required = no_value c.from_residual-in_err-program-4.result _ _ c.from_residual-in_err-program-4.ensures.1;
  declared = no_value c.from_residual-in_err-program-4.result _ _ c.from_residual-in_err-program-4.ensures.1;
  simple = no_value c.from_residual-in_err-program-4.result _ _ c.from_residual-in_err-program-4.ensures.1;
}
