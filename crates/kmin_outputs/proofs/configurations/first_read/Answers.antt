use Rattle.kc_solver.proofs.ErrorExits.{no_value}
use Rattle.kmin_outputs.proofs.configurations.first_read.Goals as goal

pub returns-in_err-config : goal.returns-in_err-config
returns-in_err-config c = record {
  settled = no_value c.from_residual.result _ _ c.from_residual.ensures.1;
  solved = no_value c.from_residual.result _ _ c.from_residual.ensures.1;
  users = no_value c.from_residual.result _ _ c.from_residual.ensures.1;
  chosen = no_value c.from_residual.result _ _ c.from_residual.ensures.1;
}

pub returns-in_err-chosen : goal.returns-in_err-chosen
returns-in_err-chosen c = record {
  settled = no_value c.from_residual-in_err-chosen.result _ _ c.from_residual-in_err-chosen.ensures.1;
  solved = no_value c.from_residual-in_err-chosen.result _ _ c.from_residual-in_err-chosen.ensures.1;
  users = no_value c.from_residual-in_err-chosen.result _ _ c.from_residual-in_err-chosen.ensures.1;
  chosen = no_value c.from_residual-in_err-chosen.result _ _ c.from_residual-in_err-chosen.ensures.1;
}

pub returns : goal.returns
returns c = record {
  settled = c.in_ok-config.ensures.settled;
  solved = c.in_ok-config.ensures.solved;
  users = c.in_ok-config.ensures.users;
  chosen = c.in_ok-chosen.ensures;
}
