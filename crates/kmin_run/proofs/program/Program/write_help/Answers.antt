use Rattle.kmin_run.proofs.Common.{[], ◌∷◌, refl, rules, output_line, stopped}
use Rattle.kmin_run.proofs.program.Program.write_help.Goals as goal

pub returns-in-Err-clause-ends : goal.returns-in-Err-clause-ends
returns-in-Err-clause-ends g c =
    (output_line ∷ [], stopped c.in-Err.field-0.written (search rules) (search rules) (search rules) c.in-Err.ensures.failures refl refl, c.in-Err.ensures.reported)
