use Rattle.std.proofs.Common.{sym, ◌∙◌, ap, Some, ℕ, List}
use Rattle.kmin_report.proofs.FileNameLemmas.{absent_name, plain_name, found_name}
use Rattle.kmin_report.proofs.file_names.file_name.Goals as goal

pub returns-in_err-key : goal.returns-in_err-key
returns-in_err-key c =
    rw c.from_residual.ensures (sym (absent_name c.args.texts.now c.args.expanded c.args.number (sym c.in_err-key.ensures)))

pub returns-in-Some : goal.returns-in-Some
returns-in-Some c =
    found_name c.args.texts.now c.args.expanded c.in-Some.tree c.args.number c.in_ok-key.key.now c.name_of_key.result.now c.in-Some.is
    c.in_ok-key.ensures c.name_of_key.ensures

pub returns-in-None : goal.returns-in-None
returns-in-None c =
    ap (λ (n : List ℕ). Some n) c.as_bytes.ensures.value
    ∙ plain_name c.args.texts.now c.args.expanded c.args.number c.in_ok-key.key.now c.in-None.is c.in_ok-key.ensures
