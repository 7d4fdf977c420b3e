use Rattle.kc_tree_model.proofs.Common.{ap, ◌∙◌, arith, common_steps, files_of, with_file}
use Rattle.kc_tree_model.proofs.TextsLemmas.{insert_files}
use Rattle.kc_tree_model.proofs.texts.Texts.insert_shared.Goals as goal

pub returns-clause-ok : goal.returns-clause-ok
returns-clause-ok c =
    ap (λ es. files_of c.self.inside.language es) c.in_ok-insert.ensures.entries
    ∙ insert_files c.self.inside.language c.self.inside.files.entries c.in_ok-path.path c.args.bytes
    ∙ ap (λ p. with_file (files_of c.self.inside.language c.self.inside.files.entries) p c.args.bytes.value.items) c.in_ok-path.ensures.ok
    ∙ ap (λ fs. with_file fs c.args.path.now c.args.bytes.value.items) c.self.view_is

pub returns-clause-err : goal.returns-clause-err
returns-clause-err c = omega arith

pub returns-in_err-path-clause-err : goal.returns-in_err-path-clause-err
returns-in_err-path-clause-err c = grind (arith, common_steps)

pub returns-in_err-path-clause-ok : goal.returns-in_err-path-clause-ok
returns-in_err-path-clause-ok c = grind (arith, common_steps)
