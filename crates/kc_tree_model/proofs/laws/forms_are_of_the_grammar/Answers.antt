use Rattle.kc_tree_model.proofs.ReadingLaws.FormLaws.{forms_related}
use Rattle.kc_tree_model.proofs.ReadingLaws.DeepForms.{deep_related}
use Rattle.kc_tree_model.proofs.ReadingLaws.FormFaults.{form_kind}
use Rattle.kc_tree_model.proofs.laws.forms_are_of_the_grammar.Goals as goal

pub returns-clause-form : goal.returns-clause-form
returns-clause-form c = forms_related

pub returns-clause-deep : goal.returns-clause-deep
returns-clause-deep c = deep_related

pub returns-clause-kind : goal.returns-clause-kind
returns-clause-kind c = form_kind
