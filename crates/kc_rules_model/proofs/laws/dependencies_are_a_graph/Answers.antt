use Rattle.kc_rules_model.specs.checker.GraphLaw.{rules_graph as law}
use Rattle.kc_rules_model.proofs.laws.dependencies_are_a_graph.Goals as goal

pub returns : goal.returns
returns c = law
