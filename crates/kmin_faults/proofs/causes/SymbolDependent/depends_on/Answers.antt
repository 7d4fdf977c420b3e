use Rattle.kmin_faults.proofs.Common.{sym, ◌∙◌, IfOk-weaker, any_map, default_view, range_view, reverse_dependency_view, node_expr, default_names_unit, names_unit, range_names_unit, reverse_names_unit}
use Rattle.kmin_faults.proofs.causes.SymbolDependent.depends_on.Goals as goal

pub returns-in-DependsOn : goal.returns-in-DependsOn
returns-in-DependsOn c = record {
  value = rw c.in-DependsOn.is (IfOk-weaker c.is_in_some.result _ _
      (λ is e. e ∙ sym (any_map (names_unit c.args.search.now.tree.now.tree c.args.search.now.unit) (node_expr c.args.search.now.tree.now.exprs) c.args.self.now.direct.now)) c.is_in_some.ensures.value);
}

pub returns-in-Prompt : goal.returns-in-Prompt
returns-in-Prompt c = record {
  value = rw c.in-Prompt.is (IfOk-weaker c.is_in_some-in-Prompt.result _ _
      (λ is e. e ∙ sym (any_map (names_unit c.args.search.now.tree.now.tree c.args.search.now.unit) (node_expr c.args.search.now.tree.now.exprs) c.args.self.now.prompts.now)) c.is_in_some-in-Prompt.ensures.value);
}

pub returns-in-Default : goal.returns-in-Default
returns-in-Default c = record {
  value = rw c.in-Default.is (IfOk-weaker c.is_in_some-in-Default.result _ _
      (λ is e. e ∙ sym (any_map (default_names_unit c.args.search.now.tree.now.tree c.args.search.now.unit) (default_view c.args.search.now.tree.now.exprs) c.args.self.now.defaults.now)) c.is_in_some-in-Default.ensures.value);
}

pub returns-in-Range : goal.returns-in-Range
returns-in-Range c = record {
  value = rw c.in-Range.is (IfOk-weaker c.is_in_some-in-Range.result _ _
      (λ is e. e ∙ sym (any_map (range_names_unit c.args.search.now.tree.now.tree c.args.search.now.unit) (range_view c.args.search.now.tree.now.exprs) c.args.self.now.ranges.now)) c.is_in_some-in-Range.ensures.value);
}

pub returns-in-Select : goal.returns-in-Select
returns-in-Select c = record {
  value = rw c.in-Select.is (IfOk-weaker c.is_in_some-in-Select.result _ _
      (λ is e. e ∙ sym (any_map (reverse_names_unit c.args.search.now.tree.now.tree c.args.search.now.unit) (reverse_dependency_view c.args.search.now.tree.now.exprs) c.args.self.now.selectors.now)) c.is_in_some-in-Select.ensures.value);
}

pub returns-in-Imply : goal.returns-in-Imply
returns-in-Imply c = record {
  value = rw c.in-Imply.is (IfOk-weaker c.is_in_some-in-Imply.result _ _
      (λ is e. e ∙ sym (any_map (reverse_names_unit c.args.search.now.tree.now.tree c.args.search.now.unit) (reverse_dependency_view c.args.search.now.tree.now.exprs) c.args.self.now.impliers.now)) c.is_in_some-in-Imply.ensures.value);
}
