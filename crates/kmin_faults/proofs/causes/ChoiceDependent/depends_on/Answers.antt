use Rattle.kmin_faults.proofs.Common.{sym, ◌∙◌, IfOk-weaker, any_map, MemberDefault, member_default_view, names_unit}
use Rattle.kmin_faults.proofs.causes.ChoiceDependent.depends_on.Goals as goal

pub returns-in-Default : goal.returns-in-Default
returns-in-Default c = record {
  value = rw c.in-Default.is (IfOk-weaker c.is_in_some.result _ _
      (λ is e. e ∙ sym (any_map (λ (d : MemberDefault). names_unit c.args.search.now.tree.now.tree c.args.search.now.unit d.condition) (member_default_view c.args.search.now.tree.now.exprs) c.args.self.now.defaults.now)) c.is_in_some.ensures.value);
}
