use Rattle.kc_parser.proofs.Common.{inl, inr, refl, sym, ap, ◌∙◌, arith, common_steps, of_head, source, choice_kept}
use Rattle.kc_tree_model.specs.Limits.{source_fault}
use Rattle.kc_parser.specs.checker.StateViews.{Describes, file_source_of}
use Rattle.kc_parser.proofs.ChoiceSteps.{enclosing_is}
use Rattle.kc_parser.proofs.sources.open_source.Goals as goal

pub returns-in-Ok-push_group-clause-sourced : goal.returns-in-Ok-push_group-clause-sourced
unfolding Describes
returns-in-Ok-push_group-clause-sourced c = λ before d.
    let kept = c.in-Ok.ensures.describes (file_source_of c.args.from) before d in
    let shows = c.in-Ok-push_group.ensures.appends before (of_head (source c.args.path)) kept.shows (c.args.path, c.in-Ok.ensures.kept, refl) refl
    (c.enclosing_choice-choice.ensures ∙ ap choice_kept c.deref.ensures.value ∙ enclosing_is c.push_text.new.self.stack.items _ kept.enclosed) in
    elim (c.in-Err.ensures.sourced before d) [
      | inl m ↦ inl (c.fault_or_out_of_memory.ensures.memory m)
      | inr e ↦ elim c.fault_or_out_of_memory.ensures.placed [
        | inl m ↦ inl m
        | inr f ↦ inr (c.in-Err.kind, ap (source_fault (file_source_of c.args.from) before) (sym c.as_str.ensures.characters) ∙ e, f, shows)
      ]
    ]

pub returns-in_default-clause-sourced : goal.returns-in_default-clause-sourced
returns-in_default-clause-sourced c = grind (arith, common_steps)

pub returns-in-Ok-push_source-clause-small : goal.returns-in-Ok-push_source-clause-small
returns-in-Ok-push_source-clause-small c = grind (arith, common_steps)

pub returns-in-Ok-push_group-clause-small : goal.returns-in-Ok-push_group-clause-small
returns-in-Ok-push_group-clause-small c = omega arith

pub returns-in-Err-push_group-clause-small : goal.returns-in-Err-push_group-clause-small
returns-in-Err-push_group-clause-small c = omega arith

pub returns-in-Ok-push_source-clause-sourced : goal.returns-in-Ok-push_source-clause-sourced
returns-in-Ok-push_source-clause-sourced c = grind (arith, common_steps)

pub returns-in-Err-push_group-clause-sourced : goal.returns-in-Err-push_group-clause-sourced
returns-in-Err-push_group-clause-sourced c = grind (arith, common_steps)

pub returns-in-Err-push_source-clause-small : goal.returns-in-Err-push_source-clause-small
returns-in-Err-push_source-clause-small c = omega arith

pub returns-in-Err-push_source-clause-sourced : goal.returns-in-Err-push_source-clause-sourced
returns-in-Err-push_source-clause-sourced c = grind (arith, common_steps)
