use Rattle.kc_minimal.proofs.Common.{arith, common_steps, on_ok_weaker, tree_of_settled, tree_model_of, file_format}
use Rattle.kc_expr.specs.between.Arena.{node_expr}
use Rattle.kc_minimal.proofs.DraftSteps.{menu_begun, menu_ended, commented}
use Rattle.kc_minimal.proofs.full.push_entry.Goals as goal

pub returns-in-MenuBegins-clause-goes : goal.returns-in-MenuBegins-clause-goes
returns-in-MenuBegins-clause-goes c =
    let exprs = (tree_model_of c.args.written.now.settled.now).exprs in
    let m = c.in-MenuBegins in
    on_ok_weaker c.push_title.result (λ h left d. menu_begun (file_format c.args.written.now.format.now) (tree_of_settled c.args.written.now.settled.now) c.args.written.now.values.now left
    c.args.draft.now c.push_title.new.draft m.title.now (node_expr exprs m.dependency) (node_expr exprs m.visible) c.both_apply.result
    c.both_apply.ensures.value
    h.0 h.1 c.push_title.ensures.marks (rw m.is at d)) c.push_title.ensures.goes

pub returns-in-MenuEnds-clause-goes : goal.returns-in-MenuEnds-clause-goes
returns-in-MenuEnds-clause-goes c =
    let exprs = (tree_model_of c.args.written.now.settled.now).exprs in
    let m = c.in-MenuEnds in
    on_ok_weaker c.push_menu_end.result (λ h left d. menu_ended (file_format c.args.written.now.format.now) (tree_of_settled c.args.written.now.settled.now) c.args.written.now.values.now left
    c.args.draft.now c.push_menu_end.new.draft m.title.now (node_expr exprs m.dependency) (node_expr exprs m.visible) c.both_apply-in-MenuEnds.result
    c.both_apply-in-MenuEnds.ensures.value
    h.0 h.1 c.push_menu_end.ensures.marks (rw m.is at d)) c.push_menu_end.ensures.goes

pub returns-in-Comment-clause-goes : goal.returns-in-Comment-clause-goes
returns-in-Comment-clause-goes c =
    let exprs = (tree_model_of c.args.written.now.settled.now).exprs in
    let m = c.in-Comment in
    on_ok_weaker c.push_title-in-Comment.result (λ h left d. commented (file_format c.args.written.now.format.now) (tree_of_settled c.args.written.now.settled.now) c.args.written.now.values.now
    left c.args.draft.now c.push_title-in-Comment.new.draft m.title.now (node_expr exprs m.dependency) c.applies.result c.applies.ensures.value
    h.0 h.1 c.push_title-in-Comment.ensures.marks (rw m.is at d)) c.push_title-in-Comment.ensures.goes

pub returns-in-ChoiceBegins-clause-goes : goal.returns-in-ChoiceBegins-clause-goes
returns-in-ChoiceBegins-clause-goes c = grind (arith, common_steps)

pub both_apply-requires-in-MenuEnds-clause-visible : goal.both_apply-requires-in-MenuEnds-clause-visible
both_apply-requires-in-MenuEnds-clause-visible c = grind (arith, common_steps)

pub applies-requires : goal.applies-requires
applies-requires c = grind (arith, common_steps)

pub returns-in-MenuBegins-clause-marks : goal.returns-in-MenuBegins-clause-marks
returns-in-MenuBegins-clause-marks c = grind (arith, common_steps)

pub returns-in-Comment-clause-marks : goal.returns-in-Comment-clause-marks
returns-in-Comment-clause-marks c = grind (arith, common_steps)

pub returns-in-Definition-clause-marks : goal.returns-in-Definition-clause-marks
returns-in-Definition-clause-marks c = grind (arith, common_steps)

pub returns-in-MenuEnds-clause-marks : goal.returns-in-MenuEnds-clause-marks
returns-in-MenuEnds-clause-marks c = grind (arith, common_steps)

pub both_apply-requires-clause-dependency : goal.both_apply-requires-clause-dependency
both_apply-requires-clause-dependency c = grind (arith, common_steps)

pub push_definition-requires-clause-symbol : goal.push_definition-requires-clause-symbol
push_definition-requires-clause-symbol c = grind (arith, common_steps)

pub both_apply-requires-clause-visible : goal.both_apply-requires-clause-visible
both_apply-requires-clause-visible c = grind (arith, common_steps)

pub both_apply-requires-in-MenuEnds-clause-dependency : goal.both_apply-requires-in-MenuEnds-clause-dependency
both_apply-requires-in-MenuEnds-clause-dependency c = grind (arith, common_steps)
