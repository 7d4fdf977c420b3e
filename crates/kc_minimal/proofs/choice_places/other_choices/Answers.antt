use Rattle.std.proofs.Common.{eqb-true}
use Rattle.std.proofs.lemmas.List.{nil_from_length}
use Rattle.kc_minimal.proofs.Common.{◌≡◌, true, [], cond, ap, subst, sym, ◌∙◌, IfOk-weaker, tree_of_settled, has_no_version, other_places}
use Rattle.kc_tree.specs.TreeModel.{TreeModel}
use Rattle.kc_minimal.proofs.ChoiceGroups.{no_choices, places_of_groups}
use Rattle.kc_minimal.proofs.choice_places.other_choices.Goals as goal

pub returns-then-is_empty : goal.returns-then-is_empty
returns-then-is_empty c =
    let none : c.args.lines.now ≡ [] = nil_from_length c.args.lines.now (eqb-true _ 0 (sym c.is_empty.ensures ∙ c.if-is_empty.true)) in
    c.new.ensures.items ∙ sym (no_choices (tree_of_settled c.args.settled.now) c.args.values.now c.args.lines.now none)

pub returns : goal.returns
returns c =
    let tree = tree_of_settled c.args.settled.now in
    let language : c.language.result ≡ tree.language = c.language.ensures ∙ ap (λ (t : TreeModel). t.tree.language) c.tree.ensures.tree in
    let version : has_no_version tree.language ≡ true =
    subst (λ l. has_no_version l ≡ true) language (sym c.has_no_version.ensures ∙ c.if-not-has_no_version.false) in
    IfOk-weaker c.group_places.result _ _
    (λ found is. places_of_groups tree c.args.values.now c.args.lines.now c.in_ok-groups.groups.items found.items c.in_ok-groups.ensures.rising
    c.in_ok-groups.ensures.groups is ∙ sym (ap (λ b. cond b (other_places tree c.args.values.now c.args.lines.now) []) version))
    c.group_places.ensures
