use Rattle.kmin_trees.proofs.Common.{◌≡◌, ◌<◌, ◌++◌, ◌∷◌, [], length, take, ap, ◌∙◌, map, arith, rules, take_all, common_steps, names_of}
use Rattle.kmin_trees.proofs.PathLists.{one_more_path, name_of_file}
use Rattle.kmin_trees.proofs.lined_trees.paths_of.Goals as goal

pub loop-number-preserved : goal.loop-number-preserved
loop-number-preserved c =
    let lt : c.loop-number.number < length (names_of c.args.names.now).list = first_of (search rules, grind (arith, common_steps)) in
    one_more_path (names_of c.args.names.now) c.loop-number.paths.items _ c.loop-number.number c.text_at.result.now lt c.loop-number.invariant c.text_at.ensures
    (c.in_ok-push.ensures.items ∙ ap (λ t. c.loop-number.paths.items ++ t ∷ []) c.in_ok-copied.ensures)

pub returns : goal.returns
returns c =
    let list = (names_of c.args.names.now).list in
    let all : take c.loop-number.number list ≡ list = take_all c.loop-number.number list (first_of (search rules, grind (arith, common_steps))) in
    c.loop-number.invariant ∙ ap (map name_of_file) all
