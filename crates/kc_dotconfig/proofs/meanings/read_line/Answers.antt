use Rattle.kc_dotconfig.proofs.Common.{ap, arith, common_steps, elements, option_map, TreeModel, tree_of_settled, without_white_end, file_format, meaning_view}
use Rattle.kc_dotconfig.proofs.LineMeanings.{value_line_means, unset_line_means, other_line_means}
use Rattle.kc_dotconfig.proofs.meanings.read_line.Goals as goal

pub returns-in-Some-clause-meaning : goal.returns-in-Some-clause-meaning
returns-in-Some-clause-meaning c =
    value_line_means (file_format c.args.format.now) (tree_of_settled c.args.settled.now) c.tree-tree.result.now.tree (without_white_end c.args.line.now)
    c.trimmed-line.result.now c.in-Some.name.now c.in-Some.text.now (meaning_view c.in_ok-meaning.meaning)
    (ap (λ (h : TreeModel). h.tree) c.tree-tree.ensures.tree) c.trimmed-line.ensures c.in-Some.ensures.some c.in_ok-meaning.ensures.meaning

pub returns-in-Some-unset_name-clause-meaning : goal.returns-in-Some-unset_name-clause-meaning
returns-in-Some-unset_name-clause-meaning c =
    unset_line_means (file_format c.args.format.now) (tree_of_settled c.args.settled.now) c.tree-tree.result.now.tree (without_white_end c.args.line.now)
    c.trimmed-line.result.now c.in-Some-unset_name.name.now (meaning_view c.read_unset_line.result)
    (ap (λ (h : TreeModel). h.tree) c.tree-tree.ensures.tree) c.trimmed-line.ensures c.in_default.ensures.none c.in-Some-unset_name.ensures.some
    c.read_unset_line.ensures.meaning

pub returns-clause-meaning : goal.returns-clause-meaning
returns-clause-meaning c =
    other_line_means (file_format c.args.format.now) (tree_of_settled c.args.settled.now) c.tree-tree.result.now.tree (without_white_end c.args.line.now)
    c.trimmed-line.result.now (option_map meaning_view c.read_other_line.result)
    (ap (λ (h : TreeModel). h.tree) c.tree-tree.ensures.tree) c.trimmed-line.ensures c.in_default.ensures.none c.in_default-unset_name.ensures.none
    c.read_other_line.ensures.meaning

pub read_value_line-requires-text-text : goal.read_value_line-requires-text-text
read_value_line-requires-text-text c = grind (arith, common_steps)

pub read_value_line-requires-text-name : goal.read_value_line-requires-text-name
read_value_line-requires-text-name c = grind (arith, common_steps)

pub read_unset_line-requires-text-name : goal.read_unset_line-requires-text-name
read_unset_line-requires-text-name c = grind (arith, common_steps)

pub returns-in_err-meaning-clause-within : goal.returns-in_err-meaning-clause-within
returns-in_err-meaning-clause-within c = grind (arith, elements)

pub returns-in-Some-unset_name-clause-within : goal.returns-in-Some-unset_name-clause-within
returns-in-Some-unset_name-clause-within c = grind (arith, common_steps)

pub returns-in-Some-clause-within : goal.returns-in-Some-clause-within
returns-in-Some-clause-within c = grind (arith, common_steps)
