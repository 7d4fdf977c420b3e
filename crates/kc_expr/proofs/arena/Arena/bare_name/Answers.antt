use Rattle.kc_expr.proofs.Common.{[], get_or, Some, ap, sym, ◌∙◌, arith, common_steps, Exprs, operand_of, stored_names, option_and_then}
use Rattle.kc_expr.specs.between.Names.{name_of_operand}
use Rattle.kc_expr.proofs.ExpressionNameLemmas.{operand_is, operand_none}
use Rattle.kc_expr.proofs.StoreLemmas.{within_nodes}
use Rattle.kc_expr.proofs.arena.Arena.bare_name.Goals as goal

pub node-requires : goal.node-requires
node-requires c = record { there = rw c.index.ensures (within_nodes c.args.self.now c.self.inside.store c.args.id c.self.view_is c.requires.there) }

pub returns-in_default-clause-name : goal.returns-in_default-clause-name
returns-in_default-clause-name c = ap (option_and_then name_of_operand)
    (sym (operand_none c.args.self.now c.self.inside.store c.args.id c.index.result c.node.result c.self.view_is c.index.ensures c.self.invariant
    c.requires.there c.node.ensures.value c.in_default.not-Alone))

pub returns-in-Constant-clause-name : goal.returns-in-Constant-clause-name
returns-in-Constant-clause-name c =
    ap (option_and_then name_of_operand)
    (sym (operand_is c.args.self.now c.self.inside.store c.args.id c.index.result c.node.result c.self.view_is c.index.ensures c.self.invariant
    c.requires.there c.node.ensures.value c.in-Alone.leaf c.in-Alone.is
    ∙ ap (λ l. Some (operand_of (stored_names c.self.inside.store) c.self.inside.store.texts.items l)) c.in-Constant.is))

pub returns-in-Quoted-clause-name : goal.returns-in-Quoted-clause-name
returns-in-Quoted-clause-name c =
    ap (option_and_then name_of_operand)
    (sym (operand_is c.args.self.now c.self.inside.store c.args.id c.index.result c.node.result c.self.view_is c.index.ensures c.self.invariant
    c.requires.there c.node.ensures.value c.in-Alone.leaf c.in-Alone.is
    ∙ ap (λ l. Some (operand_of (stored_names c.self.inside.store) c.self.inside.store.texts.items l)) c.in-Quoted.is))

pub returns-in-Name-clause-name : goal.returns-in-Name-clause-name
returns-in-Name-clause-name c =
    ap (λ i. Some (get_or c.args.self.now.names i [])) c.at.ensures
    ∙ ap (λ (x : Exprs). Some (get_or x.names c.in-Name.index [])) (sym c.self.view_is)
    ∙ ap (option_and_then name_of_operand)
    (sym (operand_is c.args.self.now c.self.inside.store c.args.id c.index.result c.node.result c.self.view_is c.index.ensures c.self.invariant
    c.requires.there c.node.ensures.value c.in-Alone.leaf c.in-Alone.is
    ∙ ap (λ l. Some (operand_of (stored_names c.self.inside.store) c.self.inside.store.texts.items l)) c.in-Name.is))

pub returns-in-Name-clause-held : goal.returns-in-Name-clause-held
returns-in-Name-clause-held c = grind (arith, common_steps)
