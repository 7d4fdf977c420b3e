use Rattle.kc_expr.proofs.Common.{[], get_or, Some, ap, sym, ◌∙◌, arith, common_steps, Exprs, named, quoted, operand_of, stored_names}
use Rattle.kc_expr.proofs.ExpressionNameLemmas.{operand_is, operand_none}
use Rattle.kc_expr.proofs.StoreLemmas.{within_nodes}
use Rattle.kc_expr.proofs.arena.Arena.operand.Goals as goal

pub node-requires : goal.node-requires
node-requires c = record { there = rw c.index.ensures (within_nodes c.args.self.now c.self.inside.store c.args.id c.self.view_is c.requires.there) }

pub returns-in_default-clause-operand : goal.returns-in_default-clause-operand
returns-in_default-clause-operand c =
    sym (operand_none c.args.self.now c.self.inside.store c.args.id c.index.result c.node.result c.self.view_is c.index.ensures c.self.invariant
    c.requires.there c.node.ensures.value c.in_default.not-Alone)

pub returns-in-Constant-clause-operand : goal.returns-in-Constant-clause-operand
returns-in-Constant-clause-operand c =
    sym (operand_is c.args.self.now c.self.inside.store c.args.id c.index.result c.node.result c.self.view_is c.index.ensures c.self.invariant c.requires.there
    c.node.ensures.value c.in-Alone.leaf c.in-Alone.is ∙ ap (λ l. Some (operand_of (stored_names c.self.inside.store) c.self.inside.store.texts.items l))
    c.in-Constant.is)

pub returns-in-Name-clause-operand : goal.returns-in-Name-clause-operand
returns-in-Name-clause-operand c =
    ap (λ i. Some (named (get_or c.args.self.now.names i []))) c.at.ensures
    ∙ ap (λ (x : Exprs). Some (named (get_or x.names c.in-Name.i []))) (sym c.self.view_is)
    ∙ sym (operand_is c.args.self.now c.self.inside.store c.args.id c.index.result c.node.result c.self.view_is c.index.ensures c.self.invariant
    c.requires.there c.node.ensures.value c.in-Alone.leaf c.in-Alone.is
    ∙ ap (λ l. Some (operand_of (stored_names c.self.inside.store) c.self.inside.store.texts.items l)) c.in-Name.is)

pub returns-in-Quoted-clause-operand : goal.returns-in-Quoted-clause-operand
returns-in-Quoted-clause-operand c =
    ap (λ x. Some (quoted x)) c.text.ensures.value
    ∙ sym (operand_is c.args.self.now c.self.inside.store c.args.id c.index.result c.node.result c.self.view_is c.index.ensures c.self.invariant
    c.requires.there c.node.ensures.value c.in-Alone.leaf c.in-Alone.is
    ∙ ap (λ l. Some (operand_of (stored_names c.self.inside.store) c.self.inside.store.texts.items l)) c.in-Quoted.is)

pub text-requires : goal.text-requires
text-requires c = grind (arith, common_steps)

pub returns-in-Name-clause-held : goal.returns-in-Name-clause-held
returns-in-Name-clause-held c = grind (arith, common_steps)
