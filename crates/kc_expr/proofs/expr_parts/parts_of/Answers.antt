use Rattle.kc_expr.proofs.Common.{◌≡◌, ap, sym, ◌∙◌, ℕ, node_expr, alone, related, negated, both, either, shown, exprs_in}
use Rattle.kc_expr.specs.checker.Nodes.{joined}
use Rattle.kc_expr.proofs.StoreLemmas.{node_of}
use Rattle.kc_expr.proofs.expr_parts.parts_of.Goals as goal

same_sides : {X Y : Type 0} (f : X → X → Y) (a b c d : X) → a ≡ c → b ≡ d → f c d ≡ f a b
same_sides f a b c d p q = cc

pub returns-in-Alone-clause-expr : goal.returns-in-Alone-clause-expr
returns-in-Alone-clause-expr c =
    node_of c.args.store.now c.args.index _ _ c.requires.sound c.requires.there c.node.ensures.value c.in-Alone.is
    ∙ ap alone (sym c.operand_at.ensures.operand)

pub returns-in-Related-clause-expr : goal.returns-in-Related-clause-expr
returns-in-Related-clause-expr c =
    node_of c.args.store.now c.args.index _ _ c.requires.sound c.requires.there c.node.ensures.value c.in-Related.is
    ∙ same_sides (related c.in-Related.op) _ _ _ _ c.operand_at-in-Related.ensures.operand c.operand_at-in-Related-2.ensures.operand

pub returns-in-Negated-clause-expr : goal.returns-in-Negated-clause-expr
returns-in-Negated-clause-expr c =
    node_of c.args.store.now c.args.index _ _ c.requires.sound c.requires.there c.node.ensures.value c.in-Negated.is
    ∙ ap (λ (i : ℕ). negated (node_expr (exprs_in c.args.store.now) i)) (sym c.at.ensures)

pub returns-in-Joined-And-default-default-clause-expr : goal.returns-in-Joined-And-default-default-clause-expr
returns-in-Joined-And-default-default-clause-expr c =
    let expr = node_expr (exprs_in c.args.store.now) in
    node_of c.args.store.now c.args.index _ _ c.requires.sound c.requires.there c.node.ensures.value c.in-Joined-And-default-default.is
    ∙ ap (λ k. joined k (expr c.in-Joined-And-default-default.left) (expr c.in-Joined-And-default-default.right)) c.in-Joined-And-default-default.field-0-is
    ∙ same_sides (λ i j. both (expr i) (expr j)) _ _ _ _ c.at-in-Joined-And-default-default.ensures c.at-in-Joined-And-default-default-2.ensures

pub returns-in-Joined-Or-default-default-clause-expr : goal.returns-in-Joined-Or-default-default-clause-expr
returns-in-Joined-Or-default-default-clause-expr c =
    let expr = node_expr (exprs_in c.args.store.now) in
    node_of c.args.store.now c.args.index _ _ c.requires.sound c.requires.there c.node.ensures.value c.in-Joined-Or-default-default.is
    ∙ ap (λ k. joined k (expr c.in-Joined-Or-default-default.left) (expr c.in-Joined-Or-default-default.right)) c.in-Joined-Or-default-default.field-0-is
    ∙ same_sides (λ i j. either (expr i) (expr j)) _ _ _ _ c.at-in-Joined-Or-default-default.ensures c.at-in-Joined-Or-default-default-2.ensures

pub returns-in-Shown-clause-expr : goal.returns-in-Shown-clause-expr
returns-in-Shown-clause-expr c =
    node_of c.args.store.now c.args.index _ _ c.requires.sound c.requires.there c.node.ensures.value c.in-Shown.is
    ∙ ap (λ (i : ℕ). shown (node_expr (exprs_in c.args.store.now) i)) (sym c.at-in-Shown.ensures)
