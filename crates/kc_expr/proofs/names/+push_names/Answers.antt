use Rattle.kc_expr.proofs.Common.{refl, exprs_in, node_expr, ◌++◌, [], map, ap, sym, ◌∙◌, arith, common_steps, on_ok_weaker, slice_index_or, stored_names, names_in_reverse, kept_through}
use Rattle.kc_expr.proofs.ExpressionNameLemmas.{reverse_joined, names_of_both}
use Rattle.kc_expr.proofs.StoreLemmas.{node_of, fits_at, of_part, part_below}
use Rattle.kc_expr.proofs.names.+push_names.Goals as goal

pub returns-in-Alone-clause-words : goal.returns-in-Alone-clause-words
returns-in-Alone-clause-words t c =
    let e = ap names_in_reverse (node_of c.args.store.now c.down.at _ _ c.requires.sound (omega arith) c.node.ensures.value c.in-Alone.is) in
    on_ok_weaker c.push_name.result (λ w. w ∙ ap (λ ws. map (λ i. slice_index_or (stored_names c.args.store.now) i []) c.down.found.items ++ ws) (sym e)
    ∙ c.down.invariant.words) c.push_name.ensures.words

pub returns-in-Alone-clause-held : goal.returns-in-Alone-clause-held
returns-in-Alone-clause-held t c = on_ok_weaker c.push_name.result (λ h all. h (c.down.invariant.held all)) c.push_name.ensures.held

pub returns-in-Related-clause-words : goal.returns-in-Related-clause-words
returns-in-Related-clause-words t c =
    let e = ap names_in_reverse (node_of c.args.store.now c.down.at _ _ c.requires.sound (omega arith) c.node.ensures.value c.in-Related.is) in
    on_ok_weaker c.push_sides.result (λ w. w ∙ ap (λ ws. map (λ i. slice_index_or (stored_names c.args.store.now) i []) c.down.found.items ++ ws) (sym e)
    ∙ c.down.invariant.words) c.push_sides.ensures.words

pub returns-in-Related-clause-held : goal.returns-in-Related-clause-held
returns-in-Related-clause-held t c = on_ok_weaker c.push_sides.result (λ h all. h (c.down.invariant.held all)) c.push_sides.ensures.held

pub down-preserved : goal.down-preserved
down-preserved t c =
    let same = of_part c.args.store.now c.down.at c.in-Negated.part _ c.requires.sound (omega arith) c.node.ensures.value names_in_reverse (λ e. refl) (λ e. refl) c.in-Negated.is in
    let below = part_below c.args.store.now c.down.at c.in-Negated.part _ c.requires.sound (omega arith) c.node.ensures.value c.in-Negated.is in
    record {
      below = omega (arith, below);
      words = ap (λ ws. map (λ i. slice_index_or (stored_names c.args.store.now) i []) c.down.found.items ++ ws) (sym same)
          ∙ c.down.invariant.words;
      held = c.down.invariant.held;
      kept = c.down.invariant.kept;
    }

pub down-preserved-in-Joined-1 : goal.down-preserved-in-Joined-1
down-preserved-in-Joined-1 t c =
    let e = ap names_in_reverse (node_of c.args.store.now c.down.at _ _ c.requires.sound (omega arith) c.node.ensures.value c.in-Joined.is) ∙ reverse_joined c.in-Joined.field-0 (node_expr (exprs_in c.args.store.now) c.in-Joined.left) (node_expr (exprs_in c.args.store.now) c.in-Joined.right) in
    let f = fits_at c.args.store.now c.down.at _ _ c.requires.sound (omega arith) c.node.ensures.value c.in-Joined.is in
    record {
      below = omega (arith, f);
      words = names_of_both (map (λ i. slice_index_or (stored_names c.args.store.now) i []) c.down.found.items) _ _ _ _
          c.in_ok-push_names-in-Joined.ensures.words
          (ap (λ ws. map (λ i. slice_index_or (stored_names c.args.store.now) i []) c.down.found.items ++ ws) (sym e) ∙ c.down.invariant.words);
      held = λ all. c.in_ok-push_names-in-Joined.ensures.held (c.down.invariant.held all);
      kept = kept_through c.args.found.now.items c.down.found.items _ c.down.invariant.kept c.in_ok-push_names-in-Joined.ensures.kept;
    }

pub returns-in-Alone-clause-kept : goal.returns-in-Alone-clause-kept
returns-in-Alone-clause-kept t c = kept_through c.args.found.now.items c.down.found.items _ c.down.invariant.kept c.push_name.ensures.kept

pub returns-in-Related-clause-kept : goal.returns-in-Related-clause-kept
returns-in-Related-clause-kept t c = kept_through c.args.found.now.items c.down.found.items _ c.down.invariant.kept c.push_sides.ensures.kept

pub push_names-requires : goal.push_names-requires
push_names-requires t c = grind (arith, common_steps)

pub returns-in_err-push_names-in-Joined-clause-kept : goal.returns-in_err-push_names-in-Joined-clause-kept
returns-in_err-push_names-in-Joined-clause-kept t c = grind (arith, common_steps)

pub down-init : goal.down-init
down-init t c = grind (arith, common_steps)

pub down-smaller-in-Joined-1 : goal.down-smaller-in-Joined-1
down-smaller-in-Joined-1 t c = grind (arith, common_steps)
