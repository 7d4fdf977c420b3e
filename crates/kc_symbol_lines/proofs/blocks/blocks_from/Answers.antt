use Rattle.kc_symbol_lines.proofs.Common.{◌<◌, ◌++◌, [], ◌∷◌, Some, drop, ap, sym, ◌∙◌, subst, append-nil, append_assoc, block_at, IsChain}
use Rattle.kc_symbol_lines.proofs.BlockLaws.{chain_outer, chain_first, chain_falls, chain_none, steps, fewer_steps, none_left}
use Rattle.kc_symbol_lines.proofs.blocks.blocks_from.Goals as goal

pub loop-at-init : goal.loop-at-init
loop-at-init c = λ numbers h. (numbers, h, ap (λ xs. xs ++ numbers) c.new-found.ensures.items)

pub loop-at-preserved : goal.loop-at-preserved
loop-at-preserved c = λ numbers h.
    let blocks = c.args.blocks.now in
    let number = c.in-Some.number in
    let k = c.loop-at.invariant numbers h in
    let chain : IsChain blocks (Some number) k.0 = subst (λ o. IsChain blocks o k.0) c.in-Some.is k.1 in (
      drop 1 k.0,
      subst (λ o. IsChain blocks o (drop 1 k.0)) (sym c.outer_block-at.ensures) (chain_outer blocks (Some number) k.0 chain),
      ap (λ xs. xs ++ drop 1 k.0) c.in_ok-push.ensures.items ∙ append_assoc c.loop-at.found.items (number ∷ []) (drop 1 k.0)
          ∙ ap (λ xs. c.loop-at.found.items ++ xs) (sym (chain_first blocks number k.0 chain)) ∙ k.2,
    )

pub loop-at-smaller : goal.loop-at-smaller
loop-at-smaller c =
    let blocks = c.args.blocks.now in
    let number = c.in-Some.number in
    let k = c.loop-at.invariant c.requires.chain.0 c.requires.chain.1 in
    let chain : IsChain blocks (Some number) k.0 = subst (λ o. IsChain blocks o k.0) c.in-Some.is k.1 in
    subst (λ o. steps c.outer_block-at.result < steps o) (sym c.in-Some.is)
    (subst (λ o. steps o < steps (Some number)) (sym c.outer_block-at.ensures) (fewer_steps (block_at blocks number) number (chain_falls blocks number k.0 chain)))

pub returns : goal.returns
returns c = record {
  ok = λ numbers h.
      let blocks = c.args.blocks.now in
      let k = c.loop-at.invariant numbers h in
      let empty = chain_none blocks k.0 (subst (λ o. IsChain blocks o k.0) (none_left c.loop-at.at c.in_default.not-Some) k.1) in
      sym (append-nil c.loop-at.found.items) ∙ ap (λ xs. c.loop-at.found.items ++ xs) (sym empty) ∙ k.2;
}
