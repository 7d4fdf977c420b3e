use Rattle.kc_symbol_lines.proofs.Common.{◌≡◌, ◌<◌, List, ℕ, None, length, get_or, ap, sym, ◌∙◌, subst, arith, All, get_or_read, is_linux_6_12, no_group, group_at, IsChain, open_numbers, lists_of, inside_blocks, unwrap_or-slice_get, CodeGroup}
use Rattle.std.proofs.lemmas.Result.{on_ok_weaker}
use Rattle.kc_symbol_lines.proofs.BlockLaws.{chain_below}
use Rattle.kc_symbol_lines.proofs.EntrySteps.{entry_of}
use Rattle.kc_symbol_lines.proofs.PlacedGroups.{many_groups}
use Rattle.kc_symbol_lines.proofs.symbol.push_group.Goals as goal

pub bounds-blocks-i : goal.bounds-blocks-i
bounds-blocks-i c =
    let b = c.requires.blocked in
    let n = many_groups b.exprs c.args.lines.now b.read b.has in
    omega (arith, c.requires.there, n, b.around.many)

pub blocks_from-requires : goal.blocks_from-requires
blocks_from-requires c =
    let b = c.requires.blocked in
    let n = many_groups b.exprs c.args.lines.now b.read b.has in
    record {
      chain = (
        open_numbers b.read c.args.i,
        subst (λ o. IsChain c.args.blocks.now o (open_numbers b.read c.args.i)) (unwrap_or-slice_get c.args.blocks.now c.args.i None)
            (b.around.chains c.args.i (omega (arith, c.requires.there, n))),
      );
    }

pub enclosing_in-requires-clause-there : goal.enclosing_in-requires-clause-there
enclosing_in-requires-clause-there c =
    let b = c.requires.blocked in
    let groups = c.args.lines.now.groups.items in
    let blocks = c.args.blocks.now in
    let n = many_groups b.exprs c.args.lines.now b.read b.has in
    let numbers : List ℕ = open_numbers b.read c.args.i in
    let chain : IsChain blocks (get_or blocks c.args.i None) numbers = subst (λ o. IsChain blocks o numbers) (unwrap_or-slice_get blocks c.args.i None)
    (b.around.chains c.args.i (omega (arith, c.requires.there, n))) in
    let same : c.deref.result.now ≡ numbers = c.deref.ensures.value ∙ c.in_ok-around.ensures.ok numbers chain in
    let many : length blocks ≡ length groups = omega (arith, n, b.around.many) in
    subst (All (λ k. k < length groups)) (sym same) (subst (λ m. All (λ k. k < m) numbers) many (chain_below blocks (get_or blocks c.args.i None) numbers chain))

pub returns : goal.returns
returns c = λ exprs read h around.
    let lines = c.args.lines.now in
    let blocks = c.args.blocks.now in
    let n = many_groups exprs lines read h in
    let numbers : List ℕ = open_numbers read c.args.i in
    let chain : IsChain blocks (get_or blocks c.args.i None) numbers = subst (λ o. IsChain blocks o numbers) (unwrap_or-slice_get blocks c.args.i None)
    (around.chains c.args.i (omega (arith, c.requires.there, n))) in
    let same : c.deref.result.now ≡ numbers = c.deref.ensures.value ∙ c.in_ok-around.ensures.ok numbers chain in
    let inside : lists_of c.in_ok-enclosing.enclosing ≡ inside_blocks (is_linux_6_12 c.args.language) lines.no lines.groups.items lines.lines.items numbers =
    c.in_ok-enclosing.ensures.ok ∙ ap (inside_blocks (is_linux_6_12 c.args.language) lines.no lines.groups.items lines.lines.items) same in
    let own : c.index.result.now ≡ group_at lines.groups.items c.args.i = get_or_read lines.groups.items _ _ c.requires.there c.index.ensures no_group in
    on_ok_weaker c.push_entry.result
    (λ w. entry_of _ _ _ _ _ _ _ _ inside (ap (λ (g : CodeGroup). g.file) own) c.lines_at-own.ensures.value w)
    c.push_entry.ensures
