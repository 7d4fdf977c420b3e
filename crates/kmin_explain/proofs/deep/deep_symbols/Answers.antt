use Rattle.kmin_explain.proofs.Common.{◌≡◌, ℕ, ◌<◌, [], length, get_or, All, sym, subst, ◌∙◌, ap, arith, TreeModel, tree_model_of, tree_in, each_once_after, next_of, config_of, sources_model}
use Rattle.std.proofs.lemmas.List.{get_or_read}
use Rattle.kmin_explain.proofs.OnceLemmas.{longer, deep_begin, deep_more, deep_end}
use Rattle.kmin_explain.proofs.MarkLemmas.{few_found, all_below, one_below}
use Rattle.kmin_explain.proofs.deep.deep_symbols.Goals as goal

pub add_all-requires-clause-there : goal.add_all-requires-clause-there
add_all-requires-clause-there c =
    let same = c.tree.ensures.tree ∙ ap tree_model_of c.settled.ensures in
    let many = c.in_ok-seen.ensures.many ∙ c.symbol_count.ensures ∙ ap (λ (t : TreeModel). length t.tree.symbols) same in
    subst (λ (n : ℕ). All (λ s. s < n) c.args.symbols.now) (sym many) c.requires.there

pub loop-i-init : goal.loop-i-init
loop-i-init c =
    let same = c.tree.ensures.tree ∙ ap tree_model_of c.settled.ensures in
    record {
      marks = c.in_ok-add_all.ensures.marks;
      many = c.in_ok-add_all.ensures.many ∙ c.in_ok-seen.ensures.many ∙ c.symbol_count.ensures ∙ ap (λ (t : TreeModel). length t.tree.symbols) same;
      within = omega arith;
      deep = λ read meanings.
          deep_begin (next_of (sources_model c.args.by.now read meanings)) c.args.symbols.now c.in_ok-seen.seen.found.items _ c.in_ok-seen.ensures.none
          c.in_ok-add_all.ensures.found;
    }

pub add_next-requires-clause-there : goal.add_next-requires-clause-there
add_next-requires-clause-there c =
    let o = c.loop-i.seen in
    let was = c.loop-i.invariant in
    let n = length (tree_in (config_of c.args.by.now)).symbols in
    let inside : c.loop-i.i < length o.found.items = omega (arith, c.len.ensures, c.loop-i-test.true, o.found.ok.0) in
    let at : c.index.result.now ≡ get_or o.found.items c.loop-i.i 0 = get_or_read o.found.items _ _ inside c.index.ensures 0 in
    subst (λ k. k < n) (sym at) (one_below o n was.marks was.many c.loop-i.i 0 inside)

pub loop-i-preserved : goal.loop-i-preserved
loop-i-preserved c =
    let o = c.loop-i.seen in
    let was = c.loop-i.invariant in
    let now = c.in_ok-add_next.ensures in
    let inside : c.loop-i.i < length o.found.items = omega (arith, c.len.ensures, c.loop-i-test.true, o.found.ok.0) in
    let at : c.index.result.now ≡ get_or o.found.items c.loop-i.i 0 = get_or_read o.found.items _ _ inside c.index.ensures 0 in
    record {
      marks = now.marks;
      many = now.many;
      within = omega (arith, inside, ap length (now.found [] []), longer o.found.items (next_of (sources_model c.args.by.now [] []) c.index.result.now));
      deep = λ read meanings.
          let f = next_of (sources_model c.args.by.now read meanings) in
          deep_more f c.args.symbols.now o.found.items _ c.loop-i.i 0 inside (was.deep read meanings)
          (now.found read meanings ∙ ap (λ k. each_once_after o.found.items (f k)) at);
    }

pub loop-i-smaller : goal.loop-i-smaller
loop-i-smaller c =
    let o = c.loop-i.seen in
    let n = length (tree_in (config_of c.args.by.now)).symbols in
    let inside : c.loop-i.i < length o.found.items = omega (arith, c.len.ensures, c.loop-i-test.true, o.found.ok.0) in
    let few = few_found o n c.loop-i.invariant.marks c.loop-i.invariant.many in
    omega (arith, few, inside)

pub returns-clause-deep : goal.returns-clause-deep
returns-clause-deep c = λ read meanings.
    let o = c.loop-i.seen in
    deep_end (next_of (sources_model c.args.by.now read meanings)) c.args.symbols.now o.found.items c.loop-i.i
    (omega (arith, c.len.ensures, c.loop-i-test.false, o.found.ok.0)) (c.loop-i.invariant.deep read meanings)

pub returns-clause-there : goal.returns-clause-there
returns-clause-there c =
    all_below c.loop-i.seen (length (tree_in (config_of c.args.by.now)).symbols) c.loop-i.invariant.marks c.loop-i.invariant.many
