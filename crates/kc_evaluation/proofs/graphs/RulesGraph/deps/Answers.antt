use Rattle.std.proofs.Common.{◌+◌, arith, ap, ◌∙◌, length}
use Rattle.std.proofs.lemmas.Grind.{common_steps, get_or_default_zero}
use Rattle.kc_evaluation.proofs.graphs.RulesGraph.deps.Goals as goal

pub slice_bounds-result-count : goal.slice_bounds-result-count
slice_bounds-result-count c =
    let r = c.args.self.now in
    let first = c.index.ensures ∙ get_or_default_zero r.starts.items c.args.u c.index.result.now (omega (arith, r.links_are.places, c.requires.there)) in
    let last = c.index-2.ensures ∙ get_or_default_zero r.starts.items (c.args.u + 1) c.index-2.result.now
    (omega (arith, r.links_are.places, c.requires.there)) in
    omega (arith, first, last, r.links_are.rises c.args.u c.requires.there)

pub slice_bounds-result-start : goal.slice_bounds-result-start
slice_bounds-result-start c =
    let r = c.args.self.now in
    let first = c.index.ensures ∙ get_or_default_zero r.starts.items c.args.u c.index.result.now (omega (arith, r.links_are.places, c.requires.there)) in
    let last = c.index-2.ensures ∙ get_or_default_zero r.starts.items (c.args.u + 1) c.index-2.result.now
    (omega (arith, r.links_are.places, c.requires.there)) in
    omega (arith, first, last, r.links_are.rises c.args.u c.requires.there)

pub slice_bounds-result-end : goal.slice_bounds-result-end
slice_bounds-result-end c =
    let r = c.args.self.now in
    let last = c.index-2.ensures ∙ get_or_default_zero r.starts.items (c.args.u + 1) c.index-2.result.now
    (omega (arith, r.links_are.places, c.requires.there)) in
    omega (arith, last, r.links_are.within c.args.u c.requires.there, ap length c.deref.ensures.value)

pub returns : goal.returns
returns c = grind (arith, common_steps)
