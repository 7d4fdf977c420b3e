use Rattle.kc_builder.proofs.Common.{length, get_or, [], ◌∷◌, ◌++◌, None, ap, ◌∙◌, arith, common_steps, row_of_symbol, SymbolSummary, RepresentsListing}
use Rattle.kc_builder.proofs.RowSteps.{as_many, row_more, rows_all, rows_shown}
use Rattle.kc_builder.proofs.rows.symbol_rows.Goals as goal

abbrev nothing : SymbolSummary
nothing = record { first = None; given = None; choice = None }

pub bounds-symbols-s : goal.bounds-symbols-s
bounds-symbols-s c =
    let e = as_many c.args.listing.now c.args.symbols.now c.requires.shown c.requires.symbols in
    let n = ap length c.as_slice-names.ensures.value in
    omega arith

pub loop-s-preserved : goal.loop-s-preserved
loop-s-preserved c =
    let e = as_many c.args.listing.now c.args.symbols.now c.requires.shown c.requires.symbols in
    let n = ap length c.as_slice-names.ensures.value in
    let symbol_summary = get_or c.args.symbols.now c.loop-s.s nothing in
    let r = c.row_of.ensures ∙ ap (λ g. row_of_symbol g c.index-names-s.result symbol_summary) c.as_slice-groups.ensures.value
    ∙ ap (λ i. row_of_symbol c.args.listing.now.groups.items i symbol_summary) c.index-names-s.is in
    row_more c.args.listing.now.groups.items c.as_slice-names.result.now c.args.symbols.now c.loop-s.rows.items c.push.new.self.items c.loop-s.s
    c.index-names-s.result nothing (omega arith) (omega arith) c.loop-s.invariant
    (c.in_ok-push.ensures.items ∙ ap (λ x. c.loop-s.rows.items ++ x ∷ []) r)

pub returns : goal.returns
unfolding RepresentsListing
returns c = record {
  ok = λ read h.
      let l = c.args.listing.now in
      let all = rows_all l.groups.items c.as_slice-names.result.now c.args.symbols.now c.loop-s.rows.items c.loop-s.s (omega arith) (omega arith)
      c.loop-s.invariant in
      rows_shown l.names.arena _ _ l.texts.items l.lines.items l.groups.items read h c.args.symbols.now c.loop-s.rows.items (c.requires.symbols read h)
      (rw c.as_slice-names.ensures.value at all);
}

pub bounds-names-s : goal.bounds-names-s
bounds-names-s c = grind (arith, common_steps)

pub offset_bounds-symbols-s : goal.offset_bounds-symbols-s
offset_bounds-symbols-s c = grind (arith, common_steps)
