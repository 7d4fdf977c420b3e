use Rattle.kc_checks.proofs.Common.{◌≡◌, ◌+◌, Some, ap, sym, ◌∙◌, drop, filter_map, slice_get, type_in}
use Rattle.std.specs.Prelude.{slice_index_or}
use Rattle.std.specs.List.{cons_option}
use Rattle.std.proofs.lemmas.List.{drop_more}
use Rattle.kc_statements.proofs.AttributeViews.{type_same}
use Rattle.kc_checks.proofs.summary.first_type.Goals as goal

pub returns-in-Some : goal.returns-in-Some
returns-in-Some c = λ e.
    let lines = c.args.lines.now in
    let l = slice_index_or lines c.loop-i.i c.index-lines-i.result in
    let given : Some c.in-Some.kind ≡ type_in e l = sym c.in-Some.is ∙ c.type_given.ensures ∙ type_same e l.attribute in
    ap (λ o. slice_get (cons_option o (filter_map (type_in e) (drop (c.loop-i.i + 1) lines))) 0) given
    ∙ sym (c.loop-i.invariant e ∙ ap (λ ls. slice_get (filter_map (type_in e) ls) 0) (drop_more lines c.loop-i.i c.index-lines-i.result c.loop-i-test.true))
