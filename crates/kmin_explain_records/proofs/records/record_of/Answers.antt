use Rattle.kmin_explain_records.proofs.Common.{ℕ, List, ◌∙◌, ap, symbol_view, tree_model_of, valuation_tree, valuation_exprs, valuation_values, reasons_view, symbol_lines_view, places_view, Json, json_tokens, object_of, sources_model, object_is}
use Rattle.kmin_records.proofs.RecordSteps.{recorded}
use Rattle.kmin_explain.proofs.ReasonTexts.{same_at}
use Rattle.kmin_explain_records.proofs.RecordTexts.{members_over, members_are, members_known}
use Rattle.kmin_explain_records.proofs.records.record_of.Goals as goal

pub returns : goal.returns
returns c = λ read meanings all symbol are at is.
    let g = sources_model c.args.by.now read meanings in
    let m = tree_model_of c.args.by.now.config.now.system in
    let found = c.args.found.now in
    let s = found.symbol.s in
    let under = c.valuation.result in
    let e = valuation_exprs under in
    let tree = valuation_tree under in
    let values = valuation_values under in
    let code = symbol_view e c.symbol.result in
    recorded c.end_record.result c.in_ok-writer.writer c.write_members.new.writer _ _ _ c.in_ok-writer.ensures.before c.in_ok-writer.ensures.tokens
    (c.in_ok-write_members.ensures read meanings are) c.end_record.ensures.line
    (object_is (members_over g tree values s code found.symbol.kind (reasons_view e found.reasons) (symbol_lines_view e found.lines) (places_view e found.places))
    ∙ ap (λ (ms : List (List ℕ × Json)). json_tokens (object_of ms))
    (members_are g e m.exprs tree values c.valuation.ensures.exprs c.valuation.ensures.tree c.valuation.ensures.values
    s symbol code found.symbol.kind (λ x. reasons_view x found.reasons) (λ x. symbol_lines_view x found.lines) (λ x. places_view x found.places)
    (same_at tree g.tree s code symbol c.valuation.ensures.tree c.symbol.ensures.symbol at) is.kind
    ∙ members_known g m.exprs all symbol found is))
