use Rattle.kmin_explain_records.proofs.Common.{sym, ◌∙◌, ap, subst, Some, slice_get, ◌≡◌, ℕ, sources_model}
use Rattle.kmin_records.proofs.RecordSteps.{line_appended}
use Rattle.kmin_explain.proofs.SymbolTexts.{symbol_there}
use Rattle.kmin_explain_records.specs.SymbolRecords.{explained_as_json}
use Rattle.kmin_explain_records.proofs.RecordTexts.{record_is}
use Rattle.kmin_explain_records.proofs.records.push_explained_record.Goals as goal

pub returns : goal.returns
returns c = λ read meanings are.
    let g = sources_model c.args.by.now read meanings in
    let s = c.args.s in
    let k = symbol_there g.tree.symbols s c.requires.there in
    let number = c.in_ok-found.ensures.number in
    line_appended c.extend_from_slice.result c.args.out.now.items _ c.deref.result.now _ c.extend_from_slice.ensures.items
    (c.deref.ensures.value
    ∙ c.in_ok-line.ensures read meanings c.args.all k.0 are (subst (λ (n : ℕ). slice_get g.tree.symbols n ≡ Some k.0) (sym number) k.1) (c.in_ok-found.ensures.explained read meanings k.0 are k.1)
    ∙ ap (λ n. explained_as_json g c.args.all n k.0) number
    ∙ sym (record_is g c.args.all s k.0 k.1))
