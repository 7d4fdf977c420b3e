use Rattle.kmin_explain.proofs.Common.{on_ok_weaker, tree_model_of, sources_model}
use Rattle.kmin_explain.proofs.SymbolTexts.{symbol_there}
use Rattle.kmin_explain.proofs.ReasonTexts.{explained_text}
use Rattle.kmin_explain.proofs.explanations.push_explained.Goals as goal

pub returns : goal.returns
returns c = λ read meanings are.
    let g = sources_model c.args.by.now read meanings in
    let m = tree_model_of c.args.by.now.config.now.system in
    let k = symbol_there g.tree.symbols c.args.s c.requires.there in
    on_ok_weaker c.push_details.result
    (explained_text g m.exprs c.args.all c.args.s k.0 c.in_ok-found.found c.in_ok-found.ensures.number (c.in_ok-found.ensures.explained read meanings k.0 are k.1) k.1
    c.args.out.now.items _ _ _ c.in_ok-push_first_line.ensures (c.in_ok-push_asked_lines.ensures read meanings are))
    c.push_details.ensures
