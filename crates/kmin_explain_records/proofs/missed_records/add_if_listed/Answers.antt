use Rattle.std.proofs.Common.{cond, ◌++◌, ◌∷◌, [], sym, ◌∙◌, ap}
use Rattle.kmin_explain_records.proofs.ListedSymbols.{one_more_there}
use Rattle.kmin_explain_records.proofs.missed_records.add_if_listed.Goals as goal

pub returns-in_ok-push : goal.returns-in_ok-push
returns-in_ok-push c =
    let old = c.args.listed.now.items in
    record {
      added = λ read meanings are. c.in_ok-push.ensures.items
          ∙ ap (λ b. cond b (old ++ c.args.s ∷ []) old) (sym c.if-branch.true ∙ c.in_ok-is_listed.ensures read meanings are);
      there = one_more_there _ c.args.s old _ c.requires.there c.requires.before c.in_ok-push.ensures.items;
    }

pub returns-else-branch : goal.returns-else-branch
returns-else-branch c =
    let old = c.args.listed.now.items in
    record {
      added = λ read meanings are. ap (λ b. cond b (old ++ c.args.s ∷ []) old) (sym c.if-branch.false ∙ c.in_ok-is_listed.ensures read meanings are);
      there = c.requires.before;
    }
