use Rattle.std.proofs.Common.{rules}
use Rattle.kc_tokens.proofs.CutLaws.{cut_of_call, fault_of_call}
use Rattle.kc_tokens.proofs.token.tokens.Goals as goal

pub returns : goal.returns
returns c = record {
  ok = cut_of_call c.args.language c.args.line.now c.new-found.result.items _ c.new-found.ensures.items c.in_ok-push_tokens.ensures.tokens;
  fault = tt;
}

pub returns-in_err-push_tokens-clause-fault : goal.returns-in_err-push_tokens-clause-fault
returns-in_err-push_tokens-clause-fault c = let fault = fault_of_call c.args.language c.args.line.now _ c.in_err-push_tokens.ensures.fault in
    search (rules, fault)
