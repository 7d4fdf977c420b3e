use Rattle.kc_rules.proofs.Common.{sym, arith, symbol_view}
use Rattle.kc_rules.proofs.UserFits.{no_member, member_of_none, member_of}
use Rattle.kc_rules.proofs.shapes.is_member.Goals as goal

pub returns-then-number-symbol_count : goal.returns-then-number-symbol_count
returns-then-number-symbol_count c = record { value = sym (no_member c.args.tree.now.tree c.requires.consistent c.args.c c.args.s (λ inside. absurd (omega arith))) }

pub returns-in-None : goal.returns-in-None
returns-in-None c = record {
  value = member_of_none c.args.tree.now.tree c.requires.consistent c.args.c c.args.s (symbol_view c.args.tree.now.exprs c.symbol.result) c.symbol.ensures.symbol c.in-None.is;
}

pub returns-in-Some : goal.returns-in-Some
returns-in-Some c = record {
  value = member_of c.args.tree.now.tree c.requires.consistent c.args.c c.args.s c.in-Some.choice (symbol_view c.args.tree.now.exprs c.symbol.result)
      c.symbol.ensures.symbol c.in-Some.is;
}
