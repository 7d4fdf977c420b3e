use Rattle.std.proofs.Common.{arith, rules}
use Rattle.kc_parser.proofs.NameLemmas.{named_more}
use Rattle.kc_parser.proofs.SymbolSteps.{same_names}
use Rattle.kc_parser.proofs.listing.SymbolTable.define.Goals as goal

pub returns-clause-named : goal.returns-clause-named
returns-clause-named c = λ name names h p n.
    let f = h.few in
    let m = c.name_count.ensures in
    rw (c.in-Ok-push.ensures.items, c.index.ensures)
    (named_more c.args.self.now.arena c.args.self.now.arena c.args.self.now.symbols.items c.args.self.now.numbers.items c.pad_with_zeros.new.numbers.items names
    name c.args.id c.len-number.result
    (same_names c.args.self.now.arena) p
    (let w = c.requires.held in let k = c.in-Ok.ensures.many in omega arith)
    (let k = c.in-Ok.ensures.few (omega arith) in omega arith)
    c.in-Ok.ensures.same
    (search rules) h n)

pub returns-in_default-clause-named : goal.returns-in_default-clause-named
returns-in_default-clause-named c = omega arith

pub returns-in_default-push-clause-named : goal.returns-in_default-push-clause-named
returns-in_default-push-clause-named c = omega arith

pub returns-clause-number : goal.returns-clause-number
returns-clause-number c = omega arith
