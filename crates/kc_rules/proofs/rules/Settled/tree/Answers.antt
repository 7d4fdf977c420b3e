use Rattle.kc_rules.proofs.rules.Settled.tree.Goals as goal

pub returns-clause-settled : goal.returns-clause-settled
returns-clause-settled c = record { consistent = c.arena.ensures.consistent; acyclic = c.args.self.now.acyclic }
