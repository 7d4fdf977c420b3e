use Rattle.std.proofs.Common.{ℕ, ◌<◌, All, sym, subst, ◌∙◌}
use Rattle.kmin_explain.proofs.MarkedSymbols.{marks_are}
use Rattle.kmin_explain.proofs.each_once.SymbolsOnce.of.Goals as goal

pub add_all-requires-clause-there : goal.add_all-requires-clause-there
add_all-requires-clause-there c = subst (λ (n : ℕ). All (λ (s : ℕ). s < n) c.args.symbols.now) (sym c.in_ok-once.ensures.many) c.requires.there

pub returns-clause-marks : goal.returns-clause-marks
returns-clause-marks c = λ s below.
    marks_are _ _ c.args.symbols.now c.args.count s c.in_ok-add_all.ensures.marks (c.in_ok-add_all.ensures.many ∙ c.in_ok-once.ensures.many) c.in_ok-add_all.ensures.found
    c.in_ok-once.ensures.none below
