use Rattle.kc_rules.proofs.Common.{ap, arith, elements, is_tri_kind}
use Rattle.kc_rules.proofs.Blanks.{blank_tri, blank_text, blank_member}
use Rattle.kc_rules.proofs.systems.SettledSystem.blank.Goals as goal

pub returns-in-Bool : goal.returns-in-Bool
returns-in-Bool c = record {
  ok = blank_tri c.args.self.now.rules.tree.tree c.args.u c.in-Symbol.s _ c.in-Symbol.ensures.unit c.symbol.ensures.symbol
      (ap is_tri_kind c.in-Bool.is);
}

pub returns-in-Tristate : goal.returns-in-Tristate
returns-in-Tristate c = record {
  ok = blank_tri c.args.self.now.rules.tree.tree c.args.u c.in-Symbol.s _ c.in-Symbol.ensures.unit c.symbol.ensures.symbol
      (ap is_tri_kind c.in-Tristate.is);
}

pub returns-in_ok-copied-in-Text : goal.returns-in_ok-copied-in-Text
returns-in_ok-copied-in-Text c = record {
  ok = rw c.in_ok-copied-in-Text.ensures (blank_text c.args.self.now.rules.tree.tree c.args.u c.in-Symbol.s _ c.in-Symbol.ensures.unit c.symbol.ensures.symbol
      (ap is_tri_kind c.in-Text.is));
}

pub returns-in_ok-copied-in-Int : goal.returns-in_ok-copied-in-Int
returns-in_ok-copied-in-Int c = record {
  ok = rw c.in_ok-copied-in-Int.ensures (blank_text c.args.self.now.rules.tree.tree c.args.u c.in-Symbol.s _ c.in-Symbol.ensures.unit c.symbol.ensures.symbol
      (ap is_tri_kind c.in-Int.is));
}

pub returns-in_ok-copied-in-Hex : goal.returns-in_ok-copied-in-Hex
returns-in_ok-copied-in-Hex c = record {
  ok = rw c.in_ok-copied-in-Hex.ensures (blank_text c.args.self.now.rules.tree.tree c.args.u c.in-Symbol.s _ c.in-Symbol.ensures.unit c.symbol.ensures.symbol
      (ap is_tri_kind c.in-Hex.is));
}

pub returns-in-Choice : goal.returns-in-Choice
returns-in-Choice c = record { ok = blank_member c.args.self.now.rules.tree.tree c.args.u _ c.in-Choice.ensures.unit }

pub symbol-requires : goal.symbol-requires
symbol-requires c = record { there = grind (arith, elements) }
