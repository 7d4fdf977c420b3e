use Rattle.std.proofs.Common.{sym, ◌∙◌}
use Rattle.kmin_base_tests.proofs.SumRows.{row_at-is}
use Rattle.kmin_base_tests.proofs.tests.sums.SumsGraph.deps.Goals as goal

pub returns : goal.returns
returns c = record {
  value = c.as_slice.ensures.value
      ∙ (rw c.index.ensures (sym (row_at-is c.args.self.now.rows.items c.args.u c.index.result.now c.requires.there)));
}
