use Rattle.std.proofs.Common.{inl, inr, length, sym, subst, arith}
use Rattle.std.proofs.lemmas.Bool.{cases_eq}
use Rattle.kmin_base_tests.specs.Sums.{row_at, IsRow}
use Rattle.kmin_base_tests.proofs.SumRows.{row_is}
use Rattle.kmin_base_tests.proofs.tests.sums.is_graph.Goals as goal

pub loop-row-preserved : goal.loop-row-preserved
loop-row-preserved c =
    let rows = c.args.rows.now in
    let i = c.loop-row.row-index in
    let is = row_is rows c.as_slice.result.now c.row-item.result i c.loop-row-test.true c.row-item.is c.as_slice.ensures.value in
    record {
      within = omega arith;
      each = λ u h. elim (cases_eq u i) [
        | inl same ↦ subst (λ n. IsRow (length rows) (row_at rows n)) (sym same) (rw is at (c.is_row.ensures c.if-not-is_row.false))
        | inr other ↦ c.loop-row.invariant.each u (omega arith)
      ];
    }

pub returns-clause-graph : goal.returns-clause-graph
returns-clause-graph c = λ holds. record {
  ascending = λ u h. (c.loop-row.invariant.each u (omega (arith, c.loop-row-test.false))).ascending;
  units = λ u d h has. (c.loop-row.invariant.each u (omega (arith, c.loop-row-test.false))).units d has;
}
