use Rattle.std.proofs.Common.{[], ◌∷◌, ◌++◌, map, refl, subst}
use Rattle.kc_macros.specs.Runs.{fault_of, notice_of}
use Rattle.kmin_report.specs.Reports.{macro_fault_line, macro_notice_line}
use Rattle.kmin_report.specs.StandardError.{TakesLines, none}
use Rattle.kmin_expansions.specs.between.ExpansionStops.{at_fault, for_memory}
use Rattle.kmin_report.proofs.WriterLemmas.{lines_append, lines_one}
use Rattle.kmin_report.proofs.Lists.{map_twice}
use Rattle.kmin_report.proofs.Results.{memory_err}
use Rattle.kmin_expansions.proofs.expanded_trees.expanded_tree.Goals as goal

pub returns-in_err-notices-clause-stopped : goal.returns-in_err-notices-clause-stopped
returns-in_err-notices-clause-stopped g c = memory_err _ _ c.from_residual.ensures (λ stop status. ([], for_memory status refl, none))

pub returns-in_err-texts-in-Ok-clause-stopped : goal.returns-in_err-texts-in-Ok-clause-stopped
returns-in_err-texts-in-Ok-clause-stopped g c =
    memory_err _ _ c.from_residual-in_err-texts-in-Ok.ensures (λ stop status. ([], for_memory status refl, none))

pub returns-in-Ok-clause-expanded : goal.returns-in-Ok-clause-expanded
returns-in-Ok-clause-expanded g c =
    let items = c.in_ok-notices.field-0.notices.items in
    let expanded = rw c.in-Ok.is at c.in_ok-notices.ensures.expanded in
    let reported = rw c.deref.ensures.value at c.report_macro_notices.ensures in (
      map notice_of items,
      expanded.0,
      subst (λ ls. TakesLines (g.E.Messages.taken c.args.err.now) (g.E.Messages.failures c.args.err.now) ls (g.E.Messages.taken c.report_macro_notices.new.err)
          (g.E.Messages.failures c.report_macro_notices.new.err)) (map_twice macro_notice_line notice_of items) reported,
    )

pub returns-clause-stopped : goal.returns-clause-stopped
returns-clause-stopped g c =
    let items = c.in_ok-notices.field-0.notices.items in
    let expanded = rw c.in-Err.is at c.in_ok-notices.ensures.expanded in
    let reported = rw c.deref-in-Err.ensures.value at c.report_macro_notices-in-Err.ensures in
    let lines = subst (λ ls. TakesLines (g.E.Messages.taken c.args.err.now) (g.E.Messages.failures c.args.err.now) ls
    (g.E.Messages.taken c.report_macro_notices-in-Err.new.err)
    (g.E.Messages.failures c.report_macro_notices-in-Err.new.err)) (map_twice macro_notice_line notice_of items) reported in (
      map macro_notice_line (map notice_of items) ++ macro_fault_line (fault_of c.in-Err.fault) ∷ [],
      at_fault (map notice_of items) (fault_of c.in-Err.fault) expanded refl refl,
      lines_append _ _ _ _ (map macro_notice_line (map notice_of items)) (macro_fault_line (fault_of c.in-Err.fault) ∷ []) _ _ lines
          (lines_one _ _ _ _ _ c.write_report.ensures),
    )
