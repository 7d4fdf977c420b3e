use Rattle.kc_configuration_tests.proofs.tests.tree_sessions.report_of.Goals as goal

pub apply-report-requires : goal.apply-report-requires
apply-report-requires c = record { fits = rw (c.as_slice.ensures, c.in_ok-session.ensures.system) (c.fit_tree.ensures c.if-not-fit_tree.false) }
