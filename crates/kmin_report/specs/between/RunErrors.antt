-- The exit statuses of errors that end a run.
use Rattle.std.specs.Prelude.{ℕ}
use Rattle.kmin_report.specs.declared.run_error.RunError.{RunError}
use Rattle.kmin_report.specs.declared.run_error.RunError.TheVariants.{Tree, Configuration, Failed, Memory}

-- the exit status of a run that ends with this error: 3 tree refused, 4 configuration file or answer file refused, or input too
-- large, 5 a read or write failed, 6 out of memory
abbrev pub status_of : RunError → ℕ
status_of Tree = 3
status_of Configuration = 4
status_of Failed = 5
status_of Memory = 6
