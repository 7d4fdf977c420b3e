use Rattle.kc_checks.proofs.Common.{Ok, map, string_bytes, wanted_related}
use Rattle.std.proofs.lemmas.Result.{IfOk-weaker, IfErr-weaker}
use Rattle.kc_checks.proofs.ReadSteps.{wanted_or_memory}
use Rattle.kc_checks.proofs.missing_files.wanted.Goals as goal

pub missing_paths-requires-clause-fault : goal.missing_paths-requires-clause-fault
missing_paths-requires-clause-fault c = c.read_files_leniently-read.ensures.fault

pub missing_paths-requires-clause-read : goal.missing_paths-requires-clause-read
missing_paths-requires-clause-read c = c.read_files_leniently-read.ensures.read

pub returns-clause-paths : goal.returns-clause-paths
returns-clause-paths c =
    IfOk-weaker c.missing_paths.result _ _ (λ paths h. (wanted_related c.args.texts.now c.args.root.now (Ok (map string_bytes paths.items))).0 h)
    c.missing_paths.ensures.paths

pub returns-clause-fault : goal.returns-clause-fault
returns-clause-fault c = IfErr-weaker c.missing_paths.result _ _ (λ f h. wanted_or_memory c.args.texts.now c.args.root.now f h) c.missing_paths.ensures.fault
