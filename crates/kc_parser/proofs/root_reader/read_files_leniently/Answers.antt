use Rattle.kc_tree_model.specs.TreeReading.{lenient_reading}
use Rattle.kc_parser.specs.checker.StateViews.{file_source_of}
use Rattle.kc_parser.proofs.RootSteps.{fault_of, read_of}
use Rattle.kc_parser.proofs.root_reader.read_files_leniently.Goals as goal

pub returns-clause-fault : goal.returns-clause-fault
unfolding lenient_reading file_source_of
returns-clause-fault c = fault_of _ c.read_all.result c.read_all.ensures

pub returns-clause-read : goal.returns-clause-read
unfolding lenient_reading file_source_of
returns-clause-read c = read_of _ c.read_all.result c.read_all.ensures
