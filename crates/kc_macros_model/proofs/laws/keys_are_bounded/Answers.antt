use Rattle.kc_macros_model.proofs.BoundedReadings.{keys_are_bounded, keys_differ}
use Rattle.kc_macros_model.proofs.SourceKeys.{source_keys_have_files}
use Rattle.kc_macros_model.proofs.laws.keys_are_bounded.Goals as goal

pub returns : goal.returns
returns c = record { paths = keys_are_bounded; differ = keys_differ; keys = source_keys_have_files }
