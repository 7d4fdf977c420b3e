-- The result of reading the first file.
use Rattle.std.specs.Prelude.{◌≡◌, ◌⊎◌, [], Option, Some}
use Rattle.kc_tree_model.specs.declared.fault.TreeFault.{TreeFault}
use Rattle.kc_tree_model.specs.Limits.{FileSource}
use Rattle.kc_value.specs.declared.limits.TheConstants.{MAX_OPEN_FILES}
use Rattle.kc_tree_model.specs.TreeReading.{Outcome, read_file}
use Rattle.kc_parser.specs.declared.listing.Listing.{Listing}
use Rattle.kc_parser.specs.between.ListingView.{RepresentsListing}
use Rattle.kc_parser.specs.between.MemoryFaults.{no_memory}

-- the result of a reading by the code, given the outcome in the model: a listing of all that was read and the first fault, if
-- any; or out of memory
abbrev pub ReturnsOutcome : Outcome → Listing × Option TreeFault → Type 0
ReturnsOutcome o result = (result.1 ≡ Some no_memory) ⊎ ((result.1 ≡ o.fault) × RepresentsListing result.0 o.read)

-- the outcome of reading the first file and all files that it sources
unfoldable pub of_first : FileSource → Outcome
of_first r = read_file MAX_OPEN_FILES r r.root []
