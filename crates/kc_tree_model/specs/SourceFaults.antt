-- The first fault of a `source`, for each reader of files.
use Rattle.std.specs.Prelude.{ℕ, Bool, not, ◌||◌, nat_le, nat_lt, Option, Some, None, if◌then◌else◌}
use Rattle.kc_value.specs.declared.limits.TheConstants.{MAX_FILES, MAX_TREE_BYTES, MAX_OPEN_FILES}
use Rattle.kc_tree_model.specs.declared.source_faults.SourceKinds.{SourceKinds}

-- the first fault of a `source`, where `files` files were read before its file, and `bytes` bytes are read with it
abbrev pub fault_of_source : {K : Type 0} → SourceKinds K → (is_open is_there : Bool) → (open_count files bytes : ℕ) → Option K
fault_of_source kinds is_open is_there open_count files bytes =
    if is_open then Some kinds.source_loop
    else if not is_there then Some kinds.missing_file
    else if nat_le MAX_OPEN_FILES open_count then Some kinds.too_deep
    else if nat_le MAX_FILES files || nat_lt MAX_TREE_BYTES bytes then Some kinds.too_many else None
