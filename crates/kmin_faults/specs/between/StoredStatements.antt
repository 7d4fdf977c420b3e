-- Statements as a listing stores them.
use Rattle.std.specs.Prelude.{Bool, true, false}
use Rattle.kc_parser.specs.declared.listing.GroupHead.{GroupHead}
use Rattle.kc_parser.specs.declared.listing.GroupHead.TheVariants.{Source}

-- whether the head of a statement is a `source`
abbrev pub is_source_head : GroupHead → Bool
is_source_head (Source path) = true
is_source_head head = false
