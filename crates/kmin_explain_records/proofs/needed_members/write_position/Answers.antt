use Rattle.kmin_explain_records.proofs.Common.{ℕ, List, [], ap, ◌∙◌, place_members, list_tokens, as_last}
use Rattle.std.specs.Prelude.{slice_index_or}
use Rattle.kmin_explain_records.proofs.needed_members.write_position.Goals as goal

pub returns : goal.returns
returns c =
    as_last c.write_place.result _ _ _ _
    (ap (λ (path : List ℕ). list_tokens (place_members path c.from.result)) c.path_of.ensures
    ∙ ap (λ (line : ℕ). list_tokens (place_members (slice_index_or c.args.paths.now c.args.at.file []) line)) c.from.ensures)
    c.write_place.ensures
