use Rattle.kmin_explain_records.proofs.Common.{[], sym, ap, option_map, position_view, list_tokens, as_tokens, nothing_more, place_if}
use Rattle.kmin_explain_records.proofs.forcing_members.write_position_if.Goals as goal

pub returns-in-None : goal.returns-in-None
returns-in-None c =
    as_tokens _ _ [] _ (ap (λ at. list_tokens (place_if c.args.paths.now (option_map position_view at))) (sym c.in-None.is)) (nothing_more _)
