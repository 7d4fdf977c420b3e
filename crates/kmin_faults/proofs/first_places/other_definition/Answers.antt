use Rattle.kmin_faults.proofs.Common.{◌∙◌, ap, option_map, reading, position_of}
use Rattle.kmin_faults.proofs.FirstPlaces.{other_definition_is}
use Rattle.kmin_faults.proofs.first_places.other_definition.Goals as goal

pub returns : goal.returns
returns c =
    ap (option_map position_of) c.other_definition_in.ensures
    ∙ other_definition_is c.in_ok-listing.listing (reading c.args.texts.now c.args.first.now).read c.in_ok-listing.ensures c.args.at
