use Rattle.kc_parser.proofs.RootSteps.{nothing_shown}
use Rattle.kc_parser.proofs.listing.Listing.new.Goals as goal

pub returns : goal.returns
returns c = nothing_shown _ c.with_seed.ensures.names c.new.ensures.items c.new-2.ensures.items c.new-5.ensures.items c.new-4.ensures.items
