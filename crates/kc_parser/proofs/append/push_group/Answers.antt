use Rattle.kc_parser.proofs.Common.{rules, ap, ◌∙◌, reverse, choices_opened}
use Rattle.kc_parser.specs.between.ListingView.{RepresentsListing}
use Rattle.kc_parser.proofs.AppendSteps.{lists_put_same, reverse_push}
use Rattle.kc_parser.proofs.append.push_group.Goals as goal

pub returns-clause-appends : goal.returns-clause-appends
unfolding RepresentsListing
returns-clause-appends c =
    λ before m s w n enclosed. lists_put_same _ _ _ _ _ _ _ before _ _ c.len-attributes.result c.args.head c.args.choice m (search rules) c.in-Ok.ensures.items s n w enclosed

pub returns-clause-choices : goal.returns-clause-choices
returns-clause-choices c = ap choices_opened (ap reverse c.in-Ok.ensures.items ∙ reverse_push c.args.listing.now.groups.items _)
