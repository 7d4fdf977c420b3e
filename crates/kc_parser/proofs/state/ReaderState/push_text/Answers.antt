use Rattle.std.proofs.Common.{rules, [], ◌∷◌, length, ◌≡◌}
use Rattle.kc_parser.specs.between.ListingView.{RepresentsListing}
use Rattle.kc_parser.specs.checker.StateViews.{Describes}
use Rattle.kc_parser.proofs.ListingGrowth.{get_last}
use Rattle.kc_parser.proofs.AppendSteps.{lists_grown, counted_grown, grows_same}
use Rattle.kc_parser.proofs.state.ReaderState.push_text.Goals as goal

pub returns-clause-kept : goal.returns-clause-kept
returns-clause-kept c =
    let n : c.len-place.result ≡ length c.args.self.now.listing.texts.items = search rules in rw (c.in-Ok.ensures.items, n)
    (get_last c.args.self.now.listing.texts.items c.args.text)

pub returns-clause-describes : goal.returns-clause-describes
unfolding Describes RepresentsListing
returns-clause-describes c = λ r before d. record {
  shows = lists_grown _ _ _ _ _ (c.args.text ∷ []) _ _ _ before (grows_same c.args.self.now.listing.names.arena) c.in-Ok.ensures.items d.shows;
  counted = counted_grown r _ (c.args.text ∷ []) _ _ _ _ _ before c.in-Ok.ensures.items d.counted;
  enclosed = d.enclosed;
}
