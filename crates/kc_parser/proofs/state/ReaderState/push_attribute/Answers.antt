use Rattle.kc_parser.proofs.Common.{sym, ◌∙◌, inr, arith, common_steps, attribute_in}
use Rattle.kc_parser.specs.between.ListingView.{RepresentsListing}
use Rattle.kc_parser.specs.checker.StateViews.{Describes}
use Rattle.kc_parser.proofs.AppendSteps.{lists_attribute, counted_attribute}
use Rattle.kc_parser.proofs.ReaderSteps.{shown_of}
use Rattle.kc_parser.proofs.StatementSteps.{attribute_long, attribute_fits}
use Rattle.kc_parser.proofs.state.ReaderState.push_attribute.Goals as goal

pub returns-then-has_long_name : goal.returns-then-has_long_name
returns-then-has_long_name c =
    record {
      appends = λ r before d. inr (
        attribute_long before (attribute_in c.args.self.now.listing.names.arena c.args.attribute.now)
            (sym c.has_long_name.ensures.value ∙ c.if-has_long_name.true),
        shown_of r _ before d,
      );
    }

pub returns : goal.returns
unfolding Describes RepresentsListing
returns c = record {
  appends = λ r before d. (
    attribute_fits before (attribute_in c.args.self.now.listing.names.arena c.args.attribute.now)
        (sym c.has_long_name.ensures.value ∙ c.if-has_long_name.false),
    record {
      shows = lists_attribute _ _ _ _ _ _ _ before (record { number = c.args.line; attribute = c.args.attribute.now }) c.in-Ok.ensures.items c.requires.held
          d.shows;
      counted = counted_attribute r _ _ _ _ _ before c.args.line (attribute_in c.args.self.now.listing.names.arena c.args.attribute.now) d.counted;
      enclosed = d.enclosed;
    },
  );
}

pub returns-in_default : goal.returns-in_default
returns-in_default c = grind (arith, common_steps)
