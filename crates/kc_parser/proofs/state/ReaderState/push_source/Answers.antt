use Rattle.kc_parser.proofs.Common.{◌≡◌, ◌∙◌, sym, refl, ap, ◌+◌, arith, with_group, of_head, source, choice_kept, innermost_choice, at_line}
use Rattle.kc_parser.specs.declared.listing.GroupHead.TheVariants as codes
use Rattle.kc_parser.specs.between.ListingView.{RepresentsListing}
use Rattle.kc_parser.specs.checker.StateViews.{Describes, open_choices, open_choices_after}
use Rattle.kc_parser.proofs.AppendSteps.{counted_source, on_both}
use Rattle.kc_parser.proofs.ChoiceSteps.{enclosing_is, opened_choices}
use Rattle.kc_parser.proofs.state.ReaderState.push_source.Goals as goal

pub returns-clause-appends : goal.returns-clause-appends
unfolding Describes
returns-clause-appends c = λ r before path d t z.
    let l = c.args.self.now.listing in
    let os = open_choices l in
    let around : c.enclosing_choice-choice.result ≡ innermost_choice os = c.enclosing_choice-choice.ensures
    ∙ ap choice_kept c.deref.ensures.value ∙ enclosing_is c.args.self.now.stack.items os d.enclosed in
    on_both c.push_group.result (RepresentsListing c.push_group.new.listing (with_group (at_line c.args.at.file c.args.at.line) (of_head (source path)) before))
    (open_choices c.push_group.new.listing ≡ open_choices_after (codes.Source c.args.place) l) _
    (λ h k. record {
      shows = h;
      counted = rw c.push_group.ensures.texts (counted_source r _ _ _ _ _ before c.args.at.file c.args.at.line (of_head (source path))
          d.counted c.args.place path c.enclosing_choice-choice.result c.push.new.self.items _ _ refl t c.in-Ok.ensures.items refl
          (ap (λ n. c.args.self.now.bytes + n) z));
      enclosed = opened_choices c.args.self.now.stack.items c.push.new.self.items _ (innermost_choice os) os c.in-Ok.ensures.items around d.enclosed
          ∙ sym k;
    })
    (c.push_group.ensures.appends before (of_head (source path)) d.shows (path, t, refl) refl around) c.push_group.ensures.choices

pub returns-in_default-clause-appends : goal.returns-in_default-clause-appends
returns-in_default-clause-appends c = omega arith
