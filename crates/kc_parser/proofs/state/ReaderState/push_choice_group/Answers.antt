use Rattle.kc_parser.proofs.Common.{◌≡◌, ◌∙◌, ap, sym, refl, length, reverse, filter, Some, with_group, of_head, choice, names_defined, begins_choice, choice_kept, innermost_choice, at_line}
use Rattle.kc_parser.specs.declared.listing.GroupHead.TheVariants as codes
use Rattle.kc_parser.specs.between.ListingView.{RepresentsListing}
use Rattle.kc_parser.specs.checker.StateViews.{Describes, open_choices, open_choices_after}
use Rattle.kc_parser.proofs.AppendSteps.{counted_choice, on_both}
use Rattle.kc_parser.proofs.ChoiceSteps.{as_many_choices, enclosing_is, opened_choices}
use Rattle.kc_parser.proofs.state.ReaderState.push_choice_group.Goals as goal

pub returns-clause-appends : goal.returns-clause-appends
unfolding Describes RepresentsListing
returns-clause-appends c = λ r before d.
    let l = c.args.self.now.listing in
    let os = open_choices l in
    let around : c.enclosing_choice-choice.result ≡ innermost_choice os = c.enclosing_choice-choice.ensures
    ∙ ap choice_kept c.deref.ensures.value ∙ enclosing_is c.args.self.now.stack.items os d.enclosed in
    let own : c.args.self.now.choices ≡ length (filter begins_choice (reverse l.groups.items)) = d.counted.choices_are
    ∙ sym (as_many_choices l.names.arena (names_defined before) l.texts.items l.lines.items (length l.lines.items) (reverse l.groups.items) before
    d.shows.groups_are) in
    on_both c.push_group.result (RepresentsListing c.push_group.new.listing (with_group (at_line c.args.at.file c.args.at.line) (of_head choice) before))
    (open_choices c.push_group.new.listing ≡ open_choices_after codes.Choice l) _
    (λ h k. record {
      shows = h;
      counted = rw c.push_group.ensures.texts (counted_choice r _ _ _ _ _ before c.args.at.file c.args.at.line (of_head choice) d.counted
          (Some c.args.self.now.choices) c.push.new.self.items _ refl c.in-Ok.ensures.items refl);
      enclosed = opened_choices c.args.self.now.stack.items c.push.new.self.items _ (Some (length (filter begins_choice (reverse l.groups.items)))) os
          c.in-Ok.ensures.items (ap Some own) d.enclosed
          ∙ sym k;
    })
    (c.push_group.ensures.appends before (of_head choice) d.shows refl refl around) c.push_group.ensures.choices
