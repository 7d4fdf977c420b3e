use Rattle.kc_parser.proofs.Common.{◌≡◌, ◌∙◌, ap, sym, with_group, names_defined, choice_kept, innermost_choice, at_line}
use Rattle.kc_parser.specs.between.ListingView.{RepresentsListing}
use Rattle.kc_parser.specs.checker.StateViews.{Describes, open_choices, open_choices_after}
use Rattle.kc_parser.proofs.AppendSteps.{counted_inside, on_both}
use Rattle.kc_parser.proofs.ChoiceSteps.{enclosing_is, opens_none}
use Rattle.kc_parser.proofs.state.ReaderState.push_plain.Goals as goal

pub returns-clause-appends : goal.returns-clause-appends
unfolding Describes
returns-clause-appends c = λ r before m d w s n.
    let l = c.args.self.now.listing in
    let os = open_choices l in
    let around : c.enclosing_choice-choice.result ≡ innermost_choice os = c.enclosing_choice-choice.ensures
    ∙ ap choice_kept c.deref.ensures.value ∙ enclosing_is c.args.self.now.stack.items os d.enclosed in
    on_both c.push_group.result (RepresentsListing c.push_group.new.listing (with_group (at_line c.args.at.file c.args.at.line) m before))
    (open_choices c.push_group.new.listing ≡ open_choices_after c.args.head l) _
    (λ h k. record {
      shows = h;
      counted = rw c.push_group.ensures.texts (counted_inside r _ _ _ _ _ before c.args.at.file c.args.at.line m d.counted s);
      enclosed = d.enclosed ∙ sym (k ∙ opens_none l.names.arena (names_defined before) l.texts.items _ os c.args.head m w s);
    })
    (c.push_group.ensures.appends before m d.shows w n around) c.push_group.ensures.choices
