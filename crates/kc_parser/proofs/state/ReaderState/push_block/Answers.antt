use Rattle.kc_parser.proofs.Common.{◌≡◌, ◌∙◌, ap, sym, arith, with_group, names_defined, choice_kept, innermost_choice, at_line}
use Rattle.kc_parser.specs.between.ListingView.{RepresentsListing}
use Rattle.kc_parser.specs.checker.StateViews.{Describes, open_choices, open_choices_after}
use Rattle.kc_parser.proofs.AppendSteps.{counted_block, block_name, on_both}
use Rattle.kc_parser.proofs.ChoiceSteps.{enclosing_is, opened_choices, opens_block}
use Rattle.kc_parser.proofs.state.ReaderState.push_block.Goals as goal

pub returns-clause-appends : goal.returns-clause-appends
unfolding Describes
returns-clause-appends c = λ r before m d w b n.
    let l = c.args.self.now.listing in
    let os = open_choices l in
    let around : c.enclosing_choice-choice.result ≡ innermost_choice os = c.enclosing_choice-choice.ensures
    ∙ ap choice_kept c.deref.ensures.value ∙ enclosing_is c.args.self.now.stack.items os d.enclosed in
    on_both c.push_group.result (RepresentsListing c.push_group.new.listing (with_group (at_line c.args.at.file c.args.at.line) m before))
    (open_choices c.push_group.new.listing ≡ open_choices_after c.args.head l) _
    (λ h k. record {
      shows = h;
      counted = rw c.push_group.ensures.texts (counted_block r _ _ _ _ _ before c.args.at.file c.args.at.line m d.counted c.args.block
          c.enclosing_choice-choice.result c.push.new.self.items c.in-Ok.ensures.items b n);
      enclosed = opened_choices c.args.self.now.stack.items c.push.new.self.items _ (innermost_choice os) os c.in-Ok.ensures.items around d.enclosed
          ∙ sym (k ∙ opens_block l.names.arena (names_defined before) l.texts.items _ os c.args.head m c.args.block w b n);
    })
    (c.push_group.ensures.appends before m d.shows w (block_name m c.args.block b) around) c.push_group.ensures.choices

pub returns-in_default-clause-appends : goal.returns-in_default-clause-appends
returns-in_default-clause-appends c = omega arith
