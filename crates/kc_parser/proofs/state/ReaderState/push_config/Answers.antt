use Rattle.kc_parser.proofs.Common.{refl, inl, inr, sym, ap, ◌∙◌, Some, rules, length, arith, common_steps, of_head, config, names_defined, reverse, choice_kept, choices_opened}
use Rattle.kc_parser.specs.between.ListingView.{RepresentsListing}
use Rattle.kc_parser.specs.checker.StateViews.{Describes}
use Rattle.kc_parser.proofs.HeadSteps.{config_long, config_full, config_fits, name_long, name_short}
use Rattle.kc_parser.proofs.AppendSteps.{lists_names, lists_put_config, counted_inside, reverse_push}
use Rattle.kc_parser.proofs.ChoiceSteps.{enclosing_is}
use Rattle.kc_parser.proofs.state.ReaderState.push_config.Goals as goal

pub returns-then-name-gt-MAX_NAME_BYTES : goal.returns-then-name-gt-MAX_NAME_BYTES
unfolding Describes
returns-then-name-gt-MAX_NAME_BYTES c =
    λ r before d. inr (config_long before c.args.name.now (name_long c.args.name.now (length c.args.name.now) refl c.if-name-gt-MAX_NAME_BYTES.true), d.shows)

pub returns-in-Err : goal.returns-in-Err
unfolding Describes RepresentsListing
returns-in-Err c = λ r before d.
    elim (c.in-Err.ensures.returned (names_defined before) d.shows.names) [
      | inl m ↦ inl m
      | inr e ↦ inr (
        config_full before c.args.name.now (name_short c.args.name.now (length c.args.name.now) refl c.if-name-gt-MAX_NAME_BYTES.false) e.1 ∙ ap Some (sym e.0),
        lists_names _ _ _ _ _ _ _ _ _ before c.in-Err.ensures.grows e.2 d.shows,
      )
    ]

pub returns : goal.returns
unfolding Describes RepresentsListing
returns c = λ r before d.
    let t = c.in-Ok.ensures.returned (names_defined before) d.shows.names in (
      config_fits before c.args.name.now (name_short c.args.name.now (length c.args.name.now) refl c.if-name-gt-MAX_NAME_BYTES.false) t.0,
      record {
        shows = lists_put_config _ _ _ _ _ _ _ _ _ _ before c.args.at.file c.args.at.line c.len-attributes.result c.in-Ok.number
            c.enclosing_choice-choice.result c.args.name.now c.in-Ok.ensures.grows
            (search rules) c.in-Ok-push.ensures.items d.shows t.1 t.2
            (c.enclosing_choice-choice.ensures ∙ ap choice_kept c.deref.ensures.value ∙ enclosing_is c.args.self.now.stack.items _ d.enclosed);
        counted = counted_inside r _ _ _ _ _ before c.args.at.file c.args.at.line (of_head (config c.args.name.now)) d.counted refl;
        enclosed = d.enclosed ∙ sym (ap choices_opened (ap reverse c.in-Ok-push.ensures.items ∙ reverse_push c.args.self.now.listing.groups.items _));
      },
    )

pub returns-in_default : goal.returns-in_default
returns-in_default c = grind (arith, common_steps)
