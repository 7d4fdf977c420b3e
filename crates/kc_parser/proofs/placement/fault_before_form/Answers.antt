use Rattle.kc_parser.proofs.Common.{sym, ap, ◌∙◌, lexemes_of, entry_kept}
use Rattle.kc_tree_model.specs.Placement.{is_choice_open}
use Rattle.kc_parser.specs.between.ListingView.{RepresentsListing}
use Rattle.kc_parser.specs.checker.StateViews.{Describes}
use Rattle.kc_parser.proofs.PlaceSteps.{entry_is, reported_left_out, reported_misplaced, reported_stray, reported_none}
use Rattle.kc_parser.proofs.placement.fault_before_form.Goals as goal

pub returns-then-is_left_out : goal.returns-then-is_left_out
unfolding Describes RepresentsListing
returns-then-is_left_out c =
    λ r before d. sym (reported_left_out c.args.language before c.args.keyword (lexemes_of c.args.tokens.now)
    (sym (c.is_left_out.ensures before (ap is_choice_open (entry_is _ _ _ _ _ _ before d.shows ∙ ap (λ gs. (entry_kept gs)) (sym c.deref.ensures.value)
    ∙ ap (λ o. o) (sym c.open_entry-entry.ensures)) ∙ sym c.is_choice.ensures)) ∙ c.if-is_left_out.true))

pub returns-then-not-is_allowed : goal.returns-then-not-is_allowed
unfolding Describes RepresentsListing
returns-then-not-is_allowed c =
    λ r before d. sym (reported_misplaced c.args.language before c.args.keyword (lexemes_of c.args.tokens.now)
    (sym (c.is_left_out.ensures before (ap is_choice_open (entry_is _ _ _ _ _ _ before d.shows ∙ ap (λ gs. (entry_kept gs)) (sym c.deref.ensures.value)
    ∙ ap (λ o. o) (sym c.open_entry-entry.ensures)) ∙ sym c.is_choice.ensures)) ∙ c.if-is_left_out.false)
    (sym (c.is_allowed.ensures r before d) ∙ c.if-not-is_allowed.true))

pub returns-then-is_stray : goal.returns-then-is_stray
unfolding Describes RepresentsListing
returns-then-is_stray c =
    λ r before d. sym (reported_stray c.args.language before c.args.keyword (lexemes_of c.args.tokens.now)
    (sym (c.is_left_out.ensures before (ap is_choice_open (entry_is _ _ _ _ _ _ before d.shows ∙ ap (λ gs. (entry_kept gs)) (sym c.deref.ensures.value)
    ∙ ap (λ o. o) (sym c.open_entry-entry.ensures)) ∙ sym c.is_choice.ensures)) ∙ c.if-is_left_out.false)
    (sym (c.is_allowed.ensures r before d) ∙ c.if-not-is_allowed.false) (sym (c.is_stray.ensures r before d) ∙ c.if-is_stray.true))

pub returns : goal.returns
unfolding Describes RepresentsListing
returns c =
    λ r before d. sym (reported_none c.args.language before c.args.keyword (lexemes_of c.args.tokens.now)
    (sym (c.is_left_out.ensures before (ap is_choice_open (entry_is _ _ _ _ _ _ before d.shows ∙ ap (λ gs. (entry_kept gs)) (sym c.deref.ensures.value)
    ∙ ap (λ o. o) (sym c.open_entry-entry.ensures)) ∙ sym c.is_choice.ensures)) ∙ c.if-is_left_out.false)
    (sym (c.is_allowed.ensures r before d) ∙ c.if-not-is_allowed.false) (sym (c.is_stray.ensures r before d) ∙ c.if-is_stray.false))
