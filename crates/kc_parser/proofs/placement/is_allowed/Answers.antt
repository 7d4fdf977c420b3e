use Rattle.kc_parser.proofs.Common.{sym, ap, ◌∙◌, not, ◌==◌, count_by, list_any, is_allowed_here, entry_kept, is_choice, is_block}
use Rattle.kc_parser.specs.between.ListingView.{RepresentsListing}
use Rattle.kc_parser.specs.checker.StateViews.{Describes}
use Rattle.kc_parser.proofs.OpenBlockSteps.{choice_open, blocks_are}
use Rattle.kc_parser.proofs.PlaceSteps.{allowed_is, entry_is, entry_some, entry_none}
use Rattle.kc_parser.proofs.placement.is_allowed.Goals as goal

pub returns-in-OutsideChoices : goal.returns-in-OutsideChoices
unfolding Describes
returns-in-OutsideChoices c = λ r before d.
    ap not (c.in_choice.ensures ∙ ap (λ xs. list_any is_choice xs) c.deref.ensures.value ∙ choice_open r _ _ _ _ _ before d.counted)
    ∙ ap (λ p. is_allowed_here before p c.args.keyword) c.in-OutsideChoices.ensures ∙ sym (allowed_is c.args.keyword before)

pub returns-in-OutsideBlocks : goal.returns-in-OutsideBlocks
unfolding Describes
returns-in-OutsideBlocks c = λ r before d.
    ap (λ n. n == 0) (c.open_block_count.ensures ∙ ap (λ xs. count_by is_block xs) c.deref-in-OutsideBlocks.ensures.value
    ∙ blocks_are r _ _ _ _ _ before d.counted) ∙ ap (λ p. is_allowed_here before p c.args.keyword) c.in-OutsideBlocks.ensures
    ∙ sym (allowed_is c.args.keyword before)

pub returns-in-Some : goal.returns-in-Some
unfolding Describes RepresentsListing
returns-in-Some c = λ r before d.
    c.allows_attribute.ensures ∙ sym (entry_some before c.args.keyword c.in-Some.entry
    (entry_is _ _ _ _ _ _ before d.shows ∙ ap (λ o. o) (ap entry_kept (sym c.deref-in-InEntry.ensures.value) ∙ sym c.in-Some.ensures)))
    ∙ ap (λ p. is_allowed_here before p c.args.keyword) c.in-InEntry.ensures ∙ sym (allowed_is c.args.keyword before)

pub returns-in-None : goal.returns-in-None
unfolding Describes RepresentsListing
returns-in-None c = λ r before d.
    sym (entry_none before c.args.keyword (entry_is _ _ _ _ _ _ before d.shows
    ∙ ap (λ o. o) (ap entry_kept (sym c.deref-in-InEntry.ensures.value) ∙ sym c.in-None.ensures)))
    ∙ ap (λ p. is_allowed_here before p c.args.keyword) c.in-InEntry.ensures ∙ sym (allowed_is c.args.keyword before)
