use Rattle.kc_parser.proofs.Common.{sym, ap, ◌∙◌, not, subst, innermost, is_stray_block, block_kept}
use Rattle.kc_parser.specs.checker.StateViews.{Describes}
use Rattle.kc_parser.proofs.OpenBlockSteps.{IsInnermost, innermost_is}
use Rattle.kc_parser.proofs.PlaceSteps.{stray_is, stray_none, stray_some}
use Rattle.kc_parser.proofs.placement.is_stray.Goals as goal

pub returns-in-Some-innermost : goal.returns-in-Some-innermost
unfolding Describes
returns-in-Some-innermost c = λ r before d.
    ap not c.same_block.ensures
    ∙ sym (stray_some before c.in-Some.block c.in-Some-innermost.open_block c.in-Some-innermost.field-0-1
    (subst (λ o. IsInnermost o (innermost before)) (ap block_kept (sym c.deref.ensures.value) ∙ sym c.innermost.ensures ∙ c.in-Some-innermost.is)
    (innermost_is r _ _ _ _ _ before d.counted)))
    ∙ ap (λ b. is_stray_block before b) c.in-Some.ensures ∙ sym (stray_is c.args.keyword before)

pub returns-in-None : goal.returns-in-None
unfolding Describes
returns-in-None c = λ r before d.
    sym (stray_none before c.in-Some.block (subst (λ o. IsInnermost o (innermost before))
    (ap block_kept (sym c.deref.ensures.value) ∙ sym c.innermost.ensures ∙ c.in-None.is) (innermost_is r _ _ _ _ _ before d.counted)))
    ∙ ap (λ b. is_stray_block before b) c.in-Some.ensures ∙ sym (stray_is c.args.keyword before)
