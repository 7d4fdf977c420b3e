use Rattle.kc_parser.proofs.Common.{sym, ap, ◌∙◌, inr, refl, count_by, arith, common_steps, nat_le, of_head, menu, is_block}
use Rattle.kc_parser.specs.checker.StateViews.{Describes}
use Rattle.kc_parser.proofs.OpenBlockSteps.{blocks_are}
use Rattle.kc_parser.proofs.HeadSteps.{head_pushed, menu_deep, menu_fits}
use Rattle.kc_parser.proofs.state.ReaderState.push_menu.Goals as goal

pub returns-then-is_at_block_limit : goal.returns-then-is_at_block_limit
unfolding Describes
returns-then-is_at_block_limit c =
    λ r before d. inr (
      menu_deep before c.args.title (sym (ap (nat_le 64) (blocks_are r _ _ _ _ _ before d.counted))
          ∙ ap (λ xs. nat_le 64 (count_by is_block xs)) (sym c.deref.ensures.value) ∙ sym c.is_at_block_limit.ensures ∙ c.if-is_at_block_limit.true),
      d.shows,
    )

pub returns : goal.returns
unfolding Describes
returns c = λ r before d.
    head_pushed r c.args.at.file c.args.at.line before (menu c.args.title) _ c.push_block.result
    (menu_fits before c.args.title (sym (ap (nat_le 64) (blocks_are r _ _ _ _ _ before d.counted))
    ∙ ap (λ xs. nat_le 64 (count_by is_block xs)) (sym c.deref.ensures.value) ∙ sym c.is_at_block_limit.ensures ∙ c.if-is_at_block_limit.false))
    (c.push_block.ensures.appends r before (of_head (menu c.args.title)) (c.in-Ok.ensures.describes r before d) (c.args.title, c.in-Ok.ensures.kept, refl) refl
    refl)
    c.push_block.ensures.memory

pub returns-in_default : goal.returns-in_default
returns-in_default c = grind (arith, common_steps)
