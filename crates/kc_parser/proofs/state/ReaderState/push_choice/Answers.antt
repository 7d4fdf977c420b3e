use Rattle.kc_parser.proofs.Common.{sym, ap, ◌∙◌, inr, count_by, arith, nat_le, choice, is_block}
use Rattle.kc_parser.specs.checker.StateViews.{Describes}
use Rattle.kc_parser.proofs.OpenBlockSteps.{blocks_are}
use Rattle.kc_parser.proofs.HeadSteps.{head_pushed, choice_deep, choice_many, choice_fits, choices_many, choices_few}
use Rattle.kc_parser.proofs.state.ReaderState.push_choice.Goals as goal

pub returns-then-is_at_block_limit : goal.returns-then-is_at_block_limit
unfolding Describes
returns-then-is_at_block_limit c =
    λ r before d. inr (
      choice_deep before (sym (ap (nat_le 64) (blocks_are r _ _ _ _ _ before d.counted))
          ∙ ap (λ xs. nat_le 64 (count_by is_block xs)) (sym c.deref.ensures.value) ∙ sym c.is_at_block_limit.ensures ∙ c.if-is_at_block_limit.true),
      d.shows,
    )

pub returns-then-self-ge-MAX_CHOICES : goal.returns-then-self-ge-MAX_CHOICES
unfolding Describes
returns-then-self-ge-MAX_CHOICES c =
    λ r before d. inr (
      choice_many before (sym (ap (nat_le 64) (blocks_are r _ _ _ _ _ before d.counted))
          ∙ ap (λ xs. nat_le 64 (count_by is_block xs)) (sym c.deref.ensures.value) ∙ sym c.is_at_block_limit.ensures ∙ c.if-is_at_block_limit.false)
          (choices_many _ _ d.counted.choices_are c.if-self-ge-MAX_CHOICES.true),
      d.shows,
    )

pub returns : goal.returns
unfolding Describes
returns c = λ r before d.
    head_pushed r c.args.at.file c.args.at.line before choice _ c.push_choice_group.result
    (choice_fits before (sym (ap (nat_le 64) (blocks_are r _ _ _ _ _ before d.counted))
    ∙ ap (λ xs. nat_le 64 (count_by is_block xs)) (sym c.deref.ensures.value) ∙ sym c.is_at_block_limit.ensures ∙ c.if-is_at_block_limit.false)
    (choices_few _ _ d.counted.choices_are c.if-self-ge-MAX_CHOICES.false))
    (c.push_choice_group.ensures.appends r before d)
    c.push_choice_group.ensures.memory

pub push_choice_group-requires : goal.push_choice_group-requires
push_choice_group-requires c = record { few = omega arith }
