use Rattle.std.proofs.Common.{◌∙◌, sym, List, ℕ}
use Rattle.std.specs.Borrow.{Bor}
use Rattle.kmin_cli.proofs.WordOrders.{past_option, past_value}
use Rattle.kmin_cli.proofs.word_order.command_place.Goals as goal
use Rattle.kmin_cli.proofs.word_order.command_place.Goals.{then-is_value, else-is_value+else-names_command+then-gives_option}

pub loop-place-preserved : goal.loop-place-preserved
loop-place-preserved c = elim c.if-is_value.branch [
  | then-is_value w ↦
      past_value (λ (word : Bor (List ℕ)). word.now) c.args.words.now c.loop-place.place c.loop-place-test.true _ _ _ c.loop-place.invariant w.if-is_value.true
      w.is_value-is
  | else-is_value+else-names_command+then-gives_option w ↦
      past_option (λ (word : Bor (List ℕ)). word.now) c.args.words.now c.loop-place.place c.loop-place-test.true _ _ _ c.loop-place.invariant _ w.if-is_value.false
      (sym w.names_command.ensures.value ∙ w.if-names_command.false) (sym w.gives_option.ensures ∙ w.if-gives_option.true)
      (w.is_value-is ∙ w.takes_next-is_value.ensures.value)
]
