use Rattle.std.proofs.Common.{◌≡◌, ◌||◌, ◌∙◌, ap, nat_eq, codes}
use Rattle.std.specs.List.{starts_with}
use Rattle.kmin_commands.specs.OptionWords.{is_flag, name_part, takes_next}
use Rattle.kmin_commands.proofs.Alternatives.{first_holds, second_decides, holds, decides}
use Rattle.kmin_commands.proofs.option_words.gives_option.Goals as goal
use Rattle.kmin_commands.proofs.option_words.gives_option.Goals.{then-takes_next, else-takes_next}

pub returns-then-is_flag : goal.returns-then-is_flag
returns-then-is_flag c =
    let named : c.if-takes_next.value ≡ (takes_next (name_part c.args.word.now) || is_flag (name_part c.args.word.now)) =
    elim c.if-takes_next.branch [
      | then-takes_next w ↦ first_holds takes_next is_flag _ _ _ _ c.name_part-name.ensures c.takes_next.ensures.value w.if-takes_next.true w.value-is
      | else-takes_next w ↦ second_decides takes_next is_flag _ _ _ _ _ c.name_part-name.ensures c.takes_next.ensures.value w.if-takes_next.false w.is_flag.ensures.value w.value-is
    ] in
    holds _ _ _ named c.if-is_flag.true

pub returns-else-is_flag : goal.returns-else-is_flag
returns-else-is_flag c =
    let named : c.if-takes_next.value ≡ (takes_next (name_part c.args.word.now) || is_flag (name_part c.args.word.now)) =
    elim c.if-takes_next.branch [
      | then-takes_next w ↦ first_holds takes_next is_flag _ _ _ _ c.name_part-name.ensures c.takes_next.ensures.value w.if-takes_next.true w.value-is
      | else-takes_next w ↦ second_decides takes_next is_flag _ _ _ _ _ c.name_part-name.ensures c.takes_next.ensures.value w.if-takes_next.false w.is_flag.ensures.value w.value-is
    ] in
    decides _ _ _ _ named c.if-is_flag.false
    (c.starts_with.ensures.value ∙ ap (λ w. starts_with nat_eq w (codes "-o")) c.as_bytes.ensures.value)
