use Rattle.kc_dotconfig.proofs.Common.{rules, arith, common_steps, tree_of_settled, file_format, meaning_view}
use Rattle.kc_dotconfig.proofs.LineAccumulation.{means_of_view, malformed_of, within_of}
use Rattle.kc_dotconfig.proofs.accumulate.take_line.Goals as goal

pub returns-in-Ok-take-clause-ok : goal.returns-in-Ok-take-clause-ok
returns-in-Ok-take-clause-ok c = (
  c.in-Ok.ensures.cases.1,
  (
    meaning_view c.in-Ok-Some.meaning,
    means_of_view (file_format c.args.format.now) (tree_of_settled c.args.settled.now) c.args.line.now
        c.in-Ok.text.now c.in-Ok-Some.field-0 c.in-Ok-Some.meaning
        c.args.format.now.prefix.valid c.in-Ok.ensures.cases.0 c.in-Ok-Some.ensures.meaning c.in-Ok-Some.field-0-is,
    λ meanings. c.in-Ok-take.ensures.ok (tree_of_settled c.args.settled.now) meanings
        (within_of _ c.in-Ok-Some.field-0 c.in-Ok-Some.meaning c.in-Ok-Some.ensures.within c.in-Ok-Some.field-0-is),
  ),
)

pub returns-in-Ok-None-clause-malformed : goal.returns-in-Ok-None-clause-malformed
returns-in-Ok-None-clause-malformed c e = (
  c.in-Ok.ensures.cases.1,
  malformed_of (file_format c.args.format.now) (tree_of_settled c.args.settled.now) c.args.line.now c.in-Ok.text.now c.in-Ok-None.field-0
      c.args.format.now.prefix.valid c.in-Ok.ensures.cases.0 c.in-Ok-None.ensures.meaning c.in-Ok-None.field-0-is,
)

pub returns-in-Ok-None-clause-ok : goal.returns-in-Ok-None-clause-ok
returns-in-Ok-None-clause-ok c = search rules

pub returns-in-Ok-take-clause-lines : goal.returns-in-Ok-take-clause-lines
returns-in-Ok-take-clause-lines c = grind (arith, common_steps)

pub returns-in-Err-clause-not_utf8 : goal.returns-in-Err-clause-not_utf8
returns-in-Err-clause-not_utf8 c = grind (arith, common_steps)

pub returns-in-Ok-None-clause-err : goal.returns-in-Ok-None-clause-err
returns-in-Ok-None-clause-err c = grind (arith, common_steps)

pub returns-in-Ok-take-clause-malformed : goal.returns-in-Ok-take-clause-malformed
returns-in-Ok-take-clause-malformed c = grind (arith, common_steps)

pub returns-in-Ok-None-clause-lines : goal.returns-in-Ok-None-clause-lines
returns-in-Ok-None-clause-lines c = grind (arith, common_steps)

pub returns-in-Ok-None-clause-kinds : goal.returns-in-Ok-None-clause-kinds
returns-in-Ok-None-clause-kinds c = grind (arith, common_steps)

pub returns-in-Err-clause-kinds : goal.returns-in-Err-clause-kinds
returns-in-Err-clause-kinds c = grind (arith, common_steps)

pub returns-in-Err-take-clause-err : goal.returns-in-Err-take-clause-err
returns-in-Err-take-clause-err c = grind (arith, common_steps)

pub returns-in_default-clause-kinds : goal.returns-in_default-clause-kinds
returns-in_default-clause-kinds c = grind (arith, common_steps)

pub returns-in_default-clause-malformed : goal.returns-in_default-clause-malformed
returns-in_default-clause-malformed c = grind (arith, common_steps)

pub returns-in-Ok-None-clause-not_utf8 : goal.returns-in-Ok-None-clause-not_utf8
returns-in-Ok-None-clause-not_utf8 c = grind (arith, common_steps)

pub returns-in-Err-take-clause-kinds : goal.returns-in-Err-take-clause-kinds
returns-in-Err-take-clause-kinds c = grind (arith, common_steps)

pub returns-in-Ok-take-clause-not_utf8 : goal.returns-in-Ok-take-clause-not_utf8
returns-in-Ok-take-clause-not_utf8 c = grind (arith, common_steps)

pub returns-in-Err-take-clause-malformed : goal.returns-in-Err-take-clause-malformed
returns-in-Err-take-clause-malformed c = grind (arith, common_steps)

pub returns-in-Err-take-clause-not_utf8 : goal.returns-in-Err-take-clause-not_utf8
returns-in-Err-take-clause-not_utf8 c = grind (arith, common_steps)

pub returns-in-Err-clause-malformed : goal.returns-in-Err-clause-malformed
returns-in-Err-clause-malformed c = grind (arith, common_steps)
