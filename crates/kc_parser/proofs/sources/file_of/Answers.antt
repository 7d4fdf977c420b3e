use Rattle.kc_parser.proofs.Common.{◌≡◌, rules, refl, sym, inr, arith, common_steps}
use Rattle.kc_tree_model.specs.TreeFiles.{index_of_file}
use Rattle.kc_parser.specs.checker.StateViews.{file_source_of}
use Rattle.kc_parser.proofs.FileSteps.{file_there, file_empty, file_absent}
use Rattle.kc_parser.proofs.sources.file_of.Goals as goal

pub returns-in-Some : goal.returns-in-Some
unfolding file_source_of
returns-in-Some c =
    let n : c.in-Ok.number ≡ index_of_file c.args.from.texts.now c.args.path.now = search rules in
    let t = file_there c.args.from c.args.path.now c.in-Some.bytes.now c.in-Some.ensures in
    (t.0, n, t.1)

pub returns-in-None : goal.returns-in-None
unfolding file_source_of
returns-in-None c =
    let n : c.in-Ok.number ≡ index_of_file c.args.from.texts.now c.args.path.now = search rules in
    let t = file_empty c.args.from c.args.path.now (sym c.in-None.ensures) c.if-from.true in
    (t.0, n, t.1)

pub returns-in-None-2 : goal.returns-in-None-2
returns-in-None-2 c = inr (refl, file_absent c.args.from c.args.path.now (sym c.in-None.ensures) c.if-from.false)

pub returns-in_default : goal.returns-in_default
returns-in_default c = grind (arith, common_steps)
