use Rattle.kc_expansion.proofs.Common.{false, end_of, questions_of, texts_of, with_root, file_run_of}
use Rattle.kc_macros_model.specs.TreeExpansion.{tree_read}
use Rattle.kc_expansion.proofs.FileProgramLemmas.{if_ok}
use Rattle.kc_expansion.proofs.ExpansionLemmas.{from_start, wanted_of}
use Rattle.kc_expansion.proofs.expansion.wants.Goals as goal

pub returns-clause-wanted : goal.returns-clause-wanted
returns-clause-wanted g c =
    let a = file_run_of (g.F.TreeFiles.contents c.args.files.now) c.new_reading-reading.result in
    let b = file_run_of (g.F.TreeFiles.contents c.read_root-read.new.files) c.read_root-read.new.reading in
    let root = c.args.root.now in
    let answers = c.args.answers.now in
    let e = end_of (λ text. with_root root text.value.items c.read_root-read.new.reading.expanded) c.read_root-read.result in
    let s = from_start a b answers false (tree_read root) e c.new_reading-reading.ensures.known c.new_reading-reading.ensures.run
    c.read_root-read.ensures.reads in
    wanted_of a.contents b answers root c.read_root-read.ensures.reads.same s.0 (λ text. with_root root text.value.items c.read_root-read.new.reading.expanded) c.read_root-read.result questions_of
    c.wanted_by.result (texts_of c.in_ok-questions.questions)
    c.in_ok-questions.ensures s.1 c.wanted_by.ensures.ended (if_ok c.wanted_by.result _ _
    (λ w h. h (λ text. with_root root text.value.items c.read_root-read.new.reading.expanded)) c.wanted_by.ensures.wanted)

pub returns-clause-same : goal.returns-clause-same
returns-clause-same g c = c.read_root-read.ensures.reads.same

pub returns-in_err-questions-clause-same : goal.returns-in_err-questions-clause-same
returns-in_err-questions-clause-same g c = c.read_root-read.ensures.reads.same
