use Rattle.kc_expansion.proofs.Common.{List, map, true, sym, subst, ExpandedFile, run_at_start, end_of, tree_of, Reaches, with_root, file_run_of}
use Rattle.kc_macros_model.specs.TreeExpansion.{tree_read}
use Rattle.kc_macros.specs.Runs.{notice_of}
use Rattle.kc_expansion.proofs.ExpansionLemmas.{from_start, goes_on, expansion_read, few_files}
use Rattle.kc_expansion.proofs.expansion.expand.Goals as goal

pub read_tree-requires : goal.read_tree-requires
read_tree-requires g c = record {
  goes_on = let a = file_run_of (g.F.TreeFiles.contents c.args.files.now) c.new_reading-reading.result in
      let b = file_run_of (g.F.TreeFiles.contents c.read_root-read.new.files) c.read_root-read.new.reading in
      let root = c.args.root.now in
      let e = end_of (λ text. with_root root text.value.items c.read_root-read.new.reading.expanded) c.read_root-read.result in
      let s = from_start a b c.args.answers.now true (tree_read root) e c.new_reading-reading.ensures.known c.new_reading-reading.ensures.run
      c.read_root-read.ensures.reads in
      goes_on a.contents b c.args.answers.now root c.read_root-read.ensures.reads.same s.0 _ c.read_root-read.result s.1;
}

pub returns-clause-expanded : goal.returns-clause-expanded
returns-clause-expanded g c =
    let a = file_run_of (g.F.TreeFiles.contents c.args.files.now) c.new_reading-reading.result in
    let b = file_run_of (g.F.TreeFiles.contents c.read_root-read.new.files) c.read_root-read.new.reading in
    let root = c.args.root.now in
    let answers = c.args.answers.now in
    let e = end_of (λ text. with_root root text.value.items c.read_root-read.new.reading.expanded) c.read_root-read.result in
    let s = from_start a b answers true (tree_read root) e c.new_reading-reading.ensures.known c.new_reading-reading.ensures.run
    c.read_root-read.ensures.reads in
    expansion_read a.contents b answers root c.read_root-read.ensures.reads.same s.0 (map notice_of c.into_notices-notices.result.0.items) (tree_of c.in_ok-tree.tree)
    c.into_notices-notices.ensures.notices
    (subst (Reaches b.known (run_at_start answers true) b.run (tree_read root)) c.in_ok-tree.ensures.tree
    (subst (λ (fs : List ExpandedFile). Reaches b.known (run_at_start answers true) b.run (tree_read root)
    (end_of (λ text. with_root root text.value.items fs) c.read_root-read.result)) (sym c.into_notices-notices.ensures.files) s.1))

pub returns-clause-few : goal.returns-clause-few
returns-clause-few g c =
    few_files (g.F.TreeFiles.contents c.args.files.now) c.args.answers.now c.args.root.now (map notice_of c.into_notices-notices.result.0.items) c.in_ok-tree.tree
    (returns-clause-expanded g c).0

pub returns-clause-same : goal.returns-clause-same
returns-clause-same g c = c.read_root-read.ensures.reads.same

pub returns-in_err-tree-clause-same : goal.returns-in_err-tree-clause-same
returns-in_err-tree-clause-same g c = c.read_root-read.ensures.reads.same
