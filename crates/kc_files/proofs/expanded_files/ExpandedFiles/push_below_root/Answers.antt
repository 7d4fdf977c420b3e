use Rattle.std.proofs.Common.{◌∙◌, sym}
use Rattle.kc_files.proofs.KeyLemmas.{pushed_below_root}
use Rattle.kc_files.proofs.expanded_files.ExpandedFiles.push_below_root.Goals as goal

pub returns-clause-ok : goal.returns-clause-ok
returns-clause-ok c = pushed_below_root c.args.root.now c.args.path.now c.args.text.value.items c.args.self.now c.insert_first.new.self c.insert_first.result
    (sym c.eq.ensures ∙ c.if-eq.false) c.insert_first.ensures.first c.insert_first.ensures.ok
