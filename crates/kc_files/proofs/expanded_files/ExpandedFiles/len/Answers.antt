use Rattle.kc_files.proofs.Common.{subst, ap, ◌∙◌, sym, length, HasDistinctKeys}
use Rattle.kc_files.proofs.KeyLemmas.{distinct_keys, count_files}
use Rattle.kc_files.proofs.expanded_files.ExpandedFiles.len.Goals as goal

pub returns-clause-distinct : goal.returns-clause-distinct
returns-clause-distinct c = subst HasDistinctKeys c.self.view_is (distinct_keys c.self.inside.files.entries c.len.ensures.unique)

pub returns-clause-value : goal.returns-clause-value
returns-clause-value c = c.len.ensures.len ∙ sym (count_files c.self.inside.files.entries) ∙ ap length c.self.view_is
