use Rattle.std.proofs.Common.{Vec, Global}
use Rattle.kc_files.proofs.Common.{refl, ap, ◌∙◌, sym, List, ℕ, length, rules, bytes_eq, unwrap_or, lookup, insert_entry, ExpandedFile, FileOfKey, with_file}
use Rattle.kc_files.proofs.KeyLemmas.{added_or_there, viewed_as, grown_where_new, count_files}
use Rattle.kc_files.proofs.expanded_files.ExpandedFiles.insert_first.Goals as goal

pub returns-clause-ok : goal.returns-clause-ok
returns-clause-ok c =
    let old = c.args.self.now in
    let text = c.args.text.value.items in
    let entries = c.self.inside.files.entries in
    let key = c.in_ok-key.key in
    let path = c.in_ok-path.path in
    let new : FileOfKey = record { path = path; text = c.args.text } in
    let put = c.or_insert.result.now in
    viewed_as _ (insert_entry (λ (a b : Vec ℕ Global). bytes_eq a.items b.items) entries key put) _ (search rules)
    (added_or_there entries key new put (lookup (λ (j : Vec ℕ Global). bytes_eq key.items j.items) entries) refl
    (c.or_insert.ensures.value ∙ ap (λ o. unwrap_or o new) c.in_ok-self-inside.ensures.value)
    ∙ ap (λ (fs : List ExpandedFile). with_file key.items path.items text fs) c.self.view_is
    ∙ ap (λ k. with_file k path.items text old) c.in_ok-key.ensures.items
    ∙ ap (λ p. with_file c.args.path.now p text old) c.in_ok-path.ensures.items)

pub returns-clause-first : goal.returns-clause-first
returns-clause-first c =
    grown_where_new c.args.path.now c.args.path.now c.args.text.value.items c.args.self.now _ c.len-before.result c.len.result
    (c.len-before.ensures.len ∙ sym (count_files c.self.inside.files.entries) ∙ ap length c.self.view_is)
    (c.len.ensures.len ∙ sym (count_files _)) (returns-clause-ok c)
