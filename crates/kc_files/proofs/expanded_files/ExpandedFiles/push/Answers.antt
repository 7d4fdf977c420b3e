use Rattle.kc_files.proofs.Common.{◌≡◌, ap, ◌∙◌, map, false, List, ◌++◌, ◌∷◌, [], ExpandedFile, has_key, expanded_file}
use Rattle.kc_files.proofs.KeyLemmas.{file_inserted}
use Rattle.kc_files.proofs.expanded_files.ExpandedFiles.push.Goals as goal

pub returns-clause-ok : goal.returns-clause-ok
returns-clause-ok c =
    let old = c.args.self.now in
    let text = c.args.text.value.items in
    let entries = c.self.inside.files.entries in
    let there : has_key (map expanded_file entries) c.in_ok-key.key.items ≡ false =
    ap (λ (fs : List ExpandedFile). has_key fs c.in_ok-key.key.items) c.self.view_is ∙ ap (λ k. has_key old k) c.in_ok-key.ensures.items ∙ c.requires.absent in
    ap (λ es. map expanded_file es) c.in_ok-insert.ensures.entries
    ∙ file_inserted entries c.in_ok-key.key (record { path = c.in_ok-path.path; text = c.args.text }) there
    ∙ ap (λ (fs : List ExpandedFile). fs ++ record { key = c.in_ok-key.key.items; path = c.in_ok-path.path.items; text = text } ∷ []) c.self.view_is
    ∙ ap (λ k. let f : ExpandedFile = record { key = k; path = c.in_ok-path.path.items; text = text } in old ++ f ∷ []) c.in_ok-key.ensures.items
    ∙ ap (λ p. let f : ExpandedFile = record { key = c.args.key.now; path = p; text = text } in old ++ f ∷ []) c.in_ok-path.ensures.items
