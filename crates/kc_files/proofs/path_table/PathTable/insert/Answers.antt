use Rattle.kc_files.proofs.Common.{◌≡◌, ap, ◌∙◌, map, None, ◌++◌, ◌∷◌, [], keyword_in_table}
use Rattle.kc_files.proofs.TableLemmas.{itself, entry_view, inserted_new}
use Rattle.kc_files.proofs.path_table.PathTable.insert.Goals as goal

pub returns-clause-ok : goal.returns-clause-ok
returns-clause-ok g c =
    let key = c.in_ok-path.ensures.items in
    let absent : keyword_in_table (map (entry_view itself) c.self.inside.entries.entries) c.in_ok-path.path.items ≡ None =
    ap (λ t. keyword_in_table t c.in_ok-path.path.items) c.self.view_is ∙ ap (λ q. keyword_in_table c.args.self.now q) key ∙ c.requires.absent in
    ap (λ es. map (entry_view itself) es) c.in_ok-insert.ensures.entries
    ∙ inserted_new itself c.self.inside.entries.entries c.in_ok-path.path c.args.read absent
    ∙ ap (λ t. t ++ (c.in_ok-path.path.items, c.args.read) ∷ []) c.self.view_is
    ∙ ap (λ q. c.args.self.now ++ (q, c.args.read) ∷ []) key
