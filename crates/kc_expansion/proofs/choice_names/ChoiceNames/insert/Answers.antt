use Rattle.kc_expansion.proofs.Common.{◌≡◌, false, map, reverse, ◌∷◌, ap, ◌∙◌, is_in_list, name_of_entry}
use Rattle.kc_expansion.proofs.ChoiceLemmas.{name_inserted}
use Rattle.kc_expansion.proofs.choice_names.ChoiceNames.insert.Goals as goal

pub returns-clause-ok : goal.returns-clause-ok
returns-clause-ok c =
    let entries = c.self.inside.names.entries in
    let key = c.in_ok-name.ensures.items in
    let absent : is_in_list c.in_ok-name.name.items (reverse (map name_of_entry entries)) ≡ false = ap (is_in_list c.in_ok-name.name.items) c.self.view_is
    ∙ ap (λ q. is_in_list q c.args.self.now) key ∙ c.requires.absent in
    ap (λ es. reverse (map name_of_entry es)) c.in_ok-insert.ensures.entries
    ∙ name_inserted entries c.in_ok-name.name tt absent
    ∙ ap (λ t. c.in_ok-name.name.items ∷ t) c.self.view_is
    ∙ ap (λ q. q ∷ c.args.self.now) key
