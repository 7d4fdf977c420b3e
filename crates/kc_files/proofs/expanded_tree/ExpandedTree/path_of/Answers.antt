use Rattle.kc_files.proofs.Common.{◌≡◌, ◌∷◌, [], List, Some, None, true, false, sym, ap, ◌∙◌, bytes_eq, ExpandedFile, path_of_key}
use Rattle.kc_files.proofs.LastFileLemmas.{path_in_front, path_at_end}
use Rattle.kc_files.proofs.expanded_tree.ExpandedTree.path_of.Goals as goal

pub returns-in-Some : goal.returns-in-Some
returns-in-Some c =
    let key = c.args.key.now in
    let t = c.self.inside in
    let last : ExpandedFile = record { key = t.root.items; path = t.root.items; text = t.text.value.items } in
    let there : path_of_key t.sourced key ≡ Some c.in-Some.path.now = sym c.in-Some.ensures in
    sym (path_in_front t.sourced (last ∷ []) key c.in-Some.path.now there) ∙ ap (λ (fs : List ExpandedFile). path_of_key fs key) c.self.view_is

pub returns-in-None : goal.returns-in-None
returns-in-None c =
    let key = c.args.key.now in
    let t = c.self.inside in
    let last : ExpandedFile = record { key = t.root.items; path = t.root.items; text = t.text.value.items } in
    let absent : path_of_key t.sourced key ≡ None = sym c.in-None.ensures in
    let same : bytes_eq key t.root.items ≡ true = ap (bytes_eq key) (sym c.as_slice.ensures.value) ∙ sym c.if-eq.ensures in
    ap (λ path. Some path) c.deref.ensures.value
    ∙ sym (path_at_end t.sourced last key true absent same)
    ∙ ap (λ (fs : List ExpandedFile). path_of_key fs key) c.self.view_is

pub returns-in-None-2 : goal.returns-in-None-2
returns-in-None-2 c =
    let key = c.args.key.now in
    let t = c.self.inside in
    let last : ExpandedFile = record { key = t.root.items; path = t.root.items; text = t.text.value.items } in
    let absent : path_of_key t.sourced key ≡ None = sym c.in-None.ensures in
    let differs : bytes_eq key t.root.items ≡ false = ap (bytes_eq key) (sym c.as_slice.ensures.value) ∙ sym c.if-eq.ensures in
    sym (path_at_end t.sourced last key false absent differs) ∙ ap (λ (fs : List ExpandedFile). path_of_key fs key) c.self.view_is
