use Rattle.kc_files.proofs.Common.{◌≡◌, Some, None, ap, ◌∙◌, sym, subst, ℕ, List, not, Vec, bytes_eq, option_copied, lookup, Global, ExpandedFile, is_taken, HasDistinctKeys}
use Rattle.kc_files.proofs.KeyLemmas.{taken_otherwise, differs}
use Rattle.kc_files.proofs.expanded_files.ExpandedFiles.is_taken.Goals as goal

pub returns-in-Some : goal.returns-in-Some
returns-in-Some c = record {
  value = let entries = c.self.inside.files.entries in
      let e : lookup (λ (k : Vec ℕ Global). bytes_eq c.args.key.now k.items) entries ≡ Some c.in-Some.file.now =
      sym c.get.ensures.value ∙ ap option_copied c.in-Some.is in
      let t = taken_otherwise c.args.root.now c.args.key.now c.args.text.now entries (sym c.if-eq.ensures)
      (subst HasDistinctKeys (sym c.self.view_is) c.requires.distinct) ∙ ap (differs c.args.text.now) e in
      (c.ne.ensures ∙ ap (λ x. not (bytes_eq x c.args.text.now)) (c.as_slice.ensures.value ∙ ap (λ (v : Vec ℕ Global). v.items) c.deref.ensures)) ∙ sym t
      ∙ ap (λ (fs : List ExpandedFile). is_taken c.args.root.now fs c.args.text.now c.args.key.now) c.self.view_is;
}

pub returns-in-None : goal.returns-in-None
returns-in-None c = record {
  value = let entries = c.self.inside.files.entries in
      let e : lookup (λ (k : Vec ℕ Global). bytes_eq c.args.key.now k.items) entries ≡ None = sym c.get.ensures.value ∙ ap option_copied c.in-None.is in
      let t = taken_otherwise c.args.root.now c.args.key.now c.args.text.now entries (sym c.if-eq.ensures)
      (subst HasDistinctKeys (sym c.self.view_is) c.requires.distinct) ∙ ap (differs c.args.text.now) e in
      sym t ∙ ap (λ (fs : List ExpandedFile). is_taken c.args.root.now fs c.args.text.now c.args.key.now) c.self.view_is;
}
