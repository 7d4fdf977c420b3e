-- Items grouped by a number.
use Rattle.kc_dotconfig.proofs.Common.{◌≡◌, inl, inr, ℕ, ◌==◌, eq-eqb, cond, List, [], ◌∷◌, Some, None, sym, ◌∙◌, ap, Vec, lookup, is_at, insert_entry, nat_cmp, cases_eq, ne_eqb}
use Rattle.std.specs.Option.{option_map}
use Rattle.kc_dotconfig.specs.checker.Groups.{items_at, items_more}
use Rattle.kc_dotconfig.proofs.GatheredLines.{found_same, found_other}

-- after a key that has none gets a list of one item
pub items_put : (X : Type 0) (old new : List (ℕ × Vec X)) (key : ℕ) (items : Vec X) (x : X)
    → new ≡ insert_entry nat_cmp old key items → items.items ≡ x ∷ [] → lookup (is_at (nat_cmp key)) old ≡ None
    → (k : ℕ) → items_at X new k ≡ cond (k == key) (items_more X (items_at X old k) x) (items_at X old k)
items_put X old new key items x is own none k = elim (cases_eq k key) [
  | inl same ↦
      ap (λ n. items_at X new n) same ∙ ap (λ es. items_at X es key) is
      ∙ ap (option_map (λ (v : Vec X). v.items)) (found_same old key items) ∙ ap (λ xs. Some xs) own
      ∙ ap (λ o. items_more X (option_map (λ (v : Vec X). v.items) o) x) (sym none)
      ∙ ap (λ n. items_more X (items_at X old n) x) (sym same)
      ∙ ap (λ b. cond b (items_more X (items_at X old k) x) (items_at X old k)) (sym (eq-eqb k key same))
  | inr other ↦
      ap (λ es. items_at X es k) is ∙ ap (option_map (λ (v : Vec X). v.items)) (found_other old k key items other)
      ∙ ap (λ b. cond b (items_more X (items_at X old k) x) (items_at X old k)) (sym (ne_eqb k key other))
]
