-- A word is in the table of keywords where the table has a keyword for it.
use Rattle.std.proofs.Common.{◌≡◌, ℕ, Bool, true, false, ◌||◌, List, [], ◌∷◌, refl}
use Rattle.std.specs.Prelude.{bytes_eq, Some, Option, is_some}
use Rattle.std.specs.Bool.{if◌then◌else◌}
use Rattle.std.specs.List.{list_any}
use Rattle.kc_tree_model.specs.Keywords.{keyword_in_table}
use Rattle.kc_tree_model.specs.declared.keyword.Keyword.{Keyword}

by_first : (b r : Bool) (k : Keyword) (o : Option Keyword) → is_some o ≡ r → is_some (if b then Some k else o) ≡ (b || r)
by_first true r k o h = refl
by_first false r k o h = h

pub named_in : (table : List (List ℕ × Keyword)) (word : List ℕ) → is_some (keyword_in_table table word) ≡ list_any (λ e. bytes_eq e.0 word) table
named_in [] word = refl
named_in (e ∷ es) word = by_first (bytes_eq e.0 word) (list_any (λ d. bytes_eq d.0 word) es) e.1 (keyword_in_table es word) (named_in es word)
