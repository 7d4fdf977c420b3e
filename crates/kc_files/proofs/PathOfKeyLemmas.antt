-- The path that was read for a key, through the map that holds the files.
use Rattle.kc_files.proofs.Common.{◌≡◌, ℕ, Bool, true, false, cond, List, [], ◌∷◌, map, Option, Some, refl, ap, ◌∙◌, Vec, bytes_eq, option_map, lookup, Global, FileOfKey, expanded_file, path_of_key}
use Rattle.kc_files.proofs.TableLemmas.{bytes_eq_turned}

abbrev pub path_items : Option FileOfKey → Option (List ℕ)
path_items o = option_map (λ (f : FileOfKey). f.path.items) o

path_by : (b : Bool) (f : FileOfKey) (o : Option FileOfKey) → path_items (cond b (Some f) o) ≡ cond b (Some f.path.items) (path_items o)
path_by true f o = refl
path_by false f o = refl

pub find_path : (key : List ℕ) (es : List (Vec ℕ Global × FileOfKey))
    → path_items (lookup (λ (k : Vec ℕ Global). bytes_eq key k.items) es) ≡ path_of_key (map expanded_file es) key
find_path key [] = refl
find_path key (e ∷ es) =
    path_by (bytes_eq key e.0.items) e.1 (lookup (λ (k : Vec ℕ Global). bytes_eq key k.items) es)
    ∙ ap (λ b. cond b (Some e.1.path.items) (path_items (lookup (λ (k : Vec ℕ Global). bytes_eq key k.items) es))) (bytes_eq_turned key e.0.items)
    ∙ ap (λ o. cond (bytes_eq e.0.items key) (Some e.1.path.items) o) (find_path key es)
