-- The symbols and choices that the rows of a tree represent, by their places.
use Rattle.kc_tree.proofs.Common.{◌≡◌, ◌<◌, ℕ, zero, suc, ◌+◌, ◌-◌, List, [], ◌∷◌, length, map, drop, Option, Some, None, refl, ap, sym, arith, All, slice_get, slice_index, length-map, take-map, items_at, from_rows, tree_from_rows, symbol_from_row, choice_from_row, entry_from_row, Inside, TreeModel}
use Rattle.std.proofs.lemmas.List.Elements.{All-take, All-drop}
use Rattle.kc_tree_model.specs.Contents.{own_dependencies}
use Rattle.kc_tree.specs.checker.TreeView.{tree_model}

pub seen_get : {A B : Type 0} (f : ℕ → A → B) (n : ℕ) (xs : List A) (i j : ℕ) (x : A) → j ≡ n + i → slice_get xs i ≡ Some x
    → slice_get (from_rows f n xs) i ≡ Some (f j x)
seen_get f n [] i j x e h = cc
seen_get f n (y ∷ ys) zero j x e h =
    let s : y ≡ x = cc in
    let k : n ≡ j = omega arith in
    rw (s, k) refl
seen_get f n (y ∷ ys) (suc i) j x e h = seen_get f (suc n) ys i j x (omega arith) h

pub seen_length : {A B : Type 0} (f : ℕ → A → B) (n : ℕ) (xs : List A) → length (from_rows f n xs) ≡ length xs
seen_length f n [] = refl
seen_length f n (x ∷ xs) = ap suc (seen_length f (suc n) xs)

-- what holds for all items of a list grouped by key holds for those of each key
pub all_at : {X : Type 0} (P : X → Type 0) (starts : List ℕ) (items : List X) (k : ℕ) → All P items → All P (items_at starts items k)
all_at P starts items k h =
    All-take P (slice_index starts (k + 1) - slice_index starts k) (drop (slice_index starts k) items) (All-drop P (slice_index starts k) items h)

-- the tree of stored lists has as many symbols as symbol rows
pub symbols_length : (t : Inside) → length (tree_from_rows t).symbols ≡ length t.symbols.items
symbols_length t = seen_length (symbol_from_row t) 0 t.symbols.items

pub choices_length : (t : Inside) → length (tree_from_rows t).choices ≡ length t.choices.items
choices_length t = seen_length (choice_from_row t) 0 t.choices.items

pub entries_length : (t : Inside) → length (tree_from_rows t).entries ≡ length t.entries.items
entries_length t = length-map t.entries.items (entry_from_row t.arena t.titles.items)

pub units_length : (t : Inside) → length (tree_from_rows t).units ≡ length t.units.items
units_length t = refl

-- a tree's value has the symbols, choices and entries of its rows, by their numbers
module _ (t : Inside) (m : TreeModel) (e : tree_model t ≡ m) where
  pub symbol_there : (s : ℕ) → s < length m.tree.symbols → s < length t.symbols.items
  symbol_there s h = let v = ap (λ (x : TreeModel). length x.tree.symbols) e in omega (arith, v, h, symbols_length t)

  pub choice_there : (c : ℕ) → c < length m.tree.choices → c < length t.choices.items
  choice_there c h = let v = ap (λ (x : TreeModel). length x.tree.choices) e in omega (arith, v, h, choices_length t)

  pub entry_there : (i : ℕ) → i < length m.tree.entries → i < length t.entries.items
  entry_there i h = let v = ap (λ (x : TreeModel). length x.tree.entries) e in omega (arith, v, h, entries_length t)

-- a symbol's own dependencies, each mapped by a function, are its own ones among all dependencies mapped by it
pub mapped_own : {A B : Type 0} (f : A → B) (choice : Option ℕ) (all : List A) → map f (own_dependencies choice all) ≡ own_dependencies choice (map f all)
mapped_own f None all = refl
mapped_own f (Some k) all = sym (take-map f 1 all)

pub all_own : {A : Type 0} (P : A → Type 0) (choice : Option ℕ) (all : List A) → All P all → All P (own_dependencies choice all)
all_own P None all h = h
all_own P (Some k) all h = All-take P 1 all h
