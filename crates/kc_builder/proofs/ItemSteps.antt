-- The items of attributes, one after another.
use Rattle.kc_builder.proofs.Common.{◌≡◌, ℕ, suc, ◌+◌, ◌<◌, List, [], ◌∷◌, ◌++◌, length, get_or, drop, Option, Some, None, refl, ap, sym, subst, ◌∙◌, arith, append_assoc, append-nil, option_to_list, option_map, option_and_then, is_some, cons_option, list_any, drop-cons, drop-length, target_given}
use Rattle.kc_builder.proofs.Common.{ItemsWithKeys, SymbolTable, number_in, text_of_name, ReverseDependency, ReverseKind, Select, Imply, gathered_items, gathered_prompt, gathered_default, gathered_range, own_key, HasAppended, gathered_target, target_key, gathered_reverse_dependency, Attributes}
use Rattle.kc_builder.proofs.Common.{CodeLine, option_front}
use Rattle.std.specs.Prelude.{map, Bool, true, false, ◌||◌}
use Rattle.kc_builder.specs.checker.GatheredItems.{has_target}
use Rattle.kc_builder.specs.checker.Definitions.{HasItem, HasSame, HasLine, HasOwn}

-- `now` with the items of the lines from `i` on appended is `old` with the items of all lines appended
pub record IsRest {T : Type 0} (key : CodeLine → ℕ → Option ℕ) (item : CodeLine → ℕ → Option T) (old now : ItemsWithKeys T) (lines : List CodeLine)
    (conditions : List ℕ) (i : ℕ) : Type 0 where
  pub keys : now.keys.items ++ gathered_items key (drop i lines) (drop i conditions) ≡ old.keys.items ++ gathered_items key lines conditions
  pub items : now.items.items ++ gathered_items item (drop i lines) (drop i conditions) ≡ old.items.items ++ gathered_items item lines conditions

pub all_rest : {T : Type 0} (key : CodeLine → ℕ → Option ℕ) (item : CodeLine → ℕ → Option T) (old : ItemsWithKeys T)
    (lines : List CodeLine) (conditions : List ℕ) → IsRest key item old old lines conditions 0
all_rest key item old lines conditions = record { keys = refl; items = refl }

consed : {T : Type 0} (o : Option T) (xs ys : List T) → xs ++ cons_option o ys ≡ (xs ++ option_to_list o) ++ ys
consed o xs ys = ap (λ zs. xs ++ zs) (sym (option_front o ys)) ∙ sym (append_assoc xs (option_to_list o) ys)

pair_more : {T : Type 0} (item : CodeLine → ℕ → Option T) (lines : List CodeLine) (conditions : List ℕ) (i c : ℕ) (d : CodeLine) → i < length lines
    → i < length conditions
    → gathered_items item (drop i lines) (drop i conditions) ≡ cons_option (item (get_or lines i d) (get_or conditions i c))
    (gathered_items item (drop (i + 1) lines) (drop (i + 1) conditions))
pair_more item lines conditions i c d h k =
    let n : suc i ≡ i + 1 = omega arith in
    ap (λ ls. gathered_items item ls (drop i conditions)) (drop-cons lines i d h)
    ∙ ap (gathered_items item (get_or lines i d ∷ drop (suc i) lines)) (drop-cons conditions i c k)
    ∙ ap (λ m. cons_option (item (get_or lines i d) (get_or conditions i c)) (gathered_items item (drop m lines) (drop m conditions))) n

pub rest_more : {T : Type 0} (key : CodeLine → ℕ → Option ℕ) (item : CodeLine → ℕ → Option T) (old now next : ItemsWithKeys T) (lines : List CodeLine)
    (conditions : List ℕ) (i c : ℕ) (d : CodeLine)
    → i < length lines → length conditions ≡ length lines → IsRest key item old now lines conditions i
    → HasItem key item now next (get_or lines i d) (get_or conditions i c) → IsRest key item old next lines conditions (i + 1)
rest_more key item old now next lines conditions i c d h e r m =
    let l : i < length conditions = omega arith in
    record {
      keys = ap (λ ks. ks ++ gathered_items key (drop (i + 1) lines) (drop (i + 1) conditions)) m.keys
          ∙ sym (consed (key (get_or lines i d) (get_or conditions i c)) now.keys.items (gathered_items key (drop (i + 1) lines) (drop (i + 1) conditions)))
          ∙ ap (λ ks. now.keys.items ++ ks) (sym (pair_more key lines conditions i c d h l)) ∙ r.keys;
      items = ap (λ xs. xs ++ gathered_items item (drop (i + 1) lines) (drop (i + 1) conditions)) m.items
          ∙ sym (consed (item (get_or lines i d) (get_or conditions i c)) now.items.items (gathered_items item (drop (i + 1) lines) (drop (i + 1) conditions)))
          ∙ ap (λ xs. now.items.items ++ xs) (sym (pair_more item lines conditions i c d h l)) ∙ r.items;
    }

pub rest_done : {T : Type 0} (key : CodeLine → ℕ → Option ℕ) (item : CodeLine → ℕ → Option T) (old now : ItemsWithKeys T) (lines : List CodeLine)
    (conditions : List ℕ) (i : ℕ)
    → i ≡ length lines → IsRest key item old now lines conditions i
    → HasAppended key item old now lines conditions
rest_done key item old now lines conditions i e r =
    let none : drop i lines ≡ [] = ap (λ n. drop n lines) e ∙ drop-length lines in
    record {
      keys = sym (append-nil now.keys.items) ∙ ap (λ ls. now.keys.items ++ gathered_items key ls (drop i conditions)) (sym none) ∙ r.keys;
      items = sym (append-nil now.items.items) ∙ ap (λ ls. now.items.items ++ gathered_items item ls (drop i conditions)) (sym none) ∙ r.items;
    }

neither : (x y : Option ℕ) → (is_some x || is_some y) ≡ false → (x ≡ None) × (y ≡ None)
neither None None e = (refl, refl)
neither None (Some b) e = absurd (let z : ⊥ = cc in z)
neither (Some a) y e = absurd (let z : ⊥ = cc in z)

none_first : (a b : Bool) → (a || b) ≡ false → (a ≡ false) × (b ≡ false)
none_first false b e = (refl, e)
none_first true b e = absurd (let z : ⊥ = cc in z)

no_name : (f : ReverseKind) (l : CodeLine) → has_target l ≡ false → target_given f l.attribute ≡ None
no_name Select l e = (neither (target_given Select l.attribute) (target_given Imply l.attribute) e).0
no_name Imply l e = (neither (target_given Select l.attribute) (target_given Imply l.attribute) e).1

-- lines that select and imply nothing give no items
none_gathered : {T : Type 0} (item : CodeLine → ℕ → Option T) → ((l : CodeLine) (c : ℕ) → has_target l ≡ false → item l c ≡ None)
    → (lines : List CodeLine) (conditions : List ℕ) → list_any has_target lines ≡ false → gathered_items item lines conditions ≡ []
none_gathered item none [] cs e = refl
none_gathered item none (l ∷ ls) [] e = refl
none_gathered item none (l ∷ ls) (c ∷ cs) e =
    let both = none_first (has_target l) (list_any has_target ls) e in
    ap (λ o. cons_option o (gathered_items item ls cs)) (none l c both.0) ∙ none_gathered item none ls cs both.1

no_target : (n : SymbolTable) (f : ReverseKind) (l : CodeLine) → has_target l ≡ false → gathered_target n f l ≡ None
no_target n f l e = ap (option_and_then (λ id. number_in n.arena.names n.numbers.items (text_of_name n.arena id))) (no_name f l e)

pub none_appended : (n : SymbolTable) (f : ReverseKind) (s : ℕ) (old : ItemsWithKeys ReverseDependency) (lines : List CodeLine) (conditions : List ℕ)
    → list_any has_target lines ≡ false
    → HasAppended (target_key n f) (gathered_reverse_dependency n f s) old old lines conditions
none_appended n f s old lines conditions e = record {
  keys = sym (append-nil old.keys.items)
      ∙ ap (λ ks. old.keys.items ++ ks) (sym (none_gathered (target_key n f) (λ l c h. no_target n f l h) lines conditions e));
  items = sym (append-nil old.items.items)
      ∙ ap (λ xs. old.items.items ++ xs) (sym (none_gathered (gathered_reverse_dependency n f s)
      (λ l c h. ap (option_map (λ _. record { by = s; condition = c })) (no_target n f l h)) lines conditions e));
}

-- at most one item, mapped
pub map_option : {A B : Type 0} (f : A → B) (o : Option A) → map f (option_to_list o) ≡ option_to_list (option_map f o)
map_option f None = refl
map_option f (Some x) = refl

-- an item that a line gives, or none, under the number of a symbol
pub item_given : {T : Type 0} (item : CodeLine → ℕ → Option T) (s : ℕ) (old new : ItemsWithKeys T) (l : CodeLine) (c : ℕ) (o : Option T) → o ≡ item l c
    → new.keys.items ≡ old.keys.items ++ map (λ (_ : T). s) (option_to_list o) → new.items.items ≡ old.items.items ++ option_to_list o
    → HasItem (own_key s item) item old new l c
item_given item s old new l c o e k m = record {
  keys = k ∙ ap (λ ks. old.keys.items ++ ks) (map_option (λ _. s) o ∙ ap (λ p. option_to_list (option_map (λ _. s) p)) e);
  items = m ∙ ap (λ p. old.items.items ++ option_to_list p) e;
}

-- the keys of items that are all under one number
pub mapped_cons : {T M : Type 0} (view : T → M) (o : Option T) (xs : List T) → map view (cons_option o xs) ≡ cons_option (option_map view o) (map view xs)
mapped_cons view None xs = refl
mapped_cons view (Some x) xs = refl

pub own_keys_are : {T : Type 0} (s : ℕ) (item : CodeLine → ℕ → Option T) (lines : List CodeLine) (conditions : List ℕ)
    → gathered_items (own_key s item) lines conditions ≡ map (λ (_ : T). s) (gathered_items item lines conditions)
own_keys_are s item [] cs = refl
own_keys_are s item (l ∷ ls) [] = refl
own_keys_are s item (l ∷ ls) (c ∷ cs) =
    ap (cons_option (own_key s item l c)) (own_keys_are s item ls cs) ∙ sym (mapped_cons (λ _. s) (item l c) (gathered_items item ls cs))

-- the same items appended to an equal list
pub appended_from : {T : Type 0} (key : CodeLine → ℕ → Option ℕ) (item : CodeLine → ℕ → Option T) (mid old new : ItemsWithKeys T) (lines : List CodeLine)
    (conditions : List ℕ) → mid ≡ old → HasAppended key item mid new lines conditions → HasAppended key item old new lines conditions
appended_from key item mid old new lines conditions e h = record {
  keys = h.keys ∙ ap (λ m. m.keys.items ++ gathered_items key lines conditions) e;
  items = h.items ∙ ap (λ m. m.items.items ++ gathered_items item lines conditions) e;
}

-- what attribute lines give their own symbol: `now` with the items of the lines from `i` on appended is `old` with those of all lines
pub record IsOwnRest (s : ℕ) (old now : Attributes) (lines : List CodeLine) (conditions : List ℕ) (i : ℕ) : Type 0 where
  pub prompts : IsRest (own_key s gathered_prompt) gathered_prompt old.prompts now.prompts lines conditions i
  pub defaults : IsRest (own_key s gathered_default) gathered_default old.defaults now.defaults lines conditions i
  pub ranges : IsRest (own_key s gathered_range) gathered_range old.ranges now.ranges lines conditions i
  pub others : HasSame old now

pub own_all : (s : ℕ) (old : Attributes) (lines : List CodeLine) (conditions : List ℕ) → IsOwnRest s old old lines conditions 0
own_all s old lines conditions = record {
  prompts = all_rest (own_key s gathered_prompt) gathered_prompt old.prompts lines conditions;
  defaults = all_rest (own_key s gathered_default) gathered_default old.defaults lines conditions;
  ranges = all_rest (own_key s gathered_range) gathered_range old.ranges lines conditions;
  others = record { selectors = refl; impliers = refl; direct = refl };
}

pub own_more : (s : ℕ) (old now next : Attributes) (lines : List CodeLine) (conditions : List ℕ) (i c : ℕ) (d : CodeLine)
    → i < length lines → length conditions ≡ length lines → IsOwnRest s old now lines conditions i
    → d ≡ get_or lines i d → c ≡ get_or conditions i c → HasLine s now next d c
    → IsOwnRest s old next lines conditions (i + 1)
own_more s old now next lines conditions i c d h e r line condition given =
    let m : HasLine s now next (get_or lines i d) (get_or conditions i c) =
    subst (λ l. HasLine s now next l (get_or conditions i c)) line (subst (HasLine s now next d) condition given) in
    record {
      prompts = rest_more (own_key s gathered_prompt) gathered_prompt old.prompts now.prompts next.prompts lines conditions i c d h e r.prompts m.prompts;
      defaults = rest_more (own_key s gathered_default) gathered_default old.defaults now.defaults next.defaults lines conditions i c d h e r.defaults m.defaults;
      ranges = rest_more (own_key s gathered_range) gathered_range old.ranges now.ranges next.ranges lines conditions i c d h e r.ranges m.ranges;
      others = record {
        selectors = m.others.selectors ∙ r.others.selectors;
        impliers = m.others.impliers ∙ r.others.impliers;
        direct = m.others.direct ∙ r.others.direct;
      };
    }

pub own_done : (s : ℕ) (old now : Attributes) (lines : List CodeLine) (conditions : List ℕ) (i : ℕ) → i ≡ length lines
    → IsOwnRest s old now lines conditions i → HasOwn s old now lines conditions
own_done s old now lines conditions i e r = record {
  prompts = rest_done (own_key s gathered_prompt) gathered_prompt old.prompts now.prompts lines conditions i e r.prompts;
  defaults = rest_done (own_key s gathered_default) gathered_default old.defaults now.defaults lines conditions i e r.defaults;
  ranges = rest_done (own_key s gathered_range) gathered_range old.ranges now.ranges lines conditions i e r.ranges;
  others = r.others;
}
