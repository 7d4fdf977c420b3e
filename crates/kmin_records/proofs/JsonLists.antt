-- The tokens of objects and arrays, and of what is written one after the other.
use Rattle.std.proofs.Common.{◌≡◌, ℕ, ◌+◌, ◌<◌, ◌≤◌, List, [], ◌∷◌, ◌++◌, length, map, take, get_or, refl, sym, ◌∙◌, ap, append_assoc, append-nil, Result, Ok, Err, OnOk}
use Rattle.std.specs.Prelude.{flat_map}
use Rattle.std.proofs.lemmas.List.{take_more, take_all}
use Rattle.std.proofs.lemmas.Grind.{flat_map-append}
use Rattle.json.specs.Json.{Json}
use Rattle.json.specs.Token.{Token, begin_object, end_object, begin_array, end_array}
use Rattle.json.specs.Tree.{json_tokens, items_tokens, members_tokens}
use Rattle.json.specs.Written.{Written, Writes}
use Rattle.kmin_messages.specs.between.MessageViews.{AppendsTokens}
use Rattle.kmin_records.specs.JsonValues.{json_items, array_of, members_of, object_of}
use Rattle.kmin_records.specs.between.RecordTokens.{member_tokens, list_tokens}

-- the tokens of values, and of an array of them
pub items_are : (js : List Json) → items_tokens (json_items js) ≡ flat_map json_tokens js ++ end_array ∷ []
items_are [] = refl
items_are (j ∷ js) = ap (λ ts. json_tokens j ++ ts) (items_are js) ∙ sym (append_assoc (json_tokens j) (flat_map json_tokens js) (end_array ∷ []))

pub array_is : (js : List Json) → begin_array ∷ (flat_map json_tokens js ++ end_array ∷ []) ≡ json_tokens (array_of js)
array_is js = ap (λ ts. begin_array ∷ ts) (sym (items_are js))

-- the tokens of members, and of an object of them
pub members_are : (ms : List (List ℕ × Json)) → members_tokens (members_of ms) ≡ list_tokens ms ++ end_object ∷ []
members_are [] = refl
members_are (m ∷ ms) =
    ap (λ ts. member_tokens m ++ ts) (members_are ms) ∙ sym (append_assoc (member_tokens m) (list_tokens ms) (end_object ∷ []))

pub object_is : (ms : List (List ℕ × Json)) → begin_object ∷ (list_tokens ms ++ end_object ∷ []) ≡ json_tokens (object_of ms)
object_is ms = ap (λ ts. begin_object ∷ ts) (sym (members_are ms))

-- nothing was written
pub nothing_more : (old : Written) → AppendsTokens old old []
nothing_more old = record { before = refl; all = sym (append-nil old.tokens) }

-- what was written, as other tokens
pub as_tokens : (old new : Written) (xs ys : List Token) → xs ≡ ys → AppendsTokens old new xs → AppendsTokens old new ys
as_tokens old new xs ys same h = record { before = h.before; all = h.all ∙ ap (λ ts. old.tokens ++ ts) same }

-- one element more of a list was written
pub one_more_written : {X : Type 0} (f : X → List Token) (xs : List X) (i : ℕ) (d : X) (old middle new : Written) → i < length xs
    → AppendsTokens old middle (flat_map f (take i xs)) → AppendsTokens middle new (f (get_or xs i d)) → AppendsTokens old new (flat_map f (take (i + 1) xs))
one_more_written f xs i d old middle new inside h k = record {
  before = k.before ∙ h.before;
  all = k.all ∙ ap (λ ts. ts ++ f (get_or xs i d)) h.all ∙ append_assoc old.tokens (flat_map f (take i xs)) (f (get_or xs i d))
      ∙ ap (λ ts. old.tokens ++ ts) (ap (λ ts. flat_map f (take i xs) ++ ts) (sym (append-nil (f (get_or xs i d))))
      ∙ sym (flat_map-append f (take i xs) (get_or xs i d ∷ [])) ∙ ap (flat_map f) (sym (take_more xs i d inside)));
}

-- all elements were written
pub all_written : {X : Type 0} (f : X → List Token) (xs : List X) (i : ℕ) (old new : Written) → length xs ≤ i → AppendsTokens old new (flat_map f (take i xs))
    → AppendsTokens old new (flat_map f xs)
all_written f xs i old new past h = as_tokens old new (flat_map f (take i xs)) (flat_map f xs) (ap (flat_map f) (take_all i xs past)) h

-- the tokens of mapped values
pub mapped_tokens : {X : Type 0} (f : X → Json) (xs : List X) → flat_map json_tokens (map f xs) ≡ flat_map (λ x. json_tokens (f x)) xs
mapped_tokens f [] = refl
mapped_tokens f (x ∷ xs) = ap (λ ts. json_tokens (f x) ++ ts) (mapped_tokens f xs)

-- and of values of which each element gives a list
pub each_tokens : {X : Type 0} (f : X → List Json) (xs : List X) → flat_map json_tokens (flat_map f xs) ≡ flat_map (λ x. flat_map json_tokens (f x)) xs
each_tokens f [] = refl
each_tokens f (x ∷ xs) = flat_map-append json_tokens (f x) (flat_map f xs) ∙ ap (λ ts. flat_map json_tokens (f x) ++ ts) (each_tokens f xs)

-- an array of elements as the code has them
pub viewed_array : {X Y : Type 0} (view : X → Y) (f : Y → Json) (xs : List X)
    → begin_array ∷ (flat_map (λ x. json_tokens (f (view x))) xs ++ end_array ∷ []) ≡ json_tokens (array_of (map f (map view xs)))
viewed_array view f xs = ap (λ ts. begin_array ∷ (ts ++ end_array ∷ [])) (same xs) ∙ array_is (map f (map view xs)) where
  same : (ys : List _) → flat_map (λ x. json_tokens (f (view x))) ys ≡ flat_map json_tokens (map f (map view ys))
  same [] = refl
  same (y ∷ ys) = ap (λ ts. json_tokens (f (view y)) ++ ts) (same ys)

-- and of lists of which each element gives one
pub each_array : {X : Type 0} (f : X → List Json) (xs : List X)
    → begin_array ∷ (flat_map (λ x. flat_map json_tokens (f x)) xs ++ end_array ∷ []) ≡ json_tokens (array_of (flat_map f xs))
each_array f xs = ap (λ ts. begin_array ∷ (ts ++ end_array ∷ [])) (sym (each_tokens f xs)) ∙ array_is (flat_map f xs)

-- of two lists, of which the first is of elements
pub array_of_both : {X : Type 0} (f : X → Json) (xs : List X) (ts : List Token) (js : List Json) → ts ≡ flat_map (λ x. json_tokens (f x)) xs
    → begin_array ∷ (ts ++ (flat_map json_tokens js ++ end_array ∷ [])) ≡ json_tokens (array_of (map f xs ++ js))
array_of_both f xs ts js is =
    ap (λ us. begin_array ∷ (us ++ (flat_map json_tokens js ++ end_array ∷ []))) (is ∙ sym (mapped_tokens f xs))
    ∙ ap (λ us. begin_array ∷ us) (sym (append_assoc (flat_map json_tokens (map f xs)) (flat_map json_tokens js) (end_array ∷ []))
    ∙ ap (λ us. us ++ end_array ∷ []) (sym (flat_map-append json_tokens (map f xs) js)))
    ∙ array_is (map f xs ++ js)

-- an object whose members are in two parts
pub object_in_parts : (ms ns : List (List ℕ × Json)) → begin_object ∷ ((list_tokens ms ++ list_tokens ns) ++ end_object ∷ []) ≡ flat_map json_tokens (object_of (ms ++ ns) ∷ [])
object_in_parts ms ns =
    ap (λ ts. begin_object ∷ (ts ++ end_object ∷ [])) (sym (flat_map-append member_tokens ms ns)) ∙ object_is (ms ++ ns)
    ∙ sym (append-nil (json_tokens (object_of (ms ++ ns))))

-- members in four parts
pub members_joined : (ks ls ms ns : List (List ℕ × Json))
    → (list_tokens ks ++ (list_tokens ls ++ list_tokens ms)) ++ list_tokens ns ≡ list_tokens (ks ++ (ls ++ (ms ++ ns)))
members_joined ks ls ms ns =
    append_assoc (list_tokens ks) (list_tokens ls ++ list_tokens ms) (list_tokens ns)
    ∙ ap (λ ts. list_tokens ks ++ ts) (append_assoc (list_tokens ls) (list_tokens ms) (list_tokens ns)
    ∙ ap (λ ts. list_tokens ls ++ ts) (sym (flat_map-append member_tokens ms ns)) ∙ sym (flat_map-append member_tokens ls (ms ++ ns)))
    ∙ sym (flat_map-append member_tokens ks (ls ++ (ms ++ ns)))

-- the last token that is written
pub last_write : {E : Type 0} (r : Result (Unit {0}) E) (old new : Written) (t : Token) → Writes r old new t → OnOk r (AppendsTokens old new (t ∷ []))
last_write (Ok x) old new t h = record { before = h.room.0; all = h.ok }
last_write (Err e) old new t h = tt

-- the same where the last write may fail
pub as_last : {E : Type 0} (r : Result (Unit {0}) E) (old new : Written) (xs ys : List Token) → xs ≡ ys → OnOk r (AppendsTokens old new xs) → OnOk r (AppendsTokens old new ys)
as_last (Ok x) old new xs ys same h = as_tokens old new xs ys same h
as_last (Err e) old new xs ys same h = tt

-- and before nothing more
pub as_end : {E : Type 0} (r : Result (Unit {0}) E) (old new : Written) (xs : List Token) → OnOk r (AppendsTokens old new xs) → OnOk r (AppendsTokens old new (xs ++ []))
as_end r old new xs h = as_last r old new xs (xs ++ []) (sym (append-nil xs)) h
