-- A list in which each end matches the innermost open block is the listing of a nested tree with open ends.
use Rattle.kc_tree_model.proofs.Common.{◌≡◌, Bool, true, false, List, [], ◌∷◌, ◌++◌, refl, ap, sym, ◌∙◌, append_assoc, Group, GroupHead, Side, side_of, opening, closing, inside, open_blocks, Items, none, entry, block, listing, IsNested, is_ended_by}
use Rattle.kc_tree_model.proofs.NestedTrees.OpenBlocks.{pushed}
use Rattle.kc_tree_model.proofs.NestedTrees.Walks.{onto, onto-append, open-listing}

-- whether a group with this beginning ends the first of these blocks (innermost first)
abbrev pub ends_first : List Group → GroupHead → Bool
ends_first [] e = false
ends_first (g ∷ outer) e = is_ended_by g.head e

-- each end among these groups (newest first) matches the innermost block that is open before it
abbrev pub EndsMatch : List Group → Type 0
EndsMatch [] = Unit {0}
EndsMatch (g ∷ before) = (side_of g.head ≡ closing → ends_first (open_blocks 0 before) g.head ≡ true) × EndsMatch before

-- items after items
append : Items → Items → Items
append none u = u
append (entry g rest) u = entry g (append rest u)
append (block g w e rest) u = block g w e (append rest u)

listing-append : (t u : Items) → listing (append t u) ≡ listing t ++ listing u
unfolding append
listing-append none u = refl
listing-append (entry g rest) u = ap (λ gs. g ∷ gs) (listing-append rest u)
listing-append (block g w e rest) u =
    ap (λ gs. g ∷ (listing w ++ e ∷ gs)) (listing-append rest u) ∙ sym (ap (λ gs. g ∷ gs) (append_assoc (listing w) (e ∷ listing rest) (listing u)))

IsNested-append : (t u : Items) → IsNested t → IsNested u → IsNested (append t u)
unfolding append
IsNested-append none u h k = k
IsNested-append (entry g rest) u h k = (h.0, IsNested-append rest u h.1 k)
IsNested-append (block g w e rest) u h k = (h.0, h.1, IsNested-append rest u h.2 k)

-- a tree of which the last blocks are open: what is finished at the root, and of each open block its beginning and
-- what is finished in it
pub data Unfinished : Type 0 where
  root : Items → Unfinished
  level : Unfinished → Group → Items → Unfinished

abbrev listed : Unfinished → List Group
listed (root t) = listing t
listed (level o g t) = listed o ++ g ∷ listing t

abbrev IsNestedSoFar : Unfinished → Type 0
IsNestedSoFar (root t) = IsNested t
IsNestedSoFar (level o g t) = IsNestedSoFar o × (side_of g.head ≡ opening) × IsNested t

abbrev beginnings : Unfinished → List Group
beginnings (root t) = []
beginnings (level o g t) = g ∷ beginnings o

abbrev with_items : Unfinished → Items → Unfinished
with_items (root t) u = root (append t u)
with_items (level o g t) u = level o g (append t u)

listed-with_items : (o : Unfinished) (u : Items) → listed (with_items o u) ≡ listed o ++ listing u
listed-with_items (root t) u = listing-append t u
listed-with_items (level o g t) u = ap (λ gs. listed o ++ g ∷ gs) (listing-append t u) ∙ sym (append_assoc (listed o) (g ∷ listing t) (listing u))

nested_with_items : (o : Unfinished) (u : Items) → IsNestedSoFar o → IsNested u → IsNestedSoFar (with_items o u)
nested_with_items (root t) u h k = IsNested-append t u h k
nested_with_items (level o g t) u h k = (h.0, h.1, IsNested-append t u h.2 k)

-- the open blocks are those of the tree
open-listed : (o : Unfinished) → IsNestedSoFar o → open_blocks 0 (onto (listed o) []) ≡ beginnings o
open-listed (root t) h = open-listing t 0 [] h
open-listed (level o g t) h =
    ap (open_blocks 0) (onto-append (listed o) (g ∷ listing t) [])
    ∙ open-listing t 0 (g ∷ onto (listed o) []) h.2
    ∙ pushed g (onto (listed o) []) h.1
    ∙ ap (λ gs. g ∷ gs) (open-listed o h.0)

-- what was read, as such a tree
record Built (read : List Group) : Type 0 where
  tree : Unfinished
  nested : IsNestedSoFar tree
  is_listed : onto (listed tree) [] ≡ read

add_entry : (g : Group) (before : List Group) → side_of g.head ≡ inside → Built before → Built (g ∷ before)
add_entry g before e b = record {
  tree = with_items b.tree (entry g none);
  nested = nested_with_items b.tree (entry g none) b.nested (e, tt);
  is_listed = ap (λ gs. onto gs []) (listed-with_items b.tree (entry g none)) ∙ onto-append (listed b.tree) (g ∷ []) [] ∙ ap (λ r. g ∷ r) b.is_listed;
}

add_beginning : (g : Group) (before : List Group) → side_of g.head ≡ opening → Built before → Built (g ∷ before)
add_beginning g before e b = record {
  tree = level b.tree g none;
  nested = (b.nested, e, tt);
  is_listed = onto-append (listed b.tree) (g ∷ []) [] ∙ ap (λ r. g ∷ r) b.is_listed;
}

add_end_to : (o : Unfinished) (e : Group) (before : List Group) → IsNestedSoFar o → onto (listed o) [] ≡ before
    → ends_first (open_blocks 0 before) e.head ≡ true
    → Built (e ∷ before)
add_end_to (root t) e before n l h =
    let none_open : open_blocks 0 before ≡ [] = ap (open_blocks 0) (sym l) ∙ open-listed (root t) n in
    let not_ended : ends_first (open_blocks 0 before) e.head ≡ false = ap (λ gs. ends_first gs e.head) none_open in
    cc
add_end_to (level o g t) e before n l h =
    let innermost : open_blocks 0 before ≡ g ∷ beginnings o = ap (open_blocks 0) (sym l) ∙ open-listed (level o g t) n in
    let matched : is_ended_by g.head e.head ≡ true = sym (ap (λ gs. ends_first gs e.head) innermost) ∙ h in
    record {
      tree = with_items o (block g t e none);
      nested = nested_with_items o (block g t e none) n.0 (matched, n.2, tt);
      is_listed =
          ap (λ gs. onto gs []) (listed-with_items o (block g t e none))
          ∙ onto-append (listed o) (g ∷ (listing t ++ e ∷ [])) []
          ∙ onto-append (listing t) (e ∷ []) (g ∷ onto (listed o) [])
          ∙ ap (λ r. e ∷ r) (sym (onto-append (listed o) (g ∷ listing t) []) ∙ l);
    }

add_group : (s : Side) (g : Group) (before : List Group) → side_of g.head ≡ s → (side_of g.head ≡ closing → ends_first (open_blocks 0 before) g.head ≡ true)
    → Built before → Built (g ∷ before)
add_group inside g before e h b = add_entry g before e b
add_group opening g before e h b = add_beginning g before e b
add_group closing g before e h b = add_end_to b.tree g before b.nested b.is_listed (h e)

built : (read : List Group) → EndsMatch read → Built read
built [] h = record { tree = root none; nested = tt; is_listed = refl }
built (g ∷ before) h = add_group (side_of g.head) g before refl h.0 (built before h.1)

-- with no block open, it is a nested tree
finished : (o : Unfinished) (read : List Group) → IsNestedSoFar o → onto (listed o) [] ≡ read → open_blocks 0 read ≡ []
    → (t : Items) × IsNested t × (onto (listing t) [] ≡ read)
finished (root t) read n l h = (t, n, l)
finished (level o g t) read n l h =
    let innermost : open_blocks 0 read ≡ g ∷ beginnings o = ap (open_blocks 0) (sym l) ∙ open-listed (level o g t) n in
    cc

pub nested_tree : (read : List Group) → EndsMatch read → open_blocks 0 read ≡ [] → (t : Items) × IsNested t × (onto (listing t) [] ≡ read)
nested_tree read h k = let b = built read h in finished b.tree read b.nested b.is_listed k
