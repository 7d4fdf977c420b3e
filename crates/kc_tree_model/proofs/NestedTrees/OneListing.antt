-- Two nested trees with one listing are equal.
use Rattle.kc_tree_model.proofs.Common.{◌≡◌, List, [], ◌∷◌, ◌++◌, refl, ap, sym, ◌∙◌, append_assoc, append-nil, Group, side_of, opening, closing, inside, Items, none, entry, block, listing, IsNested}
use Rattle.kc_tree_model.proofs.NestedTrees.OpenBlocks.{ends_closing, ends_opening}

-- a list that begins with the end of a block, or is empty
abbrev Stops : List Group → Type 0
Stops [] = Unit {0}
Stops (g ∷ gs) = side_of g.head ≡ closing

-- a group that opens a block or is inside one ends none
not_inside : (g h : Group) → g ≡ h → side_of g.head ≡ inside → side_of h.head ≡ closing → ⊥
not_inside g h e a b = let k : side_of g.head ≡ side_of h.head = ap (λ (x : Group). side_of x.head) e in cc

not_opening : (g h : Group) → g ≡ h → side_of g.head ≡ opening → side_of h.head ≡ closing → ⊥
not_opening g h e a b = let k : side_of g.head ≡ side_of h.head = ap (λ (x : Group). side_of x.head) e in cc

not_both : (g h : Group) → g ≡ h → side_of g.head ≡ inside → side_of h.head ≡ opening → ⊥
not_both g h e a b = let k : side_of g.head ≡ side_of h.head = ap (λ (x : Group). side_of x.head) e in cc

head_of : (d : Group) → List Group → Group
head_of d [] = d
head_of d (g ∷ gs) = g

tail_of : List Group → List Group
tail_of [] = []
tail_of (g ∷ gs) = gs

first_same : {g h : Group} {gs hs : List Group} → g ∷ gs ≡ h ∷ hs → g ≡ h
unfolding head_of
first_same {g} e = ap (head_of g) e

rest_same : {g h : Group} {gs hs : List Group} → g ∷ gs ≡ h ∷ hs → gs ≡ hs
unfolding tail_of
rest_same e = ap tail_of e

regroup : (g e : Group) (w : Items) (rest xs : List Group) → (listing w ++ e ∷ rest) ++ xs ≡ listing w ++ (e ∷ (rest ++ xs))
regroup g e w rest xs = append_assoc (listing w) (e ∷ rest) xs

-- where two listings, each before the end of a block, are one, the trees are and what follows is
one_listing : (t u : Items) (xs ys : List Group) → IsNested t → IsNested u → Stops xs → Stops ys → listing t ++ xs ≡ listing u ++ ys → (t ≡ u) × (xs ≡ ys)
one_listing none none xs ys n m a b e = (refl, e)
one_listing none (entry g rest) [] ys n m a b e = cc
one_listing none (entry g rest) (x ∷ xs) ys n m a b e = absurd (not_inside g x (sym (first_same e)) m.0 a)
one_listing none (block g w k rest) [] ys n m a b e = cc
one_listing none (block g w k rest) (x ∷ xs) ys n m a b e = absurd (not_opening g x (sym (first_same e)) (ends_opening g.head k.head m.0) a)
one_listing (entry g rest) none xs [] n m a b e = cc
one_listing (entry g rest) none xs (y ∷ ys) n m a b e = absurd (not_inside g y (first_same e) n.0 b)
one_listing (entry g rest) (entry h rest') xs ys n m a b e =
    let r : (rest ≡ rest') × (xs ≡ ys) = one_listing rest rest' xs ys n.1 m.1 a b (rest_same e) in
    (ap (λ x. entry x rest) (first_same e) ∙ ap (entry h) r.0, r.1)
one_listing (entry g rest) (block h w k rest') xs ys n m a b e = absurd (not_both g h (first_same e) n.0 (ends_opening h.head k.head m.0))
one_listing (block g w k rest) none xs [] n m a b e = cc
one_listing (block g w k rest) none xs (y ∷ ys) n m a b e = absurd (not_opening g y (first_same e) (ends_opening g.head k.head n.0) b)
one_listing (block g w k rest) (entry h rest') xs ys n m a b e = absurd (not_both h g (sym (first_same e)) m.0 (ends_opening g.head k.head n.0))
one_listing (block g w k rest) (block h w' k' rest') xs ys n m a b e =
    let same : listing w ++ (k ∷ (listing rest ++ xs)) ≡ listing w' ++ (k' ∷ (listing rest' ++ ys)) = sym (regroup g k w (listing rest) xs) ∙ rest_same e
    ∙ regroup h k' w' (listing rest') ys in
    let inner : (w ≡ w') × (k ∷ (listing rest ++ xs) ≡ k' ∷ (listing rest' ++ ys)) = one_listing w w' (k ∷ (listing rest ++ xs)) (k' ∷ (listing rest' ++ ys))
    n.1 m.1 (ends_closing g.head k.head n.0) (ends_closing h.head k'.head m.0) same in
    let outer : (rest ≡ rest') × (xs ≡ ys) = one_listing rest rest' xs ys n.2 m.2 a b (rest_same inner.1) in (
      ap (λ x. block x w k rest) (first_same e) ∙ ap (λ x. block h x k rest) inner.0 ∙ ap (λ x. block h w' x rest) (first_same inner.1)
          ∙ ap (block h w' k') outer.0,
      outer.1,
    )

pub only_tree : (t u : Items) → IsNested t → IsNested u → listing t ≡ listing u → t ≡ u
only_tree t u n m e = (one_listing t u [] [] n m tt tt (append-nil (listing t) ∙ e ∙ sym (append-nil (listing u)))).0
