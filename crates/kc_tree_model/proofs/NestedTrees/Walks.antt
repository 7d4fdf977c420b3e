-- The context of each place of a nested tree is that of the blocks open there.
use Rattle.kc_tree_model.proofs.Common.{◌≡◌, ℕ, suc, List, [], ◌∷◌, ◌++◌, reverse, refl, ap, sym, ◌∙◌, append_assoc, append-nil, Group, side_of, opening, closing, open_blocks, GroupInContext, group_in_context, groups_in_context, Items, none, entry, block, listing, IsNested}
use Rattle.std.proofs.lemmas.List.{reverse-append, reverse-reverse}
use Rattle.kc_tree_model.specs.NestedTrees.{walk}
use Rattle.kc_tree_model.proofs.NestedTrees.OpenBlocks.{open_inside, open_closing, open_opening, pushed, ends_closing, ends_opening}

-- these groups in reading order added to groups that were read (newest first)
abbrev pub onto : List Group → List Group → List Group
onto [] before = before
onto (g ∷ gs) before = onto gs (g ∷ before)

abbrev pub contexts_after : List Group → List Group → List GroupInContext
contexts_after before [] = []
contexts_after before (g ∷ gs) = group_in_context (open_blocks 0 before) g ∷ contexts_after (g ∷ before) gs

pub placed-onto : (gs before : List Group) → groups_in_context (onto gs before) ≡ groups_in_context before ++ contexts_after before gs
placed-onto [] before = sym (append-nil (groups_in_context before))
placed-onto (g ∷ gs) before =
    placed-onto gs (g ∷ before) ∙ append_assoc (groups_in_context before) (group_in_context (open_blocks 0 before) g ∷ []) (contexts_after (g ∷ before) gs)

pub onto-append : (gs hs before : List Group) → onto (gs ++ hs) before ≡ onto hs (onto gs before)
onto-append [] hs before = refl
onto-append (g ∷ gs) hs before = onto-append gs hs (g ∷ before)

pub onto-reverse : (gs before : List Group) → onto gs before ≡ reverse gs ++ before
onto-reverse [] before = refl
onto-reverse (g ∷ gs) before =
    onto-reverse gs (g ∷ before) ∙ sym (ap (λ hs. hs ++ before) (reverse-append (g ∷ []) gs) ∙ append_assoc (reverse gs) (g ∷ []) before)

-- groups that are added in reading order to nothing are the reverse of what results
pub listed_of : (gs read : List Group) → onto gs [] ≡ read → gs ≡ reverse read
listed_of gs read e = sym (reverse-reverse gs) ∙ ap reverse (sym (append-nil (reverse gs)) ∙ sym (onto-reverse gs []) ∙ e)

after-append : (gs hs before : List Group) → contexts_after before (gs ++ hs) ≡ contexts_after before gs ++ contexts_after (onto gs before) hs
after-append [] hs before = refl
after-append (g ∷ gs) hs before = ap (λ ps. group_in_context (open_blocks 0 before) g ∷ ps) (after-append gs hs (g ∷ before))

-- the groups of a whole nested tree leave the blocks open that were open before it
pub open-listing : (t : Items) (n : ℕ) (before : List Group) → IsNested t → open_blocks n (onto (listing t) before) ≡ open_blocks n before
open-listing none n before h = refl
open-listing (entry g rest) n before h = open-listing rest n (g ∷ before) h.1 ∙ open_inside n g before h.0
open-listing (block g w e rest) n before h =
    ap (open_blocks n) (onto-append (listing w) (e ∷ listing rest) (g ∷ before))
    ∙ open-listing rest n (e ∷ onto (listing w) (g ∷ before)) h.2
    ∙ open_closing n e (onto (listing w) (g ∷ before)) (ends_closing g.head e.head h.0)
    ∙ open-listing w (suc n) (g ∷ before) h.1
    ∙ open_opening n g before (ends_opening g.head e.head h.0)

-- so it is the walk down the tree
walk-listing : (t : Items) (before : List Group) → IsNested t → contexts_after before (listing t) ≡ walk (open_blocks 0 before) t
walk-listing none before h = refl
walk-listing (entry g rest) before h =
    ap (λ ps. group_in_context (open_blocks 0 before) g ∷ ps) (walk-listing rest (g ∷ before) h.1 ∙ ap (λ os. walk os rest) (open_inside 0 g before h.0))
walk-listing (block g w e rest) before h =
    let after : List Group = onto (listing w) (g ∷ before) in
    let path : List Group = open_blocks 0 before in
    let opens : side_of g.head ≡ opening = ends_opening g.head e.head h.0 in
    let closes : side_of e.head ≡ closing = ends_closing g.head e.head h.0 in
    let there : open_blocks 0 after ≡ g ∷ path = open-listing w 0 (g ∷ before) h.1 ∙ pushed g before opens in
    let back : open_blocks 0 (e ∷ after) ≡ path = open_closing 0 e after closes ∙ open-listing w 1 (g ∷ before) h.1 ∙ open_opening 0 g before opens in
    ap (λ ps. group_in_context path g ∷ ps)
    (after-append (listing w) (e ∷ listing rest) (g ∷ before)
    ∙ ap (λ ps. ps ++ contexts_after after (e ∷ listing rest)) (walk-listing w (g ∷ before) h.1 ∙ ap (λ os. walk os w) (pushed g before opens))
    ∙ ap (λ os. walk (g ∷ path) w ++ group_in_context os e ∷ contexts_after (e ∷ after) (listing rest)) there
    ∙ ap (λ ps. walk (g ∷ path) w ++ group_in_context (g ∷ path) e ∷ ps) (walk-listing rest (e ∷ after) h.2 ∙ ap (λ os. walk os rest) back))

pub placed-listing : (t : Items) → IsNested t → groups_in_context (onto (listing t) []) ≡ walk [] t
placed-listing t h = placed-onto (listing t) [] ∙ walk-listing t [] h
