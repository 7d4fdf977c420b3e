-- The choices of the open blocks, by the reader's stack and by the groups of the listing.
use Rattle.kc_parser.proofs.Common.{◌≡◌, ◌↔◌, ℕ, ◌<◌, Bool, true, false, List, [], ◌∷◌, ◌++◌, length, drop, map, Option, Some, None, refl, ap, sym, ◌∙◌, arith, append-nil, reverse, filter, IsSome, Exprs, same_block, choice, Block, Group, GroupHead, of_head, from_head, opens_choice, OpenBlock}
use Rattle.kc_parser.proofs.Common.{RepresentsHead, RepresentsGroups, begins_choice, choice_in, choice_kept, choices_opened, choices_opened_after, innermost_choice, is_choice_code, cond}
use Rattle.std.specs.Prelude.{option_to_list, slice_get}
use Rattle.kc_tree_model.specs.Blocks.{side_of, closing, inside}
use Rattle.kc_tree_model.specs.Statements.{block_of_head}
use Rattle.kc_tree_model.specs.declared.keyword.Block.TheVariants as blocks
use Rattle.kc_parser.specs.declared.listing.Group.{Group as CodeGroup}
use Rattle.kc_parser.specs.declared.listing.Line.{Line as CodeLine}
use Rattle.kc_parser.specs.declared.listing.GroupHead.{GroupHead as CodeHead}
use Rattle.kc_parser.specs.declared.listing.GroupHead.TheVariants as codes
use Rattle.kc_parser.specs.checker.OpenBlockViews.{choice_at}
use Rattle.kc_parser.proofs.AppendSteps.{reverse_push}
use Rattle.kc_parser.proofs.OpenBlockSteps.{last_is}

-- a group opens a choice exactly if its stored statement is a `choice`
pub begins_is : (e : Exprs) (names texts : List (List ℕ)) (what : CodeHead) (g : Group) → RepresentsHead e names texts what g.head
    → opens_choice g ≡ is_choice_code what
begins_is e names texts (codes.Config s) g h = rw h.2 refl
begins_is e names texts (codes.Menu t) g h = rw h.2 refl
begins_is e names texts (codes.Condition id) g h = rw h.1 refl
begins_is e names texts (codes.Comment t) g h = rw h.2 refl
begins_is e names texts (codes.Source t) g h = rw h.2 refl
begins_is e names texts x g h = rw h refl

-- there are as many `choice`s among the groups of a listing as among those of the model
one_more : (a b : Bool) (g : CodeGroup) (m : Group) (gs : List CodeGroup) (ms : List Group) → b ≡ a → length gs ≡ length ms
    → length (cond a (g ∷ gs) gs) ≡ length (cond b (m ∷ ms) ms)
one_more true true g m gs ms e n = omega (arith, n)
one_more false false g m gs ms e n = n
one_more true false g m gs ms e n = cc
one_more false true g m gs ms e n = cc

pub as_many_choices : (e : Exprs) (names texts : List (List ℕ)) (lines : List CodeLine) (end : ℕ) (gs : List CodeGroup) (ms : List Group)
    → RepresentsGroups e names texts lines end gs ms → length (filter begins_choice gs) ≡ length (filter opens_choice ms)
as_many_choices e names texts lines end [] [] h = refl
as_many_choices e names texts lines end [] (m ∷ ms) h = absurd h
as_many_choices e names texts lines end (g ∷ gs) [] h = absurd h
as_many_choices e names texts lines end (g ∷ gs) (m ∷ ms) h =
    one_more (begins_choice g) (opens_choice m) g m (filter begins_choice gs) (filter opens_choice ms) (begins_is e names texts g.head m h.0.head)
    (as_many_choices e names texts lines g.attributes gs ms h.2)

-- no block is open where no group was read
pub none_open : (e : Exprs) (names texts : List (List ℕ)) (lines : List CodeLine) (end : ℕ) (gs : List CodeGroup)
    → RepresentsGroups e names texts lines end gs [] → choices_opened gs ≡ []
none_open e names texts lines end [] h = refl
none_open e names texts lines end (g ∷ gs) h = absurd h

-- what a statement does to the choices of the open blocks, by its side
module _ (e : Exprs) (names texts : List (List ℕ)) (n : ℕ) (os : List (Option ℕ)) where
  pub closes_one : (what : CodeHead) (m : GroupHead) → RepresentsHead e names texts what m → side_of m ≡ closing → choices_opened_after what n os ≡ drop 1 os
  closes_one (codes.Config s) m h c = let x = sym (ap side_of h.2) ∙ c in cc
  closes_one codes.Choice m h c = let x = sym (ap side_of h) ∙ c in cc
  closes_one (codes.Menu t) m h c = let x = sym (ap side_of h.2) ∙ c in cc
  closes_one (codes.Condition id) m h c = let x = sym (ap side_of h.1) ∙ c in cc
  closes_one (codes.Comment t) m h c = let x = sym (ap side_of h.2) ∙ c in cc
  closes_one (codes.Source t) m h c = let x = sym (ap side_of h.2) ∙ c in cc
  closes_one codes.Mainmenu m h c = let x = sym (ap side_of h) ∙ c in cc
  closes_one (codes.Ends b) m h c = refl
  closes_one codes.FileEnd m h c = refl

  pub opens_none : (what : CodeHead) (m : GroupHead) → RepresentsHead e names texts what m → side_of m ≡ inside → choices_opened_after what n os ≡ os
  opens_none (codes.Config s) m h c = refl
  opens_none codes.Choice m h c = let x = sym (ap side_of h) ∙ c in cc
  opens_none (codes.Menu t) m h c = let x = sym (ap side_of h.2) ∙ c in cc
  opens_none (codes.Condition id) m h c = let x = sym (ap side_of h.1) ∙ c in cc
  opens_none (codes.Comment t) m h c = refl
  opens_none (codes.Source t) m h c = let x = sym (ap side_of h.2) ∙ c in cc
  opens_none codes.Mainmenu m h c = refl
  opens_none (codes.Ends b) m h c = let x = sym (ap side_of h) ∙ c in cc
  opens_none codes.FileEnd m h c = let x = sym (ap side_of h) ∙ c in cc

  no_choice : (m : GroupHead) (b : Block) → from_head block_of_head m ≡ Some b → same_block blocks.Choice b ≡ false → m ≡ of_head choice → ⊥
  no_choice m b w other h =
      let same : Some blocks.Choice ≡ Some b = sym (ap (from_head block_of_head) h) ∙ w in
      let c : blocks.Choice ≡ b = cc in
      let t : true ≡ false = ap (same_block blocks.Choice) c ∙ other in
      cc

  pub opens_block : (what : CodeHead) (m : GroupHead) (b : Block) → RepresentsHead e names texts what m → from_head block_of_head m ≡ Some b
      → same_block blocks.Choice b ≡ false → choices_opened_after what n os ≡ innermost_choice os ∷ os
  opens_block (codes.Config s) m b h w other = let x = sym (ap (from_head block_of_head) h.2) ∙ w in cc
  opens_block codes.Choice m b h w other = absurd (no_choice m b w other h)
  opens_block (codes.Menu t) m b h w other = refl
  opens_block (codes.Condition id) m b h w other = refl
  opens_block (codes.Comment t) m b h w other = let x = sym (ap (from_head block_of_head) h.2) ∙ w in cc
  opens_block (codes.Source t) m b h w other = refl
  opens_block codes.Mainmenu m b h w other = let x = sym (ap (from_head block_of_head) h) ∙ w in cc
  opens_block (codes.Ends k) m b h w other = let x = sym (ap (from_head block_of_head) h) ∙ w in cc
  opens_block codes.FileEnd m b h w other = let x = sym (ap (from_head block_of_head) h) ∙ w in cc

-- the choice of the innermost open block
top_is : (os : List OpenBlock) → choice_at (slice_get os 0) ≡ innermost_choice (map choice_in os)
top_is [] = refl
top_is (o ∷ os) = refl

pub enclosing_is : (opened : List OpenBlock) (os : List (Option ℕ)) → map choice_in (reverse opened) ≡ os → choice_kept opened ≡ innermost_choice os
enclosing_is opened os e = ap choice_at (last_is opened) ∙ top_is (reverse opened) ∙ ap innermost_choice e

-- the choices of the open blocks after one was put on the stack or taken off it
pushed_choices : (old new : List OpenBlock) (o : OpenBlock) → new ≡ old ++ o ∷ [] → map choice_in (reverse new) ≡ choice_in o ∷ map choice_in (reverse old)
pushed_choices old new o e = ap (λ os. map choice_in (reverse os)) e ∙ ap (map choice_in) (reverse_push old o)

pub opened_choices : (old new : List OpenBlock) (o : OpenBlock) (x : Option ℕ) (os : List (Option ℕ)) → new ≡ old ++ o ∷ [] → choice_in o ≡ x
    → map choice_in (reverse old) ≡ os → map choice_in (reverse new) ≡ x ∷ os
opened_choices old new o x os e c s = pushed_choices old new o e ∙ ap (λ y. y ∷ map choice_in (reverse old)) c ∙ ap (λ ys. x ∷ ys) s

pub popped_choices : (old new : List OpenBlock) (o : Option OpenBlock) → old ≡ new ++ option_to_list o → IsSome o ↔ (0 < length old)
    → map choice_in (reverse new) ≡ drop 1 (map choice_in (reverse old))
popped_choices old new (Some o) e v = sym (ap (drop 1) (pushed_choices new old o e))
popped_choices [] new None e v = ap (λ os. map choice_in (reverse os)) (sym (append-nil new) ∙ sym e)
popped_choices (o ∷ old) new None e v = let f : false ≡ true = v.1 (omega arith) in cc
