-- The open blocks as a stack: an opening pushes, and a closing pops.
use Rattle.std.proofs.Common.{drop-drop}
use Rattle.kc_tree_model.proofs.Common.{◌≡◌, ℕ, suc, zero, true, false, List, [], ◌∷◌, Option, None, refl, ap, sym, ◌∙◌, drop, arith, ◌+◌, config, choice, menu, condition, comment, source, mainmenu, ends, block_of_head, Block, Group, GroupHead, of_head, file_end, Side, side_of, opening, closing}
use Rattle.kc_tree_model.proofs.Common.{inside, open_blocks, is_ended_by}
use Rattle.kc_tree_model.specs.NestedTrees.{ends_block, is_file_end}

-- what ends a block closes it, and what it ends opens it
no_end : (e : GroupHead) → ends_block None e ≡ false
no_end (of_head (ends c)) = refl
no_end (of_head h) = refl
no_end file_end = refl

closes : (b : Option Block) (e : GroupHead) → ends_block b e ≡ true → side_of e ≡ closing
closes b (of_head (ends c)) h = refl
closes b (of_head x) h = cc
closes b file_end h = cc

closes_file : (e : GroupHead) → is_file_end e ≡ true → side_of e ≡ closing
closes_file (of_head x) h = cc
closes_file file_end h = refl

pub ends_closing : (b e : GroupHead) → is_ended_by b e ≡ true → side_of e ≡ closing
ends_closing (of_head (source path)) e h = closes_file e h
ends_closing (of_head x) e h = closes (block_of_head x) e h
ends_closing file_end e h = cc

pub ends_opening : (b e : GroupHead) → is_ended_by b e ≡ true → side_of b ≡ opening
ends_opening (of_head (config name)) e h = let k : ends_block None e ≡ false = no_end e in cc
ends_opening (of_head choice) e h = refl
ends_opening (of_head (menu title)) e h = refl
ends_opening (of_head (condition c)) e h = refl
ends_opening (of_head (comment title)) e h = let k : ends_block None e ≡ false = no_end e in cc
ends_opening (of_head (source path)) e h = refl
ends_opening (of_head mainmenu) e h = let k : ends_block None e ≡ false = no_end e in cc
ends_opening (of_head (ends b)) e h = let k : ends_block None e ≡ false = no_end e in cc
ends_opening file_end e h = cc

pub open_inside : (n : ℕ) (g : Group) (gs : List Group) → side_of g.head ≡ inside → open_blocks n (g ∷ gs) ≡ open_blocks n gs
open_inside n g gs e = rw (e, open_blocks) refl

pub open_closing : (n : ℕ) (g : Group) (gs : List Group) → side_of g.head ≡ closing → open_blocks n (g ∷ gs) ≡ open_blocks (suc n) gs
open_closing n g gs e = rw (e, open_blocks) refl

pub open_opening : (n : ℕ) (g : Group) (gs : List Group) → side_of g.head ≡ opening → open_blocks (suc n) (g ∷ gs) ≡ open_blocks n gs
open_opening n g gs e = rw (e, open_blocks) refl

pub pushed : (g : Group) (gs : List Group) → side_of g.head ≡ opening → open_blocks 0 (g ∷ gs) ≡ g ∷ open_blocks 0 gs
pushed g gs e = rw (e, open_blocks) refl

open-drop_by : (s : Side) (n : ℕ) (g : Group) (gs : List Group) → side_of g.head ≡ s → ((m : ℕ) → open_blocks m gs ≡ drop m (open_blocks 0 gs))
    → open_blocks n (g ∷ gs) ≡ drop n (open_blocks 0 (g ∷ gs))
open-drop_by inside n g gs e ih = open_inside n g gs e ∙ ih n ∙ ap (drop n) (sym (open_inside 0 g gs e))
open-drop_by closing n g gs e ih =
    open_closing n g gs e ∙ ih (suc n) ∙ sym (ap (drop n) (open_closing 0 g gs e ∙ ih 1) ∙ drop-drop n 1 (open_blocks 0 gs)
    ∙ ap (λ k. drop k (open_blocks 0 gs)) (let h : 1 + n ≡ suc n = omega arith in h))
open-drop_by opening zero g gs e ih = refl
open-drop_by opening (suc m) g gs e ih = open_opening m g gs e ∙ ih m ∙ sym (ap (drop (suc m)) (pushed g gs e))

pub open-drop : (n : ℕ) (gs : List Group) → open_blocks n gs ≡ drop n (open_blocks 0 gs)
open-drop zero [] = refl
open-drop (suc n) [] = refl
open-drop n (g ∷ gs) = open-drop_by (side_of g.head) n g gs refl (λ m. open-drop m gs)

pub popped : (g : Group) (gs : List Group) → side_of g.head ≡ closing → open_blocks 0 (g ∷ gs) ≡ drop 1 (open_blocks 0 gs)
popped g gs e = open_closing 0 g gs e ∙ open-drop 1 gs
