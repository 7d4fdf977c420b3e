-- The open blocks, by the stack and by the definition.
use Rattle.kc_parser.proofs.Common.{◌≡◌, ℕ, ◌+◌, ◌-◌, ◌<◌, Bool, ◌||◌, List, [], ◌∷◌, length, get_or, Option, Some, None, refl, ap, sym, ◌∙◌, subst, arith, cond, reverse, count_by, filter_map, slice_get, bytes_eq, list_any, get_or-reverse, length-reverse, slice_get-get_or, sum_by-cons, Group}
use Rattle.kc_parser.proofs.Common.{open_blocks, opened_block, sourced_path, opens_choice, is_some_block, innermost, Block, FileSource, is_in_list, open_files, at_file_end, OpenBlock, RepresentsOpenBlock, RepresentsOpenBlocks, IsCounted, fault_in, is_block, is_file, is_choice, block_kept}
use Rattle.std.proofs.lemmas.List.Sorted.{IsPermutation-reverse, list_any-IsPermutation, sum_by-IsPermutation}
use Rattle.kc_tree_model.specs.declared.fault.TreeKind.TheVariants.{Unclosed}
use Rattle.kc_tree_model.specs.declared.keyword.Block.TheVariants as blocks
use Rattle.kc_tree_model.specs.Blocks.{in_choice, innermost_of}
use Rattle.kc_parser.specs.declared.state.OpenBlock.TheVariants as opens
use Rattle.kc_parser.specs.checker.OpenBlockViews.{is_file_of, block_at}

block_choice : (b : Block) (l : ℕ) (c : Option ℕ) → is_choice (opens.Block b l c) ≡ is_some_block blocks.Choice (Some b)
block_choice blocks.Menu l c = refl
block_choice x l c = refl

choice_same : (texts : List (List ℕ)) (o : OpenBlock) (g : Group) → RepresentsOpenBlock texts o g → is_choice o ≡ opens_choice g
choice_same texts (opens.Block b l c) g h = rw h.0 (block_choice b l c)
choice_same texts (opens.Source t c) g h = rw h.2 refl

any_choice : (texts : List (List ℕ)) (os : List OpenBlock) (gs : List Group) → RepresentsOpenBlocks texts os gs
    → list_any is_choice os ≡ list_any opens_choice gs
any_choice texts [] [] h = refl
any_choice texts [] (g ∷ gs) h = absurd h
any_choice texts (o ∷ os) [] h = absurd h
any_choice texts (o ∷ os) (g ∷ gs) h = rw (choice_same texts o g h.0, any_choice texts os gs h.1) refl

block_more : (texts : List (List ℕ)) (o : OpenBlock) (g : Group) (m : ℕ) (bs : List Group) → RepresentsOpenBlock texts o g
    → m ≡ length (filter_map opened_block bs) → cond (is_block o) 1 0 + m ≡ length (filter_map opened_block (g ∷ bs))
block_more texts (opens.Block b l c) g m bs h e = rw h.0 (omega arith)
block_more texts (opens.Source t c) g m bs h e = rw h.2 (omega arith)

count_blocks : (texts : List (List ℕ)) (os : List OpenBlock) (gs : List Group) → RepresentsOpenBlocks texts os gs
    → count_by is_block os ≡ length (filter_map opened_block gs)
count_blocks texts [] [] h = refl
count_blocks texts [] (g ∷ gs) h = absurd h
count_blocks texts (o ∷ os) [] h = absurd h
count_blocks texts (o ∷ os) (g ∷ gs) h =
    sum_by-cons (λ p. cond (is_block p) 1 0) o os ∙ block_more texts o g (count_by is_block os) gs h.0 (count_blocks texts os gs h.1)

file_more : (texts : List (List ℕ)) (o : OpenBlock) (g : Group) (m : ℕ) (bs : List Group) → RepresentsOpenBlock texts o g
    → m ≡ length (filter_map sourced_path bs) → cond (is_file o) 1 0 + m ≡ length (filter_map sourced_path (g ∷ bs))
file_more texts (opens.Block b l c) g m bs h e = rw h.2 (omega arith)
file_more texts (opens.Source t c) g m bs h e = rw h.3 (omega arith)

count_files : (texts : List (List ℕ)) (os : List OpenBlock) (gs : List Group) → RepresentsOpenBlocks texts os gs
    → count_by is_file os ≡ length (filter_map sourced_path gs)
count_files texts [] [] h = refl
count_files texts [] (g ∷ gs) h = absurd h
count_files texts (o ∷ os) [] h = absurd h
count_files texts (o ∷ os) (g ∷ gs) h =
    sum_by-cons (λ p. cond (is_file p) 1 0) o os ∙ file_more texts o g (count_by is_file os) gs h.0 (count_files texts os gs h.1)

path_more : (texts : List (List ℕ)) (path : List ℕ) (o : OpenBlock) (g : Group) (r : Bool) (gs : List Group) → RepresentsOpenBlock texts o g
    → r ≡ is_in_list path (filter_map sourced_path gs) → (is_file_of texts path o || r) ≡ is_in_list path (filter_map sourced_path (g ∷ gs))
path_more texts path (opens.Block b l c) g r gs h e = rw h.2 e
path_more texts path (opens.Source t c) g r gs h e = rw (h.3, h.1, e) refl

any_path : (texts : List (List ℕ)) (path : List ℕ) (os : List OpenBlock) (gs : List Group) → RepresentsOpenBlocks texts os gs
    → list_any (is_file_of texts path) os ≡ is_in_list path (filter_map sourced_path gs)
any_path texts path [] [] h = refl
any_path texts path [] (g ∷ gs) h = absurd h
any_path texts path (o ∷ os) [] h = absurd h
any_path texts path (o ∷ os) (g ∷ gs) h = path_more texts path o g (list_any (is_file_of texts path) os) gs h.0 (any_path texts path os gs h.1)

last_by : (xs : List OpenBlock) → (0 < length xs) → (d : OpenBlock) → slice_get xs (length xs - 1) ≡ slice_get (reverse xs) 0
last_by xs h d =
    slice_get-get_or xs (length xs - 1) d (omega arith)
    ∙ ap Some (ap (λ i. get_or xs i d) (let e : length xs - 1 ≡ length xs - 1 - 0 = omega arith in e) ∙ sym (get_or-reverse xs 0 d h))
    ∙ sym (slice_get-get_or (reverse xs) 0 d (omega (arith, length-reverse xs)))

pub last_is : (xs : List OpenBlock) → slice_get xs (length xs - 1) ≡ slice_get (reverse xs) 0
last_is [] = refl
last_is (x ∷ xs) = last_by (x ∷ xs) (omega arith) x

-- the innermost open block by the reader's stack, with its line, is the one by the definition, or neither has one
abbrev pub IsInnermost : Option (Block × ℕ) → Option (Group × Block) → Type 0
IsInnermost None None = Unit {0}
IsInnermost (Some p) (Some q) = (q.1 ≡ p.0) × (q.0.at.line ≡ p.1)
IsInnermost p q = ⊥

innermost_top : (texts : List (List ℕ)) (os : List OpenBlock) (gs : List Group) → RepresentsOpenBlocks texts os gs
    → IsInnermost (block_at (slice_get os 0)) (innermost_of gs)
innermost_top texts [] [] h = tt
innermost_top texts [] (g ∷ gs) h = absurd h
innermost_top texts (o ∷ os) [] h = absurd h
innermost_top texts (opens.Block b l c ∷ os) (g ∷ gs) h = rw h.0.0 (refl, h.0.1)
innermost_top texts (opens.Source t c ∷ os) (g ∷ gs) h = rw h.0.2 tt

module _ (r : FileSource) (texts : List (List ℕ)) (opened : List OpenBlock) (choices files bytes : ℕ) (read : List Group)
    (h : IsCounted r texts opened choices files bytes read) where
  pub choice_open : list_any is_choice opened ≡ in_choice read
  choice_open =
      list_any-IsPermutation is_choice opened (reverse opened) (IsPermutation-reverse opened) ∙ any_choice texts (reverse opened) (open_blocks 0 read) h.stack

  pub blocks_are : count_by is_block opened ≡ length (filter_map opened_block (open_blocks 0 read))
  blocks_are =
      sym (sum_by-IsPermutation (λ p. cond (is_block p) 1 0) opened (reverse opened) (IsPermutation-reverse opened))
      ∙ count_blocks texts (reverse opened) (open_blocks 0 read) h.stack

  pub files_are_open : length (open_files r read) ≡ count_by is_file opened + 1
  files_are_open =
      let e = sym (sum_by-IsPermutation (λ p. cond (is_file p) 1 0) opened (reverse opened) (IsPermutation-reverse opened))
      ∙ count_files texts (reverse opened) (open_blocks 0 read) h.stack in
      omega (arith, e)

  pub path_open : (path : List ℕ) → is_in_list path (open_files r read) ≡ (bytes_eq r.root path || list_any (is_file_of texts path) opened)
  path_open path =
      ap (λ b. bytes_eq r.root path || b) (sym (list_any-IsPermutation (is_file_of texts path) opened (reverse opened) (IsPermutation-reverse opened)
      ∙ any_path texts path (reverse opened) (open_blocks 0 read) h.stack))

  pub innermost_is : IsInnermost (block_kept opened) (innermost read)
  innermost_is =
      subst (λ o. IsInnermost (block_at o) (innermost read)) (sym (last_is opened)) (innermost_top texts (reverse opened) (open_blocks 0 read) h.stack)

-- the end of a file has no fault if no block is open in the file
pub ended_none : (file : ℕ) (read : List Group) (p : Option (Block × ℕ)) (q : Option (Group × Block)) → IsInnermost p q → p ≡ None
    → (at_file_end file read q).fault ≡ None
ended_none file read None None h e = refl
ended_none file read None (Some q) h e = absurd h
ended_none file read (Some p) q h e = cc

pub ended_some : (file : ℕ) (read : List Group) (p : Option (Block × ℕ)) (q : Option (Group × Block)) (b : Block) (line : ℕ) → IsInnermost p q
    → p ≡ Some (b, line) → (at_file_end file read q).fault ≡ Some (fault_in file line Unclosed)
ended_some file read None q b line h e = cc
ended_some file read (Some p) None b line h e = absurd h
ended_some file read (Some p) (Some q) b line h e =
    let l : p.1 ≡ line = ap (λ (o : Option (Block × ℕ)). elim o [ None ↦ line | Some x ↦ x.1 ]) e in rw (h.1, l) refl
