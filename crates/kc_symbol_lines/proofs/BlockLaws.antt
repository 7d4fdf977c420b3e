-- The blocks around each group.
use Rattle.std.proofs.Common.{below_more, length-append}
use Rattle.std.proofs.Math.Seq.{get_or-append_seam}
use Rattle.std.proofs.lemmas.List.{get_or_append_left}
use Rattle.kc_symbol_lines.proofs.Common.{◌≡◌, ℕ, suc, ◌+◌, ◌<◌, List, [], ◌∷◌, ◌++◌, length, drop, map, Option, Some, None, refl, ap, sym, ◌∙◌, subst, arith, unwrap_or, option_map, IfSome, All, All-nil, All-cons, Exprs, RepresentsHead, Group, side_of, opening, closing, inside, open_blocks}
use Rattle.kc_symbol_lines.proofs.Common.{read_before, block_at, block_after, IsChain, open_numbers, HasBlocksTo, unwrap_or-slice_get, CodeHead}
use Rattle.kc_parser.specs.declared.listing.GroupHead.TheVariants as codes
use Rattle.kc_tree_model.proofs.NestedTrees.OpenBlocks.{pushed, popped, open_inside}
use Rattle.kc_symbol_lines.specs.checker.Blocks.{outer_block}

pub kept_at : (blocks : List (Option ℕ)) (x : Option ℕ) (i : ℕ) → i < length blocks → block_at (blocks ++ x ∷ []) i ≡ block_at blocks i
kept_at blocks x i h =
    unwrap_or-slice_get (blocks ++ x ∷ []) i None ∙ get_or_append_left blocks (x ∷ []) None i h ∙ sym (unwrap_or-slice_get blocks i None)

new_at : (blocks : List (Option ℕ)) (x : Option ℕ) (i : ℕ) → i ≡ length blocks → block_at (blocks ++ x ∷ []) i ≡ x
new_at blocks x i e =
    ap (block_at (blocks ++ x ∷ [])) e ∙ unwrap_or-slice_get (blocks ++ x ∷ []) (length blocks) None ∙ get_or-append_seam blocks x [] None

-- a chain stays one as blocks are appended
pub chain_more : (blocks : List (Option ℕ)) (x block : Option ℕ) (numbers : List ℕ) → IsChain blocks block numbers → IsChain (blocks ++ x ∷ []) block numbers
chain_more blocks x None [] h = tt
chain_more blocks x None (n ∷ outer) h = absurd h
chain_more blocks x (Some b) [] h = absurd h
chain_more blocks x (Some b) (n ∷ outer) h =
    let k = kept_at blocks x n h.1 in
    let l = length-append blocks (x ∷ []) in (
      h.0,
      omega (arith, h.1, l),
      subst (λ o. IfSome o (λ m. m < n)) (sym k) h.2,
      subst (λ o. IsChain (blocks ++ x ∷ []) o outer) (sym k) (chain_more blocks x (block_at blocks n) outer h.3),
    )

-- a block is among those that are held
chain_within : (blocks : List (Option ℕ)) (block : Option ℕ) (numbers : List ℕ) → IsChain blocks block numbers → IfSome block (λ b. b < length blocks)
chain_within blocks None [] h = tt
chain_within blocks None (n ∷ outer) h = tt
chain_within blocks (Some b) [] h = absurd h
chain_within blocks (Some b) (n ∷ outer) h = subst (λ k. k < length blocks) (sym h.0) h.1

pub chain_below : (blocks : List (Option ℕ)) (block : Option ℕ) (numbers : List ℕ) → IsChain blocks block numbers → All (λ b. b < length blocks) numbers
chain_below blocks None [] h = All-nil (λ b. b < length blocks)
chain_below blocks None (n ∷ outer) h = absurd h
chain_below blocks (Some b) [] h = absurd h
chain_below blocks (Some b) (n ∷ outer) h = All-cons (λ k. k < length blocks) n outer h.1 (chain_below blocks (block_at blocks n) outer h.3)

-- the chain of the next block
pub chain_outer : (blocks : List (Option ℕ)) (block : Option ℕ) (numbers : List ℕ) → IsChain blocks block numbers → IsChain blocks (outer_block blocks block) (drop 1 numbers)
chain_outer blocks None [] h = tt
chain_outer blocks None (n ∷ outer) h = absurd h
chain_outer blocks (Some b) [] h = absurd h
chain_outer blocks (Some b) (n ∷ outer) h = subst (λ k. IsChain blocks (block_at blocks k) outer) (sym h.0) h.3

pub chain_first : (blocks : List (Option ℕ)) (b : ℕ) (numbers : List ℕ) → IsChain blocks (Some b) numbers → numbers ≡ b ∷ drop 1 numbers
chain_first blocks b [] h = absurd h
chain_first blocks b (n ∷ outer) h = ap (λ k. k ∷ outer) (sym h.0)

pub chain_falls : (blocks : List (Option ℕ)) (b : ℕ) (numbers : List ℕ) → IsChain blocks (Some b) numbers → IfSome (outer_block blocks (Some b)) (λ k. k < b)
chain_falls blocks b [] h = absurd h
chain_falls blocks b (n ∷ outer) h = subst (λ m. IfSome (block_at blocks m) (λ k. k < m)) (sym h.0) h.2

pub chain_none : (blocks : List (Option ℕ)) (numbers : List ℕ) → IsChain blocks None numbers → numbers ≡ []
chain_none blocks [] h = refl
chain_none blocks (n ∷ outer) h = absurd h

-- the steps outward from a block, at most
abbrev pub steps : Option ℕ → ℕ
steps o = unwrap_or (option_map suc o) 0

pub fewer_steps : (o : Option ℕ) (b : ℕ) → IfSome o (λ k. k < b) → steps o < steps (Some b)
fewer_steps None b h = omega arith
fewer_steps (Some k) b h = omega arith

pub none_left : (o : Option ℕ) → ((n : ℕ) → o ≡ Some n → ⊥) → o ≡ None
none_left None h = refl
none_left (Some n) h = absurd (h n refl)

-- the blocks around the first `i` groups, and the block that is open after them
pub record IsWalked (i : ℕ) (blocks : List (Option ℕ)) (block : Option ℕ) (read : List Group) : Type 0 where
  pub before : HasBlocksTo i blocks read
  pub now : IsChain blocks block (open_numbers read i)

module _ (i : ℕ) (blocks : List (Option ℕ)) (block : Option ℕ) (read : List Group) (g : Group) (w : IsWalked i blocks block read)
    (number : g.number ≡ i) (now : read_before (i + 1) read ≡ g ∷ read_before i read) where
  abbrev held : List (Option ℕ)
  held = blocks ++ block ∷ []

  many : length held ≡ i + 1
  many = length-append blocks (block ∷ []) ∙ ap (λ n. n + 1) w.before.many

  here : block_at held i ≡ block
  here = new_at blocks block i (sym w.before.many)

  still : IsChain held block (open_numbers read i)
  still = chain_more blocks block block (open_numbers read i) w.now

  chain_before : (j : ℕ) → j < i → IsChain held (block_at held j) (open_numbers read j)
  chain_before j l =
      let m = w.before.many in
      let b : j < length blocks = omega arith in
      subst (λ o. IsChain held o (open_numbers read j)) (sym (kept_at blocks block j b)) (chain_more blocks block (block_at blocks j) (open_numbers read j) (w.before.chains j l))

  chains : (j : ℕ) → j < i + 1 → IsChain held (block_at held j) (open_numbers read j)
  chains = below_more (λ j. IsChain held (block_at held j) (open_numbers read j)) i chain_before (subst (λ o. IsChain held o (open_numbers read i)) (sym here) still)

  numbers_are : (gs : List Group) → open_blocks 0 (g ∷ read_before i read) ≡ gs → open_numbers read (i + 1) ≡ map (λ (m : Group). m.number) gs
  numbers_are gs e = ap (λ (ms : List Group). map (λ (m : Group). m.number) (open_blocks 0 ms)) now ∙ ap (λ (ms : List Group). map (λ (m : Group). m.number) ms) e

  opened : side_of g.head ≡ opening → IsChain held (Some i) (open_numbers read (i + 1))
  opened s =
      let m = many in
      subst (IsChain held (Some i)) (sym (numbers_are _ (pushed g (read_before i read) s)))
      (subst (λ n. IsChain held (Some i) (n ∷ open_numbers read i)) (sym number) (
        refl,
        (let l : i < length held = omega arith in l),
        subst (λ o. IfSome o (λ k. k < i)) (sym here) (subst (λ n. IfSome block (λ k. k < n)) w.before.many (chain_within blocks block (open_numbers read i) w.now)),
        subst (λ o. IsChain held o (open_numbers read i)) (sym here) still,
      ))

  dropped : (gs : List Group) → map (λ (m : Group). m.number) (drop 1 gs) ≡ drop 1 (map (λ (m : Group). m.number) gs)
  dropped [] = refl
  dropped (m ∷ gs) = refl

  closed : side_of g.head ≡ closing → IsChain held (outer_block held block) (open_numbers read (i + 1))
  closed s =
      subst (IsChain held (outer_block held block))
      (sym (numbers_are _ (popped g (read_before i read) s) ∙ dropped (open_blocks 0 (read_before i read))))
      (chain_outer held block (open_numbers read i) still)

  passed : side_of g.head ≡ inside → IsChain held block (open_numbers read (i + 1))
  passed s = subst (IsChain held block) (sym (numbers_are _ (open_inside 0 g (read_before i read) s))) still

  by_head : (e : Exprs) (names texts : List (List ℕ)) (h : CodeHead) → RepresentsHead e names texts h g.head
      → IsChain held (block_after held block h i) (open_numbers read (i + 1))
  by_head e names texts (codes.Config s) r = passed (ap side_of r.2)
  by_head e names texts codes.Choice r = opened (ap side_of r)
  by_head e names texts (codes.Menu t) r = opened (ap side_of r.2)
  by_head e names texts (codes.Condition c) r = opened (ap side_of r.1)
  by_head e names texts (codes.Comment t) r = passed (ap side_of r.2)
  by_head e names texts (codes.Source t) r = opened (ap side_of r.2)
  by_head e names texts codes.Mainmenu r = passed (ap side_of r)
  by_head e names texts x r = closed (ap side_of r)

  pub walked_more : (e : Exprs) (names texts : List (List ℕ)) (h : CodeHead) (blocks2 : List (Option ℕ)) (block2 : Option ℕ) → RepresentsHead e names texts h g.head
      → blocks2 ≡ held → block2 ≡ block_after blocks2 block h i → IsWalked (i + 1) blocks2 block2 read
  walked_more e names texts h blocks2 block2 r same after =
      subst (λ bs. IsWalked (i + 1) bs block2 read) (sym same)
      (record {
        before = record { many = many; chains = chains };
        now = subst (λ b. IsChain held b (open_numbers read (i + 1))) (sym (after ∙ ap (λ bs. block_after bs block h i) same)) (by_head e names texts h r);
      })
