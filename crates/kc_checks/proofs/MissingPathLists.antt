-- The absent paths of what was read.
use Rattle.kc_checks.proofs.Common.{◌≡◌, ℕ, List, [], ◌∷◌, ◌++◌, length, refl, ap, sym, ◌∙◌, arith, drop, ◌≤◌, Option, Some, None, reverse, filter_map, drop-length, Exprs, Files, Group, GroupHead, from_head, sourced_path, without_repeats, names_defined, Listing, RepresentsHead, RepresentsGroups}
use Rattle.kc_checks.proofs.Common.{is_absent, with_absent, with_all, filter, CodeGroup, CodeLine, CodeHead, RepresentsListing}
use Rattle.std.proofs.lemmas.List.{reverse-reverse, reverse-append}
use Rattle.kc_tree_model.specs.Statements.{path_of_head}
use Rattle.kc_parser.specs.declared.listing.GroupHead.TheVariants as codes
use Rattle.kc_checks.specs.checker.MissingPaths.{path_in}
use Rattle.kc_checks.proofs.MissingPaths.{once_kept}

-- the path that a group sources is the one that is kept
source_shown : (exprs : Exprs) (names texts : List (List ℕ)) (c : CodeHead) (w : GroupHead) → RepresentsHead exprs names texts c w
    → path_in texts c ≡ from_head path_of_head w
source_shown exprs names texts (codes.Config s) w h = sym (ap (from_head path_of_head) h.2)
source_shown exprs names texts (codes.Menu t) w h = sym (ap (from_head path_of_head) h.2)
source_shown exprs names texts (codes.Condition id) w h = sym (ap (from_head path_of_head) h.1)
source_shown exprs names texts (codes.Comment t) w h = sym (ap (from_head path_of_head) h.2)
source_shown exprs names texts (codes.Source t) w h = h.1 ∙ sym (ap (from_head path_of_head) h.2)
source_shown exprs names texts x w h = sym (ap (from_head path_of_head) h)

module _ (files : Files) (texts : List (List ℕ)) where
  -- the same with the newest first
  abbrev with_back : List (List ℕ) → List CodeGroup → List (List ℕ)
  with_back paths [] = paths
  with_back paths (g ∷ before) = with_absent files (with_back paths before) (path_in texts g.head)

  all-append : (paths : List (List ℕ)) (gs : List CodeGroup) (g : CodeGroup)
      → with_all files texts paths (gs ++ g ∷ []) ≡ with_absent files (with_all files texts paths gs) (path_in texts g.head)
  all-append paths [] g = refl
  all-append paths (h ∷ gs) g = all-append (with_absent files paths (path_in texts h.head)) gs g

  all_back : (paths : List (List ℕ)) (gs : List CodeGroup) → with_all files texts paths (reverse gs) ≡ with_back paths gs
  all_back paths [] = refl
  all_back paths (g ∷ gs) =
      ap (with_all files texts paths) (reverse-append (g ∷ []) gs)
      ∙ all-append paths (reverse gs) g
      ∙ ap (λ ps. with_absent files ps (path_in texts g.head)) (all_back paths gs)

  one_more : (o : Option (List ℕ)) (root : List ℕ) (ms : List Group) (all : List (List ℕ)) (e : all ≡ filter_map sourced_path ms ++ root ∷ [])
      → with_absent files (filter (is_absent files) (without_repeats all)) o ≡ filter (is_absent files)
      (without_repeats (elim o [ None ↦ all | Some path ↦ path ∷ all ]))
  one_more None root ms all e = refl
  one_more (Some path) root ms all e = sym (once_kept (is_absent files) path all)

  more_sources : (o : Option (List ℕ)) (ms : List (List ℕ)) (root : List ℕ)
      → elim o [ None ↦ ms ++ root ∷ [] | Some path ↦ path ∷ (ms ++ root ∷ []) ] ≡ elim o [ None ↦ ms | Some path ↦ path ∷ ms ] ++ root ∷ []
  more_sources None ms root = refl
  more_sources (Some path) ms root = refl

  sources_of : (m : Group) (ms : List Group) (o : Option (List ℕ)) → sourced_path m ≡ o
      → elim o [ None ↦ filter_map sourced_path ms | Some path ↦ path ∷ filter_map sourced_path ms ] ≡ filter_map sourced_path (m ∷ ms)
  sources_of m ms None e = rw e refl
  sources_of m ms (Some path) e = rw e refl

  back_shown : (exprs : Exprs) (names : List (List ℕ)) (lines : List CodeLine) (root : List ℕ) (end : ℕ) (gs : List CodeGroup) (ms : List Group)
      → RepresentsGroups exprs names texts lines end gs ms
      → with_back (with_absent files [] (Some root)) gs ≡ filter (is_absent files) (without_repeats (filter_map sourced_path ms ++ root ∷ []))
  back_shown exprs names lines root end [] [] h = once_kept (is_absent files) root []
  back_shown exprs names lines root end (g ∷ gs) (m ∷ ms) h =
      let all = filter_map sourced_path ms ++ root ∷ [] in
      ap (λ ps. with_absent files ps (path_in texts g.head)) (back_shown exprs names lines root g.attributes gs ms h.2)
      ∙ ap (with_absent files (filter (is_absent files) (without_repeats all))) (source_shown exprs names texts g.head m.head h.0.head)
      ∙ one_more (sourced_path m) root ms all refl
      ∙ ap (λ ps. filter (is_absent files) (without_repeats ps)) (more_sources (sourced_path m) (filter_map sourced_path ms) root
      ∙ ap (λ ps. ps ++ root ∷ []) (sources_of m ms (sourced_path m) refl))
  back_shown exprs names lines root end [] (m ∷ ms) h = absurd h
  back_shown exprs names lines root end (g ∷ gs) [] h = absurd h

-- the absent paths collected from a listing are those of the root file and of the files that were sourced, each once
pub all_shown : (files : Files) (root : List ℕ) (l : Listing) (read : List Group) → RepresentsListing l read
    → with_all files l.texts.items (with_absent files [] (Some root)) l.groups.items ≡ filter (is_absent files)
    (without_repeats (filter_map sourced_path read ++ root ∷ []))
unfolding RepresentsListing
all_shown files root l read s =
    ap (with_all files l.texts.items (with_absent files [] (Some root))) (sym (reverse-reverse l.groups.items))
    ∙ all_back files l.texts.items (with_absent files [] (Some root)) (reverse l.groups.items)
    ∙ back_shown files l.texts.items l.names.arena (names_defined read) l.lines.items root (length l.lines.items) (reverse l.groups.items) read s.groups_are

-- once no group is left, the absent paths collected so far are all
pub none_left : (files : Files) (texts paths : List (List ℕ)) (gs : List CodeGroup) (i : ℕ) → length gs ≤ i → i ≤ length gs
    → with_all files texts paths (drop i gs) ≡ paths
none_left files texts paths gs i a b = let e : i ≡ length gs = omega arith in rw (e, drop-length gs) refl
