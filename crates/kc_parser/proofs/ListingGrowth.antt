-- A listing represents the same groups as the arena and the lists grow.
use Rattle.kc_parser.proofs.Common.{◌≡◌, ℕ, suc, zero, ◌-◌, ◌≤◌, List, [], ◌∷◌, ◌++◌, length, drop, take, map, Some, refl, ap, sym, ◌∙◌, arith, length-drop, slice_get, slice_range, All, drop-append-le, Exprs, Grows}
use Rattle.kc_parser.proofs.Common.{Group, GroupHead, RepresentsHead, line_in, LineNodesExist, RepresentsGroup, RepresentsGroups}
use Rattle.kc_statements.proofs.GrownArenas.{node_held, node_same, attribute_held, attribute_same}
use Rattle.std.proofs.lemmas.List.{take-append-le}
use Rattle.std.proofs.lemmas.List.Elements.{All-take, All-drop}
use Rattle.kc_tree_model.specs.declared.statement.Attribute.TheVariants as attributes
use Rattle.kc_parser.specs.declared.listing.Group.{Group as CodeGroup}
use Rattle.kc_parser.specs.declared.listing.Line.{Line as CodeLine}
use Rattle.kc_parser.specs.declared.listing.GroupHead.{GroupHead as CodeHead}
use Rattle.kc_parser.specs.declared.listing.GroupHead.TheVariants as codes

pub get_more : {A : Type 0} (xs ys : List A) (i : ℕ) (x : A) → slice_get xs i ≡ Some x → slice_get (xs ++ ys) i ≡ Some x
get_more [] ys i x h = cc
get_more (z ∷ xs) ys zero x h = h
get_more (z ∷ xs) ys (suc i) x h = get_more xs ys i x h

pub get_last : {A : Type 0} (xs : List A) (x : A) → slice_get (xs ++ x ∷ []) (length xs) ≡ Some x
get_last [] x = refl
get_last (y ∷ xs) x = get_last xs x

module _ (old new : Exprs) (grows : Grows old new) where
  pub lines_held : (lines : List CodeLine) → All (LineNodesExist old) lines → All (LineNodesExist new) lines
  lines_held lines h = λ k d i. attribute_held old new _ grows (h k d i)

  lines_kept : (lines : List CodeLine) → All (LineNodesExist old) lines → map (line_in new) lines ≡ map (line_in old) lines
  lines_kept [] h = refl
  lines_kept (l ∷ lines) h = rw (attribute_same old new l.attribute grows (h 0 l (omega arith)), lines_kept lines (λ k d i. h (suc k) d (omega arith))) refl

  what_kept : (names ns texts ts : List (List ℕ)) (c : CodeHead) (w : GroupHead) → RepresentsHead old names texts c w
      → RepresentsHead new (names ++ ns) (texts ++ ts) c w
  what_kept names ns texts ts (codes.Config s) w h = (h.0, get_more names ns s h.0 h.1, h.2)
  what_kept names ns texts ts (codes.Menu t) w h = (h.0, get_more texts ts t h.0 h.1, h.2)
  what_kept names ns texts ts (codes.Condition id) w h = (node_held old new id grows h.0, rw (node_same old new id grows h.0) h.1)
  what_kept names ns texts ts (codes.Comment t) w h = (h.0, get_more texts ts t h.0 h.1, h.2)
  what_kept names ns texts ts (codes.Source t) w h = (h.0, get_more texts ts t h.0 h.1, h.2)
  what_kept names ns texts ts x w h = h

  range_kept : (lines ls : List CodeLine) (a end : ℕ) → a ≤ end → end ≤ length lines → slice_range (lines ++ ls) a end ≡ slice_range lines a end
  range_kept lines ls a end l e =
      ap (take (end - a)) (drop-append-le a lines ls (omega arith)) ∙ take-append-le (end - a) (drop a lines) ls (omega (arith, length-drop a lines))

  group_kept : (names ns texts ts : List (List ℕ)) (lines ls : List CodeLine) (end before : ℕ) (g : CodeGroup) (m : Group) → All (LineNodesExist old) lines
      → g.attributes ≤ end → end ≤ length lines
      → RepresentsGroup old names texts (slice_range lines g.attributes end) before g m
      → RepresentsGroup new (names ++ ns) (texts ++ ts) (slice_range (lines ++ ls) g.attributes end) before g m
  group_kept names ns texts ts lines ls end before g m held a e h = record {
    number_is = h.number_is;
    file_is = h.file_is;
    line_is = h.line_is;
    head = what_kept names ns texts ts g.head m.head h.head;
    attributes = rw (range_kept lines ls g.attributes end a e)
        (h.attributes ∙ sym (lines_kept (slice_range lines g.attributes end)
        (All-take (LineNodesExist old) (end - g.attributes) (drop g.attributes lines) (All-drop (LineNodesExist old) g.attributes lines held))));
  }

  pub groups_kept : (names ns texts ts : List (List ℕ)) (lines ls : List CodeLine) → All (LineNodesExist old) lines → (end : ℕ) → end ≤ length lines
      → (gs : List CodeGroup) (ms : List Group)
      → RepresentsGroups old names texts lines end gs ms → RepresentsGroups new (names ++ ns) (texts ++ ts) (lines ++ ls) end gs ms
  groups_kept names ns texts ts lines ls held end e [] [] h = tt
  groups_kept names ns texts ts lines ls held end e [] (m ∷ ms) h = absurd h
  groups_kept names ns texts ts lines ls held end e (g ∷ gs) [] h = absurd h
  groups_kept names ns texts ts lines ls held end e (g ∷ gs) (m ∷ ms) h = (
    group_kept names ns texts ts lines ls end (length ms) g m held h.1 e h.0,
    h.1,
    groups_kept names ns texts ts lines ls held g.attributes
        (let a = h.1 in omega arith) gs ms h.2,
  )

  pub groups_later : (names ns names2 texts ts texts2 : List (List ℕ)) (lines ls lines2 : List CodeLine) → names2 ≡ names ++ ns → texts2 ≡ texts ++ ts
      → lines2 ≡ lines ++ ls → All (LineNodesExist old) lines → (gs : List CodeGroup) (ms : List Group)
      → (end : ℕ) → end ≤ length lines → RepresentsGroups old names texts lines end gs ms → RepresentsGroups new names2 texts2 lines2 end gs ms
  groups_later names ns names2 texts ts texts2 lines ls lines2 e f g held gs ms end l h =
      rw (e, f, g) (groups_kept names ns texts ts lines ls held end l gs ms h)
