-- Steps of a walk through the groups.
use Rattle.std.proofs.Common.{inl, inr, length-drop, drop-cons, add-one, Result, Ok, Err, OnOk}
use Rattle.std.proofs.lemmas.List.{reverse-append, take-append-le, drop-append-le}
use Rattle.std.proofs.Math.Seq.{drop-append_seam}
use Rattle.kc_conditions.proofs.Common.{◌≡◌, ℕ, suc, ◌+◌, ◌-◌, ◌<◌, ◌≤◌, Bool, true, false, cond, List, [], ◌∷◌, ◌++◌, length, get_or, take, drop, map, reverse, Option, Some, None, refl, ap, sym, subst, ◌∙◌, arith, append-nil, length-append, All, IfSome, slice_get, slice_range, take_all}
use Rattle.kc_conditions.proofs.Common.{is_linux_6_12, Language, Exprs, Represents, node_expr, Grows, Expr, AttributeNodesExist, is_prompt, LineNodesExist, RepresentsHead, line_in, node_held, node_same, grows_same, choice, condition, Group, of_head, open_blocks, conjunction_of, visible_conjunct}
use Rattle.kc_conditions.proofs.Common.{dependencies_of, context, group_in_context, Conjoins, conjunct, conjunct_views, AreJoined, AreAppended, condition_view, line_condition, first_prompt, RepresentsPrompt, GroupHeadNodesExist, or_yes, RepresentsEnclosing, RepresentsConditions}
use Rattle.kc_conditions.proofs.Common.{RepresentsAllConditions, HasWalked, Dependencies, Visibles, EnclosingConditions, EntryConditions, GroupConditions, grows_on, option_to_list, filter_map, attribute_in, ReadAttribute, CodeLine}
use Rattle.kc_tree_model.specs.declared.statement.Attribute.TheVariants as attributes
use Rattle.kc_parser.specs.declared.listing.GroupHead.{GroupHead as CodeHead}
use Rattle.kc_parser.specs.declared.listing.GroupHead.TheVariants as codes
use Rattle.kc_statements.proofs.GrownArenas.{attribute_same}
use Rattle.kc_tree_model.specs.Trees as tree
use Rattle.kc_tree_model.specs.Statements.{Attribute, depends_of, visible_of, prompt_of}
use Rattle.kc_tree_model.specs.declared.statement.Head.TheVariants.{Menu as menu, Source as source}
use Rattle.kc_tree_model.specs.Blocks.{Line, Side, GroupHead, opening, closing, inside, side_of}
use Rattle.kc_tree_model.specs.Conditions.{attribute_values, shown_condition, inside_menu, inside_choice, inner_context_of_group_head, Context}
use Rattle.kc_tree_model.specs.Contents.{menu_end_of}
use Rattle.kc_tree_model.proofs.NestedTrees.OpenBlocks.{pushed, popped, open_inside}
use Rattle.kc_conditions.specs.between.Firsts.{RepresentsInside, is_end}
use Rattle.kc_conditions.specs.between.Walks.{condition_among, condition_at, RepresentsEnd, RepresentsEnclosings, innermost_enclosing}
use Rattle.kc_conditions.specs.declared.group_walk.GroupWalk.{GroupWalk}
use Rattle.kc_conditions.proofs.Growth.{parts_given, conjoins_on, joined_on, represent_on, held_on, represents_all, condition_on}

pub on_ok : {A E : Type 0} (r : Result A E) (P Q : Type 0) → (P → Q) → OnOk r P → OnOk r Q
on_ok (Ok x) P Q f h = f h
on_ok (Err e) P Q f h = tt

-- an attribute that is no prompt is passed over in the search for the first prompt
pub first_step : (lines : List CodeLine) (conditions : List ℕ) (i : ℕ) (d : CodeLine) → i < length lines → length conditions ≡ length lines
    → is_prompt (get_or lines i d).attribute ≡ false
    → first_prompt (drop i lines) (drop i conditions) ≡ first_prompt (drop (i + 1) lines) (drop (i + 1) conditions)
first_step lines conditions i d h e f =
    let l : drop i lines ≡ get_or lines i d ∷ drop (i + 1) lines = rw add-one (drop-cons lines i d h) in
    let c : drop i conditions ≡ get_or conditions i 0 ∷ drop (i + 1) conditions = rw add-one (drop-cons conditions i 0 (omega arith)) in
    rw (l, c, f) refl

-- inside an `if`, the conditions are the enclosing ones with the `if`'s expression joined to the dependencies
pub if_inside : (language : Language) (old new : Exprs) (texts : List (List ℕ)) (y id : ℕ) (d : Option ℕ) (m : Group) (a : EnclosingConditions) (opened : List Group) → Grows old new
    → m.head ≡ of_head (condition (node_expr old id)) → RepresentsEnclosing language old texts y a opened
    → ((es : List Expr) → Conjoins old a.dependencies es → Conjoins new d (es ++ conjunct old (Some id)))
    → RepresentsEnclosing language new texts y (record { dependencies = d; visibles = a.visibles; title = None }) (m ∷ opened)
if_inside language old new texts y id d m a opened g e h f = record {
  dependencies_are = rw e (f (context (is_linux_6_12 language) opened).dependencies h.dependencies_are);
  visibles_are = rw e (conjoins_on old new g a.visibles (context (is_linux_6_12 language) opened).visibles h.visibles_are);
  ends = rw e refl;
}

-- a group whose stored head begins no block opens none
pub opens_none : (e : Exprs) (names texts : List (List ℕ)) (code : CodeHead) (w : GroupHead) → RepresentsHead e names texts code w
    → (code ≡ codes.Choice → ⊥) → ((t : ℕ) → code ≡ codes.Menu t → ⊥) → ((i : ℕ) → code ≡ codes.Condition i → ⊥)
    → ((t : ℕ) → code ≡ codes.Source t → ⊥) → side_of w ≡ opening → ⊥
opens_none e names texts (codes.Config s) w h a b i d o = (let z : inside ≡ opening = rw h.2 at o in cc)
opens_none e names texts codes.Choice w h a b i d o = absurd (a refl)
opens_none e names texts (codes.Menu t) w h a b i d o = absurd (b t refl)
opens_none e names texts (codes.Condition id) w h a b i d o = absurd (i id refl)
opens_none e names texts (codes.Comment t) w h a b i d o = (let z : inside ≡ opening = rw h.2 at o in cc)
opens_none e names texts (codes.Source t) w h a b i d o = absurd (d t refl)
opens_none e names texts x w h a b i d o = (let z = ap side_of (sym h) ∙ o in cc)

pub menu_inside : (language : Language) (exprs : Exprs) (texts : List (List ℕ)) (y t : ℕ) (title : List ℕ) (m : Group) (c : EntryConditions) (opened : List Group)
    → m.head ≡ of_head (menu title) → slice_get texts t ≡ Some title
    → AreJoined exprs c (dependencies_of (context (is_linux_6_12 language) opened) m) (context (is_linux_6_12 language) opened).visibles (attribute_values visible_of m) → Represents exprs y (conjunction_of [])
    → RepresentsEnclosing language exprs texts y (record { dependencies = c.dependencies; visibles = c.visibles; title = Some t }) (m ∷ opened)
menu_inside language exprs texts y t title m c opened e s j h =
    let d = represents_all exprs c.dependencies y (dependencies_of (context (is_linux_6_12 language) opened) m) j.dependencies_are h in
    let v = represents_all exprs c.visibles y ((context (is_linux_6_12 language) opened).visibles ++ attribute_values visible_of m) j.visibles_are h in
    record {
      dependencies_are = rw e j.dependencies_are;
      visibles_are = rw e j.visibles_are;
      ends = (title, s, d.within, v.within, rw (e, d.is, v.is) refl);
    }

-- inside a choice, the condition that it is shown replaces all outer ones, or it has those that a menu would have
pub choice_inside : (language : Language) (exprs : Exprs) (texts : List (List ℕ)) (y s : ℕ) (m : Group) (opened : List Group) → m.head ≡ of_head choice
    → is_linux_6_12 language ≡ false → Represents exprs s (shown_condition (context (is_linux_6_12 language) opened) m)
    → RepresentsEnclosing language exprs texts y (record { dependencies = Some s; visibles = None; title = None }) (m ∷ opened)
choice_inside language exprs texts y s m opened e other h =
    let b = is_linux_6_12 language in
    let same : context b (m ∷ opened) ≡ record { dependencies = shown_condition (context b opened) m ∷ []; visibles = [] } =
    ap (λ w. inner_context_of_group_head b w (context b opened) m) e ∙ ap (λ t. inside_choice t (context b opened) m) other in
    record {
      dependencies_are = subst (λ (x : Context). Conjoins exprs (Some s) x.dependencies) (sym same) (omega arith, h);
      visibles_are = subst (λ (x : Context). Conjoins exprs None x.visibles) (sym same) refl;
      ends = rw e refl;
    }

pub through_inside : (language : Language) (exprs : Exprs) (texts : List (List ℕ)) (y : ℕ) (m : Group) (c : EntryConditions) (opened : List Group)
    → m.head ≡ of_head choice → is_linux_6_12 language ≡ true
    → AreJoined exprs c (dependencies_of (context (is_linux_6_12 language) opened) m) (context (is_linux_6_12 language) opened).visibles (attribute_values visible_of m)
    → RepresentsEnclosing language exprs texts y (record { dependencies = c.dependencies; visibles = c.visibles; title = None }) (m ∷ opened)
through_inside language exprs texts y m c opened e through j =
    let b = is_linux_6_12 language in
    let same : context b (m ∷ opened) ≡ inside_menu (context b opened) m =
    ap (λ w. inner_context_of_group_head b w (context b opened) m) e ∙ ap (λ t. inside_choice t (context b opened) m) through in
    record {
      dependencies_are = subst (λ (x : Context). Conjoins exprs c.dependencies x.dependencies) (sym same) j.dependencies_are;
      visibles_are = subst (λ (x : Context). Conjoins exprs c.visibles x.visibles) (sym same) j.visibles_are;
      ends = rw e refl;
    }

pub source_inside : (language : Language) (exprs : Exprs) (texts : List (List ℕ)) (y : ℕ) (path : List ℕ) (m : Group) (a : EnclosingConditions) (opened : List Group)
    → m.head ≡ of_head (source path) → RepresentsEnclosing language exprs texts y a opened
    → RepresentsEnclosing language exprs texts y (record { dependencies = a.dependencies; visibles = a.visibles; title = None }) (m ∷ opened)
source_inside language exprs texts y path m a opened e h = record {
  dependencies_are = rw e h.dependencies_are;
  visibles_are = rw e h.visibles_are;
  ends = rw e refl;
}

-- the conditions on top of the walk's stack are those inside the innermost open block
top_shown : (language : Language) (exprs : Exprs) (texts : List (List ℕ)) (y : ℕ) (rs : List EnclosingConditions) (gs : List Group) → RepresentsEnclosings language exprs texts y rs gs
    → RepresentsEnclosing language exprs texts y (innermost_enclosing rs) gs
top_shown language exprs texts y [] [] h = record { dependencies_are = refl; visibles_are = refl; ends = refl }
top_shown language exprs texts y [] (g ∷ gs) h = absurd h
top_shown language exprs texts y (a ∷ outer) [] h = absurd h
top_shown language exprs texts y (a ∷ outer) (g ∷ gs) h = h.0

-- they are those that the walk takes from there
pub enclosing_shown : (language : Language) (texts : List (List ℕ)) (w : GroupWalk) (before : List Group) (a : EnclosingConditions) → HasWalked language texts w before
    → a ≡ innermost_enclosing (reverse w.stack.items) → RepresentsEnclosing language w.arena texts w.yes a (open_blocks 0 before)
enclosing_shown language texts w before a walked is =
    subst (λ x. RepresentsEnclosing language w.arena texts w.yes x (open_blocks 0 before)) (sym is)
    (top_shown language w.arena texts w.yes (reverse w.stack.items) (open_blocks 0 before) (walked w.arena (grows_same w.arena)).stack_is)

outer_shown : (language : Language) (exprs : Exprs) (texts : List (List ℕ)) (y : ℕ) (rs : List EnclosingConditions) (gs : List Group) → RepresentsEnclosings language exprs texts y rs gs
    → RepresentsEnclosings language exprs texts y (drop 1 rs) (drop 1 gs)
outer_shown language exprs texts y [] [] h = tt
outer_shown language exprs texts y [] (g ∷ gs) h = absurd h
outer_shown language exprs texts y (a ∷ outer) [] h = absurd h
outer_shown language exprs texts y (a ∷ outer) (g ∷ gs) h = h.1

-- the condition of an attribute, by the code and by the definition
condition_one : (exprs : Exprs) (ds vs : List Expr) (a : ReadAttribute) → condition_view exprs ds vs a ≡ condition_among ds vs (attribute_in exprs a)
condition_one exprs ds vs (attributes.Typed k) = refl
condition_one exprs ds vs x = refl

conditions_given : (exprs : Exprs) (ds vs : List Expr) (lines : List CodeLine)
    → map (line_condition exprs ds vs) lines ≡ map (λ (l : Line). condition_among ds vs l.attribute) (map (line_in exprs) lines)
conditions_given exprs ds vs [] = refl
conditions_given exprs ds vs (l ∷ lines) =
    let e = condition_one exprs ds vs l.attribute in
    let f = conditions_given exprs ds vs lines in
    cc

pub lines_kept : (old new : Exprs) (lines : List CodeLine) → Grows old new → All (LineNodesExist old) lines → map (line_in new) lines ≡ map (line_in old) lines
lines_kept old new [] g h = refl
lines_kept old new (l ∷ lines) g h =
    let a : AttributeNodesExist old l.attribute = h 0 l (omega arith) in
    let line : Attribute → Line = λ x. record { number = l.number; attribute = x } in
    let e : line_in new l ≡ line_in old l = ap line (attribute_same old new l.attribute g a) in
    let f = lines_kept old new lines g (λ k d i. h (suc k) d (omega arith)) in
    cc

-- the conditions of a group's attributes
own_shown : (language : Language) (old mid far later : Exprs) (before after : List ℕ) (lines : List CodeLine) (m : Group) (opened : List Group)
    (b : AreAppended mid far before after (dependencies_of (context (is_linux_6_12 language) opened) m) (context (is_linux_6_12 language) opened).visibles lines)
    → Grows old mid → Grows far later → All (LineNodesExist old) lines → m.attributes ≡ map (line_in old) lines
    → map (node_expr later) b.own ≡ map (condition_at language (group_in_context opened m)) m.attributes
own_shown language old mid far later before after lines m opened b g h held e =
    represent_on far later b.own h b.held ∙ b.exprs_are ∙ conditions_given mid (dependencies_of (context (is_linux_6_12 language) opened) m) (context (is_linux_6_12 language) opened).visibles lines
    ∙ ap (map (condition_at language (group_in_context opened m))) (lines_kept old mid lines g held ∙ sym e)

slice_own : (xs own : List ℕ) → slice_range (xs ++ own) (length xs) (length (xs ++ own)) ≡ own
slice_own xs own =
    ap (take (length (xs ++ own) - length xs)) (drop-append_seam xs own) ∙ take_all (length (xs ++ own) - length xs) own (omega (arith, length-append xs own))

range_kept : (xs ys : List ℕ) (a end : ℕ) → a ≤ end → end ≤ length xs → slice_range (xs ++ ys) a end ≡ slice_range xs a end
range_kept xs ys a end l e =
    ap (take (end - a)) (drop-append-le a xs ys (omega arith)) ∙ take-append-le (end - a) (drop a xs) ys (omega (arith, length-drop a xs))

all_kept : (language : Language) (exprs : Exprs) (texts : List (List ℕ)) (xs ys : List ℕ) (end : ℕ) → end ≤ length xs → (cs : List GroupConditions) (ms : List Group)
    → RepresentsAllConditions language exprs texts xs end cs ms → RepresentsAllConditions language exprs texts (xs ++ ys) end cs ms
all_kept language exprs texts xs ys end l [] [] h = tt
all_kept language exprs texts xs ys end l [] (m ∷ ms) h = absurd h
all_kept language exprs texts xs ys end l (c ∷ cs) [] h = absurd h
all_kept language exprs texts xs ys end l (c ∷ cs) (m ∷ ms) h = (
  subst (λ own. RepresentsConditions language exprs texts own c (group_in_context (open_blocks 0 ms) m)) (sym (range_kept xs ys c.first end h.1 l)) h.0,
  h.1,
  all_kept _
      exprs texts xs ys c.first (let k = h.1 in omega arith) cs ms h.2,
)

-- one group more
pushed_shown : (language : Language) (exprs : Exprs) (texts : List (List ℕ)) (xs own : List ℕ) (c : GroupConditions) (cs : List GroupConditions) (before : List Group) (m : Group)
    → c.first ≡ length xs → RepresentsConditions language exprs texts own c (group_in_context (open_blocks 0 before) m)
    → RepresentsAllConditions language exprs texts xs (length xs) cs before → RepresentsAllConditions language exprs texts (xs ++ own) (length (xs ++ own)) (c ∷ cs) (m ∷ before)
pushed_shown language exprs texts xs own c cs before m e h rest = (
  subst (λ ys. RepresentsConditions language exprs texts ys c (group_in_context (open_blocks 0 before) m))
      (sym (slice_own xs own) ∙ ap (λ n. slice_range (xs ++ own) n (length (xs ++ own))) (sym e)) h,
  omega (arith, e, length-append xs own),
  subst (λ n. RepresentsAllConditions language exprs texts (xs ++ own) n cs before) (sym e) (all_kept _ exprs texts xs own (length xs) (omega arith) cs before rest),
)

pub end_side : (exprs : Exprs) (names texts : List (List ℕ)) (what : CodeHead) (m : Group) → RepresentsHead exprs names texts what m.head → is_end what ≡ true
    → side_of m.head ≡ closing
end_side exprs names texts (codes.Ends b) m h e = rw h refl
end_side exprs names texts codes.FileEnd m h e = rw h refl
end_side exprs names texts x m h e = cc

pub other_side : (exprs : Exprs) (names texts : List (List ℕ)) (what : CodeHead) (m : Group) → RepresentsHead exprs names texts what m.head
    → is_end what ≡ false
    → side_of m.head ≡ closing → ⊥
other_side exprs names texts (codes.Config s) m h e f = let k = ap side_of (sym h.2) ∙ f in cc
other_side exprs names texts (codes.Menu t) m h e f = let k = ap side_of (sym h.2) ∙ f in cc
other_side exprs names texts (codes.Condition id) m h e f = let k = ap side_of (sym h.1) ∙ f in cc
other_side exprs names texts (codes.Comment t) m h e f = let k = ap side_of (sym h.2) ∙ f in cc
other_side exprs names texts (codes.Source t) m h e f = let k = ap side_of (sym h.2) ∙ f in cc
other_side exprs names texts x m h e f = let k = ap side_of (sym h) ∙ f in cc

reverse_push : {A : Type 0} (xs : List A) (x : A) → reverse (xs ++ x ∷ []) ≡ x ∷ reverse xs
reverse_push xs x = reverse-append xs (x ∷ [])

not_opened : (language : Language) (exprs : Exprs) (texts : List (List ℕ)) (y : ℕ) (stack : List EnclosingConditions) (m : Group) (before : List Group) (side : Side)
    → side_of m.head ≡ side → (side ≡ closing → ⊥) → (side ≡ opening → ⊥)
    → RepresentsEnclosings language exprs texts y (reverse stack) (open_blocks 0 before)
    → RepresentsEnclosings language exprs texts y (reverse (stack ++ [])) (open_blocks 0 (m ∷ before))
not_opened language exprs texts y stack m before opening e f g h = absurd (g refl)
not_opened language exprs texts y stack m before closing e f g h = absurd (f refl)
not_opened language exprs texts y stack m before inside e f g h = rw (open_inside 0 m before e, append-nil stack) h

stack_entered : (language : Language) (exprs : Exprs) (texts : List (List ℕ)) (y : ℕ) (stack : List EnclosingConditions) (o : Option EnclosingConditions) (m : Group)
    (before : List Group)
    → (side_of m.head ≡ closing → ⊥) → RepresentsInside language exprs texts y m (open_blocks 0 before) o
    → RepresentsEnclosings language exprs texts y (reverse stack) (open_blocks 0 before)
    → RepresentsEnclosings language exprs texts y (reverse (stack ++ option_to_list o)) (open_blocks 0 (m ∷ before))
stack_entered language exprs texts y stack None m before side h s = not_opened _ exprs texts y stack m before (side_of m.head) refl side h s
stack_entered language exprs texts y stack (Some a) m before side h s = rw (pushed m before h.0, reverse_push stack a) (h.1, s)

-- the attributes' conditions in an entry
module _ (language : Language) (w new : GroupWalk) (texts : List (List ℕ)) (before : List Group) (m : Group) (mid far : Exprs) (e : EntryConditions) (lines : List CodeLine)
    (walked : HasWalked language texts w before) (held : All (LineNodesExist w.arena) lines) (attributes_are : m.attributes ≡ map (line_in w.arena) lines)
    (to_mid : Grows w.arena mid) (to_far : Grows mid far) where
  top : RepresentsEnclosing language w.arena texts w.yes (innermost_enclosing (reverse w.stack.items)) (open_blocks 0 before)
  top = enclosing_shown language texts w before _ walked refl

  pub entry_is : ((ds vs : List Expr) → Conjoins w.arena (innermost_enclosing (reverse w.stack.items)).dependencies ds
      → Conjoins w.arena (innermost_enclosing (reverse w.stack.items)).visibles vs
      → AreJoined mid e (ds ++ conjunct_views Dependencies w.arena lines) vs (conjunct_views Visibles w.arena lines))
      → AreJoined mid e (dependencies_of (context (is_linux_6_12 language) (open_blocks 0 before)) m) (context (is_linux_6_12 language) (open_blocks 0 before)).visibles (attribute_values visible_of m)
  entry_is f =
      let j = f (context (is_linux_6_12 language) (open_blocks 0 before)).dependencies (context (is_linux_6_12 language) (open_blocks 0 before)).visibles top.dependencies_are top.visibles_are in
      let d : conjunct_views Dependencies w.arena lines ≡ attribute_values depends_of m = parts_given w.arena Dependencies lines
      ∙ ap (filter_map (λ (l : Line). depends_of l.attribute)) (sym attributes_are) in
      let v : conjunct_views Visibles w.arena lines ≡ attribute_values visible_of m = parts_given w.arena Visibles lines
      ∙ ap (filter_map (λ (l : Line). visible_of l.attribute)) (sym attributes_are) in
      subst (λ ds. AreJoined mid e ((context (is_linux_6_12 language) (open_blocks 0 before)).dependencies ++ ds) (context (is_linux_6_12 language) (open_blocks 0 before)).visibles
      (attribute_values visible_of m)) d
      (subst (λ vs. AreJoined mid e ((context (is_linux_6_12 language) (open_blocks 0 before)).dependencies ++ conjunct_views Dependencies w.arena lines)
      (context (is_linux_6_12 language) (open_blocks 0 before)).visibles vs) v j)

  module _ (b : AreAppended mid far w.conditions.items new.conditions.items (dependencies_of (context (is_linux_6_12 language) (open_blocks 0 before)) m)
      (context (is_linux_6_12 language) (open_blocks 0 before)).visibles lines)
      (to_new : Grows far new.arena) (yes_same : new.yes ≡ w.yes) (no_same : new.no ≡ w.no) where
    to_all : Grows w.arena new.arena
    to_all = grows_on w.arena mid new.arena to_mid (grows_on mid far new.arena to_far to_new)

    groups_to : (later : Exprs) (c : GroupConditions) → new.groups.items ≡ w.groups.items ++ c ∷ []
        → RepresentsAllConditions language later texts (w.conditions.items ++ b.own) (length (w.conditions.items ++ b.own)) (c ∷ reverse w.groups.items) (m ∷ before)
        → RepresentsAllConditions language later texts new.conditions.items (length new.conditions.items) (reverse new.groups.items) (m ∷ before)
    groups_to later c groups h =
        subst (λ xs. RepresentsAllConditions language later texts xs (length xs) (reverse new.groups.items) (m ∷ before)) (sym b.is)
        (subst (λ cs. RepresentsAllConditions language later texts (w.conditions.items ++ b.own) (length (w.conditions.items ++ b.own)) cs (m ∷ before))
        (sym (ap reverse groups ∙ reverse_push w.groups.items c)) h)

    -- after the end of a block or of a sourced file, the walk has the conditions of all groups up to it
    pub ended : (c : GroupConditions) → side_of m.head ≡ closing
        → c ≡ record {
          dependency = or_yes w.yes (innermost_enclosing (reverse w.stack.items)).dependencies;
          visible = or_yes w.yes
              (innermost_enclosing (reverse w.stack.items)).visibles;
          ended = (innermost_enclosing (reverse w.stack.items)).title;
          first = length
              w.conditions.items;
        }
        → new.groups.items ≡ w.groups.items ++ c ∷ [] → reverse new.stack.items ≡ drop 1 (reverse w.stack.items) → HasWalked language texts new (m ∷ before)
    ended c side is groups stack = λ later g.
        let was = walked later (grows_on w.arena new.arena later to_all g) in
        let enclosing = top_shown _ later texts w.yes (reverse w.stack.items) (open_blocks 0 before) was.stack_is in
        record {
          yes_is = rw yes_same was.yes_is;
          no_is = rw no_same was.no_is;
          stack_is = rw (stack, popped m before side, yes_same) (outer_shown _ later texts w.yes (reverse w.stack.items) (open_blocks 0 before) was.stack_is);
          groups_are = groups_to later c groups (pushed_shown _ later texts w.conditions.items b.own c (reverse w.groups.items) before m
              (ap (λ (x : GroupConditions). x.first) is) (record {
                own_are = own_shown _ w.arena mid far later w.conditions.items new.conditions.items lines m (open_blocks 0 before) b to_mid
                    (grows_on far new.arena later to_new g) held attributes_are;
                held = held_on far later b.own (grows_on far new.arena later to_new g) b.held;
                dependency_is = inl side;
                visible_is = inl side;
                ended_is = λ _. rw is enclosing.ends;
              }) was.groups_are);
        }

    -- after a group that ends no block, the walk has the conditions of all groups up to it
    pub entered : (c : GroupConditions) (o : Option EnclosingConditions) → (side_of m.head ≡ closing → ⊥)
        → AreJoined mid e (dependencies_of (context (is_linux_6_12 language) (open_blocks 0 before)) m) (context (is_linux_6_12 language) (open_blocks 0 before)).visibles (attribute_values visible_of m)
        → c ≡ record { dependency = or_yes w.yes e.dependencies; visible = or_yes w.yes e.visibles; ended = None; first = length w.conditions.items }
        → new.groups.items ≡ w.groups.items ++ c ∷ [] → new.stack.items ≡ w.stack.items ++ option_to_list o
        → ((later : Exprs) → Grows new.arena later → RepresentsInside language later texts w.yes m (open_blocks 0 before) o) → HasWalked language texts new (m ∷ before)
    entered c o side j is groups stack opened = λ later g.
        let was = walked later (grows_on w.arena new.arena later to_all g) in
        let k = joined_on mid later (grows_on mid new.arena later (grows_on mid far new.arena to_far to_new) g) e
        (dependencies_of (context (is_linux_6_12 language) (open_blocks 0 before)) m) (context (is_linux_6_12 language) (open_blocks 0 before)).visibles (attribute_values visible_of m) j in
        record {
          yes_is = rw yes_same was.yes_is;
          no_is = rw no_same was.no_is;
          stack_is = rw (stack, yes_same) (stack_entered _ later texts w.yes w.stack.items o m before side (opened later g) was.stack_is);
          groups_are = groups_to later c groups (pushed_shown _ later texts w.conditions.items b.own c (reverse w.groups.items) before m
              (ap (λ (x : GroupConditions). x.first) is) (record {
                own_are = own_shown _ w.arena mid far later w.conditions.items new.conditions.items lines m (open_blocks 0 before) b to_mid
                    (grows_on far new.arena later to_new g) held attributes_are;
                held = held_on far later b.own (grows_on far new.arena later to_new g) b.held;
                dependency_is = inr (rw is (represents_all later e.dependencies w.yes (dependencies_of (context (is_linux_6_12 language) (open_blocks 0 before)) m) k.dependencies_are
                    was.yes_is));
                visible_is = inr (rw is (represents_all later e.visibles w.yes ((context (is_linux_6_12 language) (open_blocks 0 before)).visibles ++ attribute_values visible_of m)
                    k.visibles_are was.yes_is));
                ended_is = λ s. absurd (side s);
              }) was.groups_are);
        }

-- what is shown stays so as the arena grows
end_on : (old new : Exprs) (texts : List (List ℕ)) (t : Option ℕ) (d v : ℕ) (e : Option tree.Entry) → Grows old new → RepresentsEnd old texts t d v e
    → RepresentsEnd new texts t d v e
end_on old new texts None d v e g h = h
end_on old new texts (Some t) d v e g h =
    (h.0, h.1, node_held old new d g h.2, node_held old new v g h.3, rw (node_same old new d g h.2, node_same old new v g h.3) h.4)

pub around_on : (language : Language) (old new : Exprs) (texts : List (List ℕ)) (y : ℕ) (a : EnclosingConditions) (opened : List Group) → Grows old new
    → RepresentsEnclosing language old texts y a opened → RepresentsEnclosing language new texts y a opened
around_on language old new texts y a opened g h = record {
  dependencies_are = conjoins_on old new g a.dependencies (context (is_linux_6_12 language) opened).dependencies h.dependencies_are;
  visibles_are = conjoins_on old new g a.visibles (context (is_linux_6_12 language) opened).visibles h.visibles_are;
  ends = end_on old new texts a.title (or_yes y a.dependencies) (or_yes y a.visibles) (menu_end_of language opened) g h.ends;
}

pub inside_on : (language : Language) (old new : Exprs) (texts : List (List ℕ)) (y : ℕ) (m : Group) (opened : List Group) (o : Option EnclosingConditions) → Grows old new
    → RepresentsInside language old texts y m opened o → RepresentsInside language new texts y m opened o
inside_on language old new texts y m opened None g h = h
inside_on language old new texts y m opened (Some a) g h = (h.0, around_on _ old new texts y a (m ∷ opened) g h.1)

pub what_on : (old new : Exprs) (names texts : List (List ℕ)) (c : CodeHead) (w : GroupHead) → Grows old new → RepresentsHead old names texts c w
    → RepresentsHead new names texts c w
what_on old new names texts (codes.Condition id) w g h = (node_held old new id g h.0, rw (node_same old new id g h.0) h.1)
what_on old new names texts x w g h = h

-- the first prompt
abbrev prompts_among : List Expr → List Expr → List Line → List Expr
prompts_among ds vs lines = map (λ c. conjunction_of (ds ++ (visible_conjunct vs ++ option_to_list c))) (filter_map (λ (l : Line). prompt_of l.attribute) lines)

prompt_one : (old far : Exprs) (ds vs : List Expr) (n : ℕ) (a : ReadAttribute) (o : ℕ) (os : List ℕ) (ls : List CodeLine) (rest : List Line)
    → o < length far.nodes → node_expr far o ≡ condition_view old ds vs a
    → RepresentsPrompt far (first_prompt ls os) (slice_get (prompts_among ds vs rest) 0)
    → RepresentsPrompt far (first_prompt (record { number = n; attribute = a } ∷ ls) (o ∷ os))
    (slice_get (prompts_among ds vs (record { number = n; attribute = attribute_in old a } ∷ rest)) 0)
prompt_one old far ds vs n (attributes.TypedPrompt k c) o os ls rest l e h = record { within = l; is = e }
prompt_one old far ds vs n (attributes.Prompt c) o os ls rest l e h = record { within = l; is = e }
prompt_one old far ds vs n x o os ls rest l e h = h

prompt_first : (old far : Exprs) (ds vs : List Expr) (ls : List CodeLine) (os : List ℕ) → All (λ i. i < length far.nodes) os
    → map (node_expr far) os ≡ map (line_condition old ds vs) ls
    → RepresentsPrompt far (first_prompt ls os) (slice_get (prompts_among ds vs (map (line_in old) ls)) 0)
prompt_first old far ds vs [] os h e = tt
prompt_first old far ds vs (l ∷ ls) [] h e = absurd (let k : 0 ≡ suc (length (map (line_condition old ds vs) ls)) = ap length e in cc)
prompt_first old far ds vs (l ∷ ls) (o ∷ os) h e =
    let rest : map (node_expr far) os ≡ map (line_condition old ds vs) ls = cc in
    let here : node_expr far o ≡ line_condition old ds vs l = cc in
    prompt_one old far ds vs l.number l.attribute o os ls (map (line_in old) ls) (h 0 o (omega arith)) here
    (prompt_first old far ds vs ls os (λ k d i. h (suc k) d (omega arith)) rest)

conditions_on : (old mid : Exprs) (ds vs : List Expr) (lines : List CodeLine) → Grows old mid → All (LineNodesExist old) lines
    → map (line_condition mid ds vs) lines ≡ map (line_condition old ds vs) lines
conditions_on old mid ds vs [] g h = refl
conditions_on old mid ds vs (l ∷ lines) g h =
    let a : AttributeNodesExist old l.attribute = h 0 l (omega arith) in
    let e = condition_on old mid ds vs l.attribute g a in
    let f = conditions_on old mid ds vs lines g (λ k d i. h (suc k) d (omega arith)) in
    cc

first_there : (n : ℕ) (ls : List CodeLine) (os : List ℕ) → All (λ i. i < n) os → IfSome (first_prompt ls os) (λ i. i < n)
first_there n [] os h = tt
first_there n (l ∷ ls) [] h = tt
first_there n (l ∷ ls) (o ∷ os) h = by (is_prompt l.attribute) (first_there n ls os (λ k d i. h (suc k) d (omega arith)))
  where
    by : (b : Bool) → IfSome (first_prompt ls os) (λ i. i < n) → IfSome (cond b (Some o) (first_prompt ls os)) (λ i. i < n)
    by true k = h 0 o (omega arith)
    by false k = k

module _ (old mid far : Exprs) (before after : List ℕ) (ds vs : List Expr) (lines : List CodeLine) (b : AreAppended mid far before after ds vs lines) where
  own_is : drop (length before) after ≡ b.own
  own_is = ap (drop (length before)) b.is ∙ drop-append_seam before b.own

  pub prompt_there : (p : Option ℕ) (first : ℕ) → first ≡ length before → p ≡ first_prompt lines (drop first after) → IfSome p (λ i. i < length far.nodes)
  prompt_there p first l e =
      subst (λ q. IfSome q (λ i. i < length far.nodes)) (sym (e ∙ ap (λ n. first_prompt lines (drop n after)) l ∙ ap (first_prompt lines) own_is))
      (first_there (length far.nodes) lines b.own b.held)

  pub prompt_represents : (p : Option ℕ) (first : ℕ) → Grows old mid → All (LineNodesExist old) lines → first ≡ length before
      → p ≡ first_prompt lines (drop first after)
      → RepresentsPrompt far p (slice_get (prompts_among ds vs (map (line_in old) lines)) 0)
  prompt_represents p first g held l e =
      subst (λ q. RepresentsPrompt far q (slice_get (prompts_among ds vs (map (line_in old) lines)) 0))
      (sym (e ∙ ap (λ n. first_prompt lines (drop n after)) l ∙ ap (first_prompt lines) own_is))
      (prompt_first old far ds vs lines b.own b.held (b.exprs_are ∙ conditions_on old mid ds vs lines g held))

-- the expression of a stored `if` statement that represents one of the model is a node of the arena
pub what_held : (exprs : Exprs) (names texts : List (List ℕ)) (c : CodeHead) (w : GroupHead) → RepresentsHead exprs names texts c w
    → GroupHeadNodesExist (length exprs.nodes) c
what_held exprs names texts (codes.Condition id) w h = h.0
what_held exprs names texts x w h = tt
