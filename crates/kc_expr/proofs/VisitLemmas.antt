-- Walks over expressions.
use Rattle.std.proofs.Common.{◌≢◌, ◌==◌}
use Rattle.kc_expr.proofs.Common.{◌≡◌, ℕ, ◌<◌, ◌≤◌, ◌⊎◌, inl, inr, Bool, true, false, ◌||◌, List, [], ◌++◌, length, get_or, map, refl, ap, sym, ◌∙◌, arith, All, slice_set, slice_index_or, list_any, length-map, list_any-append, cases_lt, Exprs, node_expr, mentions, passes_some_name, IsWalking}
use Rattle.std.proofs.Math.Bool.{or_assoc, or_comm}
use Rattle.std.proofs.lemmas.List.{length-set, map-set, get_or-map, get_or-set_same, get_or-set_other, get_or_past}
use Rattle.std.proofs.lemmas.Bool.Decides.{nat_tests}
use Rattle.std.proofs.lemmas.Bool.{cases_eq, or_left, or_right}
use Rattle.kc_expr.specs.Expr.{Expr}
use Rattle.kc_expr.specs.ExpressionNames.{names_in}
use Rattle.kc_expr.specs.between.Visits.{is_visited}
use Rattle.kc_expr.specs.checker.Nodes.{joined}
use Rattle.kc_expr.specs.declared.node.Connective.{Connective}
use Rattle.kc_expr.specs.declared.node.Connective.TheVariants.{And, Or}
use Rattle.kc_expr.specs.checker.ExpressionWalks.{stamped, HasFoundTo, HasVisited}

-- no stamp is that of a later turn
later_stamp : (turn s : ℕ) → s < turn → (s == turn) ≡ false
later_stamp turn s h = grind (arith, nat_tests)

pub none_stamped : (turn : ℕ) (stamps : List ℕ) → All (λ s. s < turn) stamps → (node : ℕ) → is_visited (stamped turn stamps) node ≡ false
none_stamped turn stamps h node = none_by (cases_lt node (length stamps))
  where
    none_by : (node < length stamps) ⊎ (length stamps ≤ node) → is_visited (stamped turn stamps) node ≡ false
    none_by (inl l) = get_or-map (λ s. s == turn) stamps node 0 false l ∙ later_stamp turn (get_or stamps node 0) (h node 0 l)
    none_by (inr l) = get_or_past (stamped turn stamps) node false (omega (arith, length-map stamps (λ s. s == turn)))

eqb_same : (n : ℕ) → (n == n) ≡ true
eqb_same n = grind (arith, nat_tests)

pub stamped_set : (turn : ℕ) (stamps : List ℕ) (i : ℕ) → stamped turn (slice_set stamps i turn) ≡ slice_set (stamped turn stamps) i true
stamped_set turn stamps i = map-set (λ s. s == turn) stamps i turn ∙ ap (slice_set (stamped turn stamps) i) (eqb_same turn)

-- two joined expressions have the names of both
pub mentions_joined : (p : List ℕ → Bool) (c : Connective) (a b : Expr) → mentions p (joined c a b) ≡ (mentions p a || mentions p b)
mentions_joined p And a b = list_any-append p (names_in a) (names_in b)
mentions_joined p Or a b = list_any-append p (names_in a) (names_in b)

module _ (exprs : Exprs) (last : ℕ) (before : List Bool) (old : List ℕ) where
  abbrev pub whole_of : (List ℕ → Bool) → Bool
  whole_of p = passes_some_name exprs p old || mentions p (node_expr exprs last)

  -- a walk down from a node begins at that node, before any name is found
  pub walk_begins : HasFoundTo exprs last before old → IsWalking exprs last before old last before old
  walk_begins h = record {
    below = omega arith;
    room = refl;
    begun = λ l. absurd (omega (arith, l));
    kept = λ node w. w;
    above = λ node l. refl;
    exact = λ p. refl;
    found = h;
    whole = λ node p l w m. or_left _ _ (h node p l w m);
  }

  -- one node more is walked
  module _ (at : ℕ) (walked : List Bool) (ids : List ℕ) (there : last < length before) (h : IsWalking exprs last before old at walked ids) where
    set_here : is_visited (slice_set walked at true) at ≡ true
    set_here = get_or-set_same walked at true false (omega (arith, h.below, h.room, there))

    set_there : (node : ℕ) → node ≢ at → is_visited (slice_set walked at true) node ≡ is_visited walked node
    set_there node n = get_or-set_other walked at node true false n

    set_kept : (node : ℕ) → is_visited walked node ≡ true → is_visited (slice_set walked at true) node ≡ true
    set_kept node w = set_kept_by (cases_eq node at)
      where
        set_kept_by : (node ≡ at) ⊎ (node ≢ at) → is_visited (slice_set walked at true) node ≡ true
        set_kept_by (inl e) = rw e set_here
        set_kept_by (inr n) = set_there node n ∙ w

    -- a walk goes on from a node to one further down, if the names in all visited expressions below the node are found
    pub walk_down : (next : ℕ) (now : List Bool) (more : List ℕ) → next < at → length now ≡ length walked → is_visited now at ≡ true
        → ((node : ℕ) → is_visited walked node ≡ true → is_visited now node ≡ true) → ((node : ℕ) → at < node → is_visited now node ≡ is_visited walked node)
        → ((p : List ℕ → Bool) → (passes_some_name exprs p more || mentions p (node_expr exprs next))
        ≡ (passes_some_name exprs p ids || mentions p (node_expr exprs at)))
        → ((node : ℕ) (p : List ℕ → Bool) → node < at → is_visited now node ≡ true → mentions p (node_expr exprs node) ≡ true
        → passes_some_name exprs p more ≡ true) → IsWalking exprs last before old next now more
    walk_down next now more less room here kept above exact found = record {
      below = omega (arith, h.below);
      room = room ∙ h.room;
      begun = λ l. begun_by (cases_lt at last);
      kept = λ node w. kept node (h.kept node w);
      above = λ node l. above node (omega (arith, h.below)) ∙ h.above node l;
      exact = λ p. exact p ∙ h.exact p;
      found = λ node p l w m. found node p (omega arith) w m;
      whole = λ node p l w m. whole_by node p l w m (cases_lt node at) (cases_lt at node);
    }
      where
        begun_by : (at < last) ⊎ (last ≤ at) → is_visited now last ≡ true
        begun_by (inl l) = kept last (h.begun l)
        begun_by (inr l) = let e : at ≡ last = omega (arith, h.below) in rw (← e) here

        whole_by : (node : ℕ) (p : List ℕ → Bool) → node ≤ last → is_visited now node ≡ true → mentions p (node_expr exprs node) ≡ true
            → (node < at) ⊎ (at ≤ node) → (at < node) ⊎ (node ≤ at) → whole_of p ≡ true
        whole_by node p l w m (inl b) _ = sym (exact p ∙ h.exact p) ∙ or_left _ _ (found node p b w m)
        whole_by node p l w m (inr b) (inl a) = h.whole node p l (sym (above node a) ∙ w) m
        whole_by node p l w m (inr b) (inr a) = let e : node ≡ at = omega (arith, a, b) in sym (h.exact p)
            ∙ or_right _ _ (ap (λ n. mentions p (node_expr exprs n)) (sym e) ∙ m)

    -- what is found below this node
    found_before : (node : ℕ) (p : List ℕ → Bool) → node < at → is_visited (slice_set walked at true) node ≡ true → mentions p (node_expr exprs node) ≡ true
        → passes_some_name exprs p ids ≡ true
    found_before node p l w m = h.found node p (omega (arith, l)) (sym (set_there node (λ e. absurd (omega (arith, l, e)))) ∙ w) m

    -- a walk ends at a node whose names are all appended to those found before
    pub walk_visited : (more : List ℕ)
        → ((p : List ℕ → Bool) → passes_some_name exprs p more ≡ (passes_some_name exprs p ids || mentions p (node_expr exprs at)))
        → HasVisited exprs last before (slice_set walked at true) old more
    walk_visited more exact =
        let same : (p : List ℕ → Bool) → passes_some_name exprs p more ≡ whole_of p = λ p. exact p ∙ h.exact p in
        record {
          room = length-set walked at true ∙ h.room;
          walked = walked_by (cases_lt at last);
          kept = λ node w. set_kept node (h.kept node w);
          above = λ node l. set_there node (λ e. absurd (omega (arith, l, e, h.below))) ∙ h.above node l;
          exact = same;
          found = λ node p l w m. found_by node p l w m (cases_eq node at);
        }
      where
        walked_by : (at < last) ⊎ (last ≤ at) → is_visited (slice_set walked at true) last ≡ true
        walked_by (inl l) = set_kept last (h.begun l)
        walked_by (inr l) = let e : at ≡ last = omega (arith, h.below) in rw (← e) set_here

        found_by : (node : ℕ) (p : List ℕ → Bool) → node ≤ last → is_visited (slice_set walked at true) node ≡ true → mentions p (node_expr exprs node) ≡ true
            → (node ≡ at) ⊎ (node ≢ at) → passes_some_name exprs p more ≡ true
        found_by node p l w m (inl e) = exact p ∙ or_right _ _ (ap (λ n. mentions p (node_expr exprs n)) (sym e) ∙ m)
        found_by node p l w m (inr n) = exact p ∙ h.exact p ∙ h.whole node p l (sym (set_there node n) ∙ w) m

    -- a walk goes on from a node with one part to that part
    pub walk_one : (part : ℕ) → part < at → ((p : List ℕ → Bool) → mentions p (node_expr exprs at) ≡ mentions p (node_expr exprs part))
        → IsWalking exprs last before old part (slice_set walked at true) ids
    walk_one part less e = walk_down part (slice_set walked at true) ids less (length-set walked at true) set_here set_kept
        (λ node l. set_there node (λ f. absurd (omega (arith, l, f)))) (λ p. ap (λ t. passes_some_name exprs p ids || t) (sym (e p))) found_before

    -- a walk goes on from a node with two parts to the left one, after the right one was visited
    pub walk_two : (left right : ℕ) (now : List Bool) (more : List ℕ) → left < at → right < at
        → ((p : List ℕ → Bool) → mentions p (node_expr exprs at) ≡ (mentions p (node_expr exprs left) || mentions p (node_expr exprs right)))
        → HasVisited exprs right (slice_set walked at true) now ids more → IsWalking exprs last before old left now more
    walk_two left right now more l r e g = walk_down left now more l (g.room ∙ length-set walked at true) (g.above at r ∙ set_here)
        (λ node w. g.kept node (set_kept node w)) (λ node b. g.above node (omega (arith, r, b)) ∙ set_there node (λ f. absurd (omega (arith, b, f)))) exact
        (λ node p b w m. found_by node p b w m (cases_lt right node))
      where
        exact : (p : List ℕ → Bool) → (passes_some_name exprs p more || mentions p (node_expr exprs left))
            ≡ (passes_some_name exprs p ids || mentions p (node_expr exprs at))
        exact p = ap (λ t. t || mentions p (node_expr exprs left)) (g.exact p) ∙ or_assoc (passes_some_name exprs p ids) (mentions p (node_expr exprs right))
            (mentions p (node_expr exprs left)) ∙ ap (λ t. passes_some_name exprs p ids || t)
            (or_comm (mentions p (node_expr exprs right)) (mentions p (node_expr exprs left)) ∙ sym (e p))

        found_by : (node : ℕ) (p : List ℕ → Bool) → node < at → is_visited now node ≡ true → mentions p (node_expr exprs node) ≡ true
            → (right < node) ⊎ (node ≤ right) → passes_some_name exprs p more ≡ true
        found_by node p b w m (inl a) = g.exact p ∙ or_left _ _ (found_before node p b (sym (g.above node a) ∙ w) m)
        found_by node p b w m (inr a) = g.found node p a w m

-- where names are appended to a list, a test passes one of all if it passes one of the old or of the appended ones
pub some_pushed : (exprs : Exprs) (p : List ℕ → Bool) (old new : List ℕ) (more : List (List ℕ)) → map (λ i. slice_index_or exprs.names i []) new
    ≡ map (λ i. slice_index_or exprs.names i []) old ++ more → passes_some_name exprs p new ≡ (passes_some_name exprs p old || list_any p more)
some_pushed exprs p old new more e = ap (list_any p) e ∙ list_any-append p (map (λ i. slice_index_or exprs.names i []) old) more

pub both_pushed : (exprs : Exprs) (p : List ℕ → Bool) (old mid new : List ℕ) (a b : List (List ℕ)) → map (λ i. slice_index_or exprs.names i []) mid
    ≡ map (λ i. slice_index_or exprs.names i []) old ++ a → map (λ i. slice_index_or exprs.names i []) new ≡ map (λ i. slice_index_or exprs.names i []) mid ++ b
    → passes_some_name exprs p new ≡ (passes_some_name exprs p old || list_any p (a ++ b))
both_pushed exprs p old mid new a b e f = some_pushed exprs p mid new b f ∙ ap (λ t. t || list_any p b) (some_pushed exprs p old mid a e)
    ∙ or_assoc (passes_some_name exprs p old) (list_any p a) (list_any p b) ∙ ap (λ t. passes_some_name exprs p old || t) (sym (list_any-append p a b))
