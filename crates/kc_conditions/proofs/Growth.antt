-- Joined expressions are what the definition has there, and stay so as the arena grows.
use Rattle.std.proofs.Common.{append_assoc}
use Rattle.kc_conditions.proofs.Common.{◌≡◌, ℕ, ◌<◌, Bool, true, false, cond, List, [], ◌∷◌, ◌++◌, length, get_or, take, map, Option, Some, None, suc, ◌+◌, refl, ap, sym, subst, ◌∙◌, arith, append-nil, All, IfSome, Exprs, Represents, node_expr, Grows, Expr, represents_on, AttributeNodesExist}
use Rattle.kc_conditions.proofs.Common.{is_prompt, conjunct_given, grows_on, node_held, node_same, LineNodesExist, conjunction_of, visible_conjunct, Conjoins, conjunct, conjunct_views, AreJoined, AreAppended, condition_view, line_condition, or_yes, Dependencies, Visibles, EntryConditions, line_in}
use Rattle.kc_conditions.proofs.Common.{ReadAttribute, CodeLine, Line, Attribute, depends_of, visible_of}
use Rattle.std.proofs.lemmas.List.{map-append, take_more}
use Rattle.std.proofs.lemmas.List.Elements.{All-append, All-cons, All-nil}
use Rattle.std.specs.List.{cons_option}
use Rattle.std.specs.Prelude.{filter_map, option_map, option_to_list}
use Rattle.kc_statements.specs.between.StatementViews.{IfNodeExists, attribute_in}
use Rattle.kc_tree_model.specs.between.Attributes.{if_given}
use Rattle.kc_tree_model.specs.declared.statement.Attribute.TheVariants as attributes
use Rattle.kc_tree_model.specs.declared.statement.Conjuncts.{Conjuncts}

pub conjoins_on : (old new : Exprs) → Grows old new → (o : Option ℕ) (es : List Expr) → Conjoins old o es → Conjoins new o es
conjoins_on old new g None es h = h
conjoins_on old new g (Some i) es h = (h.0, represents_on old new i (conjunction_of es) g h.1)

pub there_on : (old new : Exprs) → Grows old new → (o : Option ℕ) → IfSome o (λ i. i < length old.nodes) → IfSome o (λ i. i < length new.nodes)
there_on old new g None h = tt
there_on old new g (Some i) h = node_held old new i g h

-- the number of a conjunction, if it has one, is a node of the arena
pub conjoins_there : (exprs : Exprs) (o : Option ℕ) (es : List Expr) → Conjoins exprs o es → IfSome o (λ i. i < length exprs.nodes)
conjoins_there exprs None es h = tt
conjoins_there exprs (Some i) es h = h.1.within

-- an optional node is the conjunction of its own expression, or without a node of nothing
pub conjoins_own : (exprs : Exprs) (o : Option ℕ) → IfSome o (λ i. i < length exprs.nodes) → Conjoins exprs o (conjunct exprs o)
conjoins_own exprs None h = refl
conjoins_own exprs (Some i) h = (omega arith, record { within = h; is = refl })

pub conjunct_on : (old new : Exprs) → Grows old new → (o : Option ℕ) → IfSome o (λ i. i < length old.nodes) → conjunct new o ≡ conjunct old o
conjunct_on old new g None h = refl
conjunct_on old new g (Some i) h = ap (λ e. e ∷ []) (node_same old new i g h)

pub joined_on : (old new : Exprs) → Grows old new → (e : EntryConditions) (ds vs own : List Expr) → AreJoined old e ds vs own → AreJoined new e ds vs own
joined_on old new g e ds vs own j = record {
  dependencies_are = conjoins_on old new g e.dependencies ds j.dependencies_are;
  visibles_are = conjoins_on old new g e.visibles (vs ++ own) j.visibles_are;
  shown_is = conjoins_on old new g e.shown (ds ++ visible_conjunct vs) j.shown_is;
}

-- the `depends on` or the `visible if` of an attribute, as the first argument asks; `None` for any other attribute
abbrev pub part_meant : Conjuncts → Attribute → Option Expr
part_meant Dependencies a = depends_of a
part_meant Visibles a = visible_of a

pub part_is : (e : Exprs) (part : Conjuncts) (a : ReadAttribute) → option_map (node_expr e) (conjunct_given part a) ≡ part_meant part (attribute_in e a)
part_is e Dependencies (attributes.Depends i) = refl
part_is e Dependencies a = refl
part_is e Visibles (attributes.Visible i) = refl
part_is e Visibles a = refl

pub option_front : {X : Type 0} (o : Option X) (xs : List X) → option_to_list o ++ xs ≡ cons_option o xs
option_front None xs = refl
option_front (Some x) xs = refl

pub parts_given : (e : Exprs) (part : Conjuncts) (lines : List CodeLine)
    → conjunct_views part e lines ≡ filter_map (λ (l : Line). part_meant part l.attribute) (map (line_in e) lines)
parts_given e part [] = refl
parts_given e part (l ∷ lines) =
    option_front (option_map (node_expr e) (conjunct_given part l.attribute)) (conjunct_views part e lines)
    ∙ ap (λ o. cons_option o (conjunct_views part e lines)) (part_is e part l.attribute)
    ∙ ap (cons_option (part_meant part (attribute_in e l.attribute))) (parts_given e part lines)

-- the conjunct of an attribute whose nodes exist is a node of the arena
pub reported_there : (w : Conjuncts) (exprs : Exprs) (a : ReadAttribute) → AttributeNodesExist exprs a
    → IfSome (conjunct_given w a) (λ i. i < length exprs.nodes)
reported_there Dependencies exprs (attributes.Depends id) h = h
reported_there Dependencies exprs x h = tt
reported_there Visibles exprs (attributes.Visible id) h = h
reported_there Visibles exprs x h = tt

pub if_there : (exprs : Exprs) (c : Option ℕ) → IfNodeExists exprs c → IfSome c (λ i. i < length exprs.nodes)
if_there exprs None h = tt
if_there exprs (Some i) h = h

-- the `if` of an attribute whose nodes exist is a node of the arena
pub if_node_exists : (exprs : Exprs) (a : ReadAttribute) → AttributeNodesExist exprs a → IfSome (if_given a) (λ i. i < length exprs.nodes)
if_node_exists exprs (attributes.TypedPrompt k c) h = if_there exprs c h
if_node_exists exprs (attributes.TypedDefault k d) h = if_there exprs d.condition h.1
if_node_exists exprs (attributes.Prompt c) h = if_there exprs c h
if_node_exists exprs (attributes.Default d) h = if_there exprs d.condition h.1
if_node_exists exprs (attributes.Select s) h = if_there exprs s.condition h.1
if_node_exists exprs (attributes.Imply s) h = if_there exprs s.condition h.1
if_node_exists exprs (attributes.Range r) h = if_there exprs r.condition h.2
if_node_exists exprs x h = tt

reported_append : (w : Conjuncts) (exprs : Exprs) (xs ys : List CodeLine)
    → conjunct_views w exprs (xs ++ ys) ≡ conjunct_views w exprs xs ++ conjunct_views w exprs ys
reported_append w exprs [] ys = refl
reported_append w exprs (x ∷ xs) ys =
    ap (λ es. conjunct exprs (conjunct_given w x.attribute) ++ es) (reported_append w exprs xs ys)
    ∙ sym (append_assoc (conjunct exprs (conjunct_given w x.attribute)) (conjunct_views w exprs xs) (conjunct_views w exprs ys))

-- the conjuncts of the first `k + 1` attribute lines are those of the first `k` and, after them, that of line `k`
pub reported_more : (w : Conjuncts) (exprs : Exprs) (lines : List CodeLine) (k : ℕ) (d : CodeLine) → k < length lines
    → conjunct_views w exprs (take (k + 1) lines) ≡ conjunct_views w exprs (take k lines) ++ conjunct exprs (conjunct_given w (get_or lines k d).attribute)
reported_more w exprs lines k d h =
    ap (conjunct_views w exprs) (take_more lines k d h) ∙ reported_append w exprs (take k lines) (get_or lines k d ∷ [])
    ∙ ap (λ es. conjunct_views w exprs (take k lines) ++ es) (append-nil (conjunct exprs (conjunct_given w (get_or lines k d).attribute)))

-- the conjuncts of attribute lines are the same after the arena grew
pub reported_on : (w : Conjuncts) (old new : Exprs) (lines : List CodeLine) → Grows old new → All (LineNodesExist old) lines
    → conjunct_views w new lines ≡ conjunct_views w old lines
reported_on w old new [] g h = refl
reported_on w old new (l ∷ lines) g h =
    let a : AttributeNodesExist old l.attribute = h 0 l (omega arith) in
    let e = conjunct_on old new g (conjunct_given w l.attribute) (reported_there w old l.attribute a) in
    let f = reported_on w old new lines g (λ k d i. h (suc k) d (omega arith)) in
    cc

-- an optional conjunction, or `y` without one, represents the conjunction of all its conjuncts
pub represents_all : (exprs : Exprs) (o : Option ℕ) (y : ℕ) (es : List Expr) → Conjoins exprs o es → Represents exprs y (conjunction_of [])
    → Represents exprs (or_yes y o) (conjunction_of es)
represents_all exprs None y es h s = subst (λ xs. Represents exprs y (conjunction_of xs)) (sym h) s
represents_all exprs (Some i) y es h s = h.1

-- the number of a conjunction of `visible if`s, as a list of conjuncts, is the one conjunct that the model makes of them
pub one_visible : (exprs : Exprs) (o : Option ℕ) (vs : List Expr) → Conjoins exprs o vs → conjunct exprs o ≡ visible_conjunct vs
one_visible exprs None vs h = rw h refl
one_visible exprs (Some i) [] h = absurd (omega (arith, h.0))
one_visible exprs (Some i) (v ∷ vs) h = ap (λ e. e ∷ []) h.1.is

-- the conjunct of line `k` joined to those of the lines before it gives the conjunction of the first `k + 1` lines
pub with_more : (old mid new : Exprs) (w : Conjuncts) (lines : List CodeLine) (k : ℕ) (d : CodeLine) (all joined c more : Option ℕ) → Grows old mid
    → All (LineNodesExist old) lines → k < length lines → d ≡ get_or lines k d → more ≡ conjunct_given w d.attribute
    → ((es : List Expr) → Conjoins old all es → Conjoins mid joined (es ++ conjunct_views w old (take k lines)))
    → ((es : List Expr) → Conjoins mid joined es → Conjoins new c (es ++ conjunct mid more))
    → (es : List Expr) → Conjoins old all es → Conjoins new c (es ++ conjunct_views w old (take (k + 1) lines))
with_more old mid new w lines k d all joined c more g held h e m f step es j =
    let a : AttributeNodesExist old (get_or lines k d).attribute = held k d h in
    let n : more ≡ conjunct_given w (get_or lines k d).attribute = m ∙ ap (λ (l : CodeLine). conjunct_given w l.attribute) e in
    let t : IfSome (conjunct_given w (get_or lines k d).attribute) (λ i. i < length old.nodes) = reported_there w old (get_or lines k d).attribute a in
    let same : conjunct mid more ≡ conjunct old (conjunct_given w (get_or lines k d).attribute) = ap (conjunct mid) n
    ∙ conjunct_on old mid g (conjunct_given w (get_or lines k d).attribute) t in
    subst (Conjoins new c)
    (append_assoc es (conjunct_views w old (take k lines)) (conjunct mid more) ∙ ap (λ xs. es ++ (conjunct_views w old (take k lines) ++ xs)) same
    ∙ ap (λ xs. es ++ xs) (sym (reported_more w old lines k d h)))
    (step (es ++ conjunct_views w old (take k lines)) (f es j))

by_test : (b : Bool) (x y u v : Expr) → x ≡ u → y ≡ v → cond b x y ≡ cond b u v
by_test true x y u v e f = e
by_test false x y u v e f = f

-- the joined condition of an attribute is the same after the arena grew
pub condition_on : (old new : Exprs) (ds vs : List Expr) (a : ReadAttribute) → Grows old new → AttributeNodesExist old a
    → condition_view new ds vs a ≡ condition_view old ds vs a
condition_on old new ds vs a g h =
    let e = conjunct_on old new g (if_given a) (if_node_exists old a h) in
    by_test (is_prompt a) _ _ _ _ (ap (λ c. conjunction_of (ds ++ (visible_conjunct vs ++ c))) e) (ap (λ c. conjunction_of (ds ++ c)) e)

pub represent_on : (old new : Exprs) (ids : List ℕ) → Grows old new → All (λ i. i < length old.nodes) ids → map (node_expr new) ids ≡ map (node_expr old) ids
represent_on old new [] g h = refl
represent_on old new (i ∷ ids) g h =
    let e = node_same old new i g (h 0 0 (omega arith)) in
    let f = represent_on old new ids g (λ k d l. h (suc k) d (omega arith)) in
    cc

pub held_on : (old new : Exprs) (ids : List ℕ) → Grows old new → All (λ i. i < length old.nodes) ids → All (λ i. i < length new.nodes) ids
held_on old new ids g h = λ k d l. node_held old new (get_or ids k d) g (h k d l)

-- the condition of line `k` appended to those of the lines before it gives the conditions of the first `k + 1` lines
pub after_more : (old mid new : Exprs) (before after : List ℕ) (ds vs : List Expr) (lines : List CodeLine) (k id : ℕ) (d : CodeLine) → Grows old mid
    → Grows mid new → All (LineNodesExist old) lines → k < length lines → d ≡ get_or lines k d
    → AreAppended old mid before after ds vs (take k lines) → Represents new id (condition_view mid ds vs d.attribute)
    → AreAppended old new before (after ++ id ∷ []) ds vs (take (k + 1) lines)
after_more old mid new before after ds vs lines k id d g m held h e b s =
    let l : d ≡ get_or lines k d = e in
    let a : AttributeNodesExist old d.attribute = subst (λ (x : CodeLine). AttributeNodesExist old x.attribute) (sym l) (held k d h) in
    let here : node_expr new id ≡ line_condition old ds vs (get_or lines k d) = s.is ∙ condition_on old mid ds vs d.attribute g a
    ∙ ap (line_condition old ds vs) l in
    record {
      own = b.own ++ id ∷ [];
      is = ap (λ xs. xs ++ id ∷ []) b.is ∙ append_assoc before b.own (id ∷ []);
      exprs_are = map-append (node_expr new) b.own (id ∷ [])
          ∙ ap (λ xs. xs ++ node_expr new id ∷ []) (represent_on mid new b.own m b.held ∙ b.exprs_are)
          ∙ ap (λ x. map (line_condition old ds vs) (take k lines) ++ x ∷ []) here
          ∙ sym (map-append (line_condition old ds vs) (take k lines) (get_or lines k d ∷ []))
          ∙ ap (map (line_condition old ds vs)) (sym (take_more lines k d h));
      held = All-append (λ i. i < length new.nodes) b.own (id ∷ []) (held_on mid new b.own m b.held)
          (All-cons (λ i. i < length new.nodes) id [] s.within (All-nil (λ i. i < length new.nodes)));
    }

-- an unchanged list of conditions has those of no attribute lines appended
pub none_after : (exprs : Exprs) (before : List ℕ) (ds vs : List Expr) → AreAppended exprs exprs before before ds vs []
none_after exprs before ds vs = record { own = []; is = sym (append-nil before); exprs_are = refl; held = All-nil (λ i. i < length exprs.nodes) }

-- the enclosing conditions and an entry's own conjuncts, joined one after the other, are the entry's joined conditions
pub entry_joined : (old mid far new : Exprs) (lines : List CodeLine) (dependencies visibles d v s : Option ℕ) → Grows old mid → Grows mid far → Grows far new
    → All (LineNodesExist old) lines
    → IfSome visibles (λ i. i < length old.nodes)
    → ((es : List Expr) → Conjoins old dependencies es → Conjoins mid d (es ++ conjunct_views Dependencies old lines))
    → ((es : List Expr) → Conjoins mid visibles es → Conjoins far v (es ++ conjunct_views Visibles mid lines))
    → ((es : List Expr) → Conjoins far d es → Conjoins new s (es ++ conjunct far visibles))
    → (ds vs : List Expr) → Conjoins old dependencies ds → Conjoins old visibles vs
    → AreJoined new (record { dependencies = d; visibles = v; shown = s }) (ds ++ conjunct_views Dependencies old lines) vs (conjunct_views Visibles old lines)
entry_joined old mid far new lines dependencies visibles d v s g h i held there f k l ds vs p q =
    let dm = f ds p in
    let same : conjunct far visibles ≡ visible_conjunct vs = one_visible far visibles vs (conjoins_on old far (grows_on old mid far g h) visibles vs q) in
    record {
      dependencies_are = conjoins_on mid new (grows_on mid far new h i) d (ds ++ conjunct_views Dependencies old lines) dm;
      visibles_are = conjoins_on far new i v (vs ++ conjunct_views Visibles old lines)
          (subst (λ es. Conjoins far v (vs ++ es)) (reported_on Visibles old mid lines g held) (k vs (conjoins_on old mid g visibles vs q)));
      shown_is = subst (λ es. Conjoins new s ((ds ++ conjunct_views Dependencies old lines) ++ es)) same
          (l (ds ++ conjunct_views Dependencies old lines) (conjoins_on mid far h d (ds ++ conjunct_views Dependencies old lines) dm));
    }
