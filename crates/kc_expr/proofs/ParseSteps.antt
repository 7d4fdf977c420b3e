-- The results of the parser's functions, step by step.
use Rattle.kc_expr.proofs.Common.{◌≡◌, ℕ, suc, ◌+◌, ◌≤◌, ◌<◌, ◌⊎◌, inl, inr, Bool, true, false, List, length, drop, Option, Some, None, Result, Ok, Err, refl, ap, sym, ◌∙◌, subst, arith, option_map, cases_lt, ExprFault, ExprKind, Malformed, NodeStore, Relop, TokenKind, Not, Open, Close, Represents}
use Rattle.kc_expr.proofs.Common.{node_expr, Expr, Operand, alone, related, negated, Read, on_read, past_depth_limit, closed, fault_of, as_condition, first_kind, first_operand, first_relation, IsParsedToEnd, IsRefusedToEnd, exprs_in, IsSound, Extends, Lexeme}
use Rattle.std.proofs.Math.ListN.{drop_of_length-le}
use Rattle.kc_expr.specs.checker.ParserResults.{operand_read, factor_read, connective_kind, part_read, joined_read, read_all_tokens, IsParsed, IsExpressionRefused, Parses, MeetsFault}
use Rattle.kc_expr.proofs.ReaderSteps.{first_fails, first, link_fails, link, ends, as_joined, joined_on, drop_one, operand_none, operand_alone, operand_no_right, operand_related, factor_operand, factor_too_deep, factor_not, factor_open, closed_ok, closed_not, whole_fails, whole_left, whole_ok}
use Rattle.kc_expr.proofs.StoreLemmas.{represents_later}
use Rattle.kc_expr.specs.declared.node.Connective.{Connective}
use Rattle.kc_expr.specs.declared.node.Connective.TheVariants.{Or as Ors}
use Rattle.kc_expr.specs.checker.Nodes.{joined}

-- conditions of composed expressions
as_related : (c : Bool) (op : Relop) (a b : Operand) → related op a b ≡ as_condition c (related op a b)
as_related true op a b = refl
as_related false op a b = refl

as_negated : (c : Bool) (e : Expr) → negated (as_condition c e) ≡ as_condition c (negated e)
as_negated true e = refl
as_negated false e = refl

-- where a fault of one reading is that of another too, the parser's refusal by the former is one by the latter
pub refused_on : (all : List Lexeme) (read more : Read) (e : ExprFault) → ((f : ExprKind × List Lexeme) → read ≡ Err f → more ≡ Err f) → IsExpressionRefused all read e
    → IsExpressionRefused all more e
refused_on all read more e h (inl m) = inl m
refused_on all read more e h (inr (f, r, q)) = inr (f, h f r, q)

pub refused_by : (all : List Lexeme) (read more : Read) (e : ExprFault) → more ≡ read → IsExpressionRefused all read e → IsExpressionRefused all more e
refused_by all read more e h x = refused_on all read more e (λ f r. h ∙ r) x

-- what the parser returns for a reading it returns for any equal reading
pub parses_by : (s : NodeStore) (all : List Lexeme) (condition : Bool) (at : ℕ) (read more : Read) (r : Result (ℕ × ℕ) ExprFault) → more ≡ read
    → Parses s all condition at read r → Parses s all condition at more r
parses_by s all condition at read more (Err e) h p = refused_by all read more e h p
parses_by s all condition at read more (Ok r) h p =
    record { expr = p.expr; reads = h ∙ p.reads; forward = p.forward; within = p.within; represents = p.represents }

drop_two : (at : ℕ) (all : List Lexeme) → drop (at + 2) all ≡ drop 1 (drop 1 (drop at all))
drop_two at all = ap (λ n. drop n all) (let q : at + 2 ≡ (at + 1) + 1 = omega arith in q) ∙ drop_one (at + 1) all ∙ ap (drop 1) (drop_one at all)

drop_three : (at : ℕ) (all : List Lexeme) → drop (at + 3) all ≡ drop 1 (drop 1 (drop 1 (drop at all)))
drop_three at all = ap (λ n. drop n all) (let q : at + 3 ≡ (at + 2) + 1 = omega arith in q) ∙ drop_one (at + 2) all ∙ ap (drop 1) (drop_two at all)

-- the place of an element is within the list
within_by : (all : List Lexeme) (at : ℕ) (a : Operand) → first_operand (drop at all) ≡ Some a → (at < length all) ⊎ (length all ≤ at) → at + 1 ≤ length all
within_by all at a e (inl h) = omega arith
within_by all at a e (inr h) = let n = ap first_operand (drop_of_length-le all h) in absurd (let q : None ≡ Some a = sym n ∙ e in cc)

operand_within : (all : List Lexeme) (at : ℕ) (a : Operand) → first_operand (drop at all) ≡ Some a → at + 1 ≤ length all
operand_within all at a e = within_by all at a e (cases_lt at (length all))

kind_by : (all : List Lexeme) (at : ℕ) (k : TokenKind) → first_kind (drop at all) ≡ Some k → (at < length all) ⊎ (length all ≤ at) → at + 1 ≤ length all
kind_by all at k e (inl h) = omega arith
kind_by all at k e (inr h) = let n = ap first_kind (drop_of_length-le all h) in absurd (let q : None ≡ Some k = sym n ∙ e in cc)

pub kind_within : (all : List Lexeme) (at : ℕ) (k : TokenKind) → first_kind (drop at all) ≡ Some k → at + 1 ≤ length all
kind_within all at k e = kind_by all at k e (cases_lt at (length all))

-- what an operand that was found is
found_none : {X : Type 0} (f : X → Operand) (o : Option X) (us : List Lexeme) → option_map f o ≡ first_operand us → o ≡ None → first_operand us ≡ None
found_none f o us e n = sym e ∙ ap (option_map f) n

found_some : {X : Type 0} (f : X → Operand) (o : Option X) (x : X) (us : List Lexeme) → option_map f o ≡ first_operand us → o ≡ Some x
    → first_operand us ≡ Some (f x)
found_some f o x us e n = sym e ∙ ap (option_map f) n

module _ {X : Type 0} (f : X → Operand) (o : Option X) (all : List Lexeme) (at : ℕ) (found : option_map f o ≡ first_operand (drop at all)) where
  pub relation_missing : (e : ExprFault) → o ≡ None → e ≡ fault_of all (Malformed, drop at all) → IsExpressionRefused all (operand_read (drop at all)) e
  relation_missing e n q = inr ((Malformed, drop at all), operand_none (drop at all) (found_none f o (drop at all) found n), q)

  module _ (x : X) (is : o ≡ Some x) where
    pub relation_alone : (s : NodeStore) (condition : Bool) (id : ℕ) → first_relation (drop (at + 1) all) ≡ None
        → Represents (exprs_in s) id (as_condition condition (alone (f x))) → IsParsed s all condition at (operand_read (drop at all)) id (at + 1)
    relation_alone s condition id n h = record {
      expr = alone (f x);
      reads = operand_alone (drop at all) (f x) (found_some f o x (drop at all) found is) (sym (ap first_relation (drop_one at all)) ∙ n)
          ∙ ap (λ us. Ok (alone (f x), us)) (sym (drop_one at all));
      forward = omega arith;
      within = operand_within all at (f x) (found_some f o x (drop at all) found is);
      represents = h;
    }

    module _ (op : Relop) (relates : first_relation (drop (at + 1) all) ≡ Some op) {Y : Type 0} (g : Y → Operand) (p : Option Y)
        (right : option_map g p ≡ first_operand (drop (at + 2) all)) where
      pub relation_unfinished : (e : ExprFault) → p ≡ None → e ≡ fault_of all (Malformed, drop (at + 2) all) → IsExpressionRefused all (operand_read (drop at all)) e
      relation_unfinished e n q = inr (
        (Malformed, drop (at + 2) all),
        operand_no_right (drop at all) (f x) op (found_some f o x (drop at all) found is) (sym (ap first_relation (drop_one at all)) ∙ relates)
            (sym (ap first_operand (drop_two at all)) ∙ found_none g p (drop (at + 2) all) right n)
            ∙ ap (λ us. Err (Malformed, us)) (sym (drop_two at all)),
        q,
      )

      pub relation_whole : (y : Y) → p ≡ Some y → (s : NodeStore) (condition : Bool) (id : ℕ) (a : Operand) → a ≡ f x
          → Represents (exprs_in s) id (related op a (g y)) → IsParsed s all condition at (operand_read (drop at all)) id (at + 3)
      relation_whole y q s condition id a same h = record {
        expr = related op (f x) (g y);
        reads = operand_related (drop at all) (f x) (g y) op (found_some f o x (drop at all) found is) (sym (ap first_relation (drop_one at all)) ∙ relates)
            (sym (ap first_operand (drop_two at all)) ∙ found_some g p y (drop (at + 2) all) right q)
            ∙ ap (λ us. Ok (related op (f x) (g y), us)) (sym (drop_three at all));
        forward = omega arith;
        within = omega (arith, operand_within all (at + 2) (g y) (found_some g p y (drop (at + 2) all) right q));
        represents = subst (Represents (exprs_in s) id) (ap (λ v. related op v (g y)) same ∙ as_related condition op (f x) (g y)) h;
      }

-- a factor, by its first token
module _ (all : List Lexeme) (condition : Bool) (at : ℕ) where
  pub factor_is_operand : (d : ℕ) → (first_kind (drop at all) ≡ Some Not → ⊥) → (first_kind (drop at all) ≡ Some Open → ⊥)
      → factor_read d (drop at all) ≡ operand_read (drop at all)
  factor_is_operand d n o = factor_operand d (drop at all) n o

  pub factor_beyond : (d : ℕ) (e : ExprFault) → d ≡ 0 → (first_kind (drop at all) ≡ Some Not) ⊎ (first_kind (drop at all) ≡ Some Open)
      → MeetsFault all (past_depth_limit (drop (at + 1) all)) e → IsExpressionRefused all (factor_read d (drop at all)) e
  factor_beyond d e z o (f, r, q) = inr (
    f,
    ap (λ d. factor_read d (drop at all)) z ∙ factor_too_deep (drop at all) o
        ∙ ap past_depth_limit (sym (drop_one at all)) ∙ r,
    q,
  )

  module _ (d n : ℕ) (deep : d ≡ suc n) where
    not_step : first_kind (drop at all) ≡ Some Not → factor_read d (drop at all) ≡ on_read (factor_read n (drop (at + 1) all)) (λ r. Ok (negated r.0, r.1))
    not_step k = ap (λ d. factor_read d (drop at all)) deep ∙ factor_not n (drop at all) k ∙ ap (λ us. on_read (factor_read n us) (λ r. Ok (negated r.0, r.1)))
        (sym (drop_one at all))

    open_step : first_kind (drop at all) ≡ Some Open → factor_read d (drop at all) ≡ on_read (joined_read Ors n (drop (at + 1) all)) closed
    open_step k = ap (λ d. factor_read d (drop at all)) deep ∙ factor_open n (drop at all) k ∙ ap (λ us. on_read (joined_read Ors n us) closed) (sym (drop_one at all))

    pub not_fails : first_kind (drop at all) ≡ Some Not → (e : ExprFault) → IsExpressionRefused all (factor_read n (drop (at + 1) all)) e
        → IsExpressionRefused all (factor_read d (drop at all)) e
    not_fails k e h = refused_on all (factor_read n (drop (at + 1) all)) (factor_read d (drop at all)) e
        (λ f r. not_step k ∙ ap (λ q. on_read q (λ r. Ok (negated r.0, r.1))) r) h

    pub not_parsed : first_kind (drop at all) ≡ Some Not → (old new : NodeStore) (part next id : ℕ) → IsParsed old all condition (at + 1)
        (factor_read n (drop (at + 1) all)) part next → Represents (exprs_in new) id (negated (node_expr (exprs_in old) part))
        → IsParsed new all condition at (factor_read d (drop at all)) id next
    not_parsed k old new part next id p h = record {
      expr = negated p.expr;
      reads = not_step k ∙ ap (λ q. on_read q (λ r. Ok (negated r.0, r.1))) p.reads;
      forward = omega (arith, p.forward);
      within = p.within;
      represents = subst (Represents (exprs_in new) id) (ap negated p.represents.is ∙ as_negated condition p.expr) h;
    }

    pub open_fails : first_kind (drop at all) ≡ Some Open → (e : ExprFault) → IsExpressionRefused all (joined_read Ors n (drop (at + 1) all)) e
        → IsExpressionRefused all (factor_read d (drop at all)) e
    open_fails k e h = refused_on all (joined_read Ors n (drop (at + 1) all)) (factor_read d (drop at all)) e (λ f r. open_step k ∙ ap (λ q. on_read q closed) r) h

    pub open_unclosed : first_kind (drop at all) ≡ Some Open → (s : NodeStore) (inside next : ℕ) → IsParsed s all condition (at + 1)
        (joined_read Ors n (drop (at + 1) all)) inside next → (first_kind (drop next all) ≡ Some Close → ⊥) → (e : ExprFault)
        → e ≡ fault_of all (Malformed, drop next all) → IsExpressionRefused all (factor_read d (drop at all)) e
    open_unclosed k s inside next p c e q = inr (
      (Malformed, drop next all),
      open_step k ∙ ap (λ q. on_read q closed) p.reads
          ∙ closed_not p.expr (drop next all) c,
      q,
    )

    pub open_parsed : first_kind (drop at all) ≡ Some Open → (s : NodeStore) (inside next : ℕ) → IsParsed s all condition (at + 1)
        (joined_read Ors n (drop (at + 1) all)) inside next → first_kind (drop next all) ≡ Some Close → IsParsed s all condition at
        (factor_read d (drop at all)) inside (next + 1)
    open_parsed k s inside next p c = record {
      expr = p.expr;
      reads = open_step k ∙ ap (λ q. on_read q closed) p.reads ∙ closed_ok p.expr (drop next all) c ∙ ap (λ us. Ok (p.expr, us)) (sym (drop_one next all));
      forward = omega (arith, p.forward);
      within = kind_within all next Close c;
      represents = p.represents;
    }

-- the front of joined parts was read from an index of the tokens on, a node represents it, and `next` is the index where they
-- continue
pub record IsChained (c : Connective) (s : NodeStore) (all : List Lexeme) (condition : Bool) (at d id next : ℕ) : Type 0 where
  pub expr : Expr
  pub reads : joined_read c d (drop at all) ≡ joined_on c d expr (drop next all)
  pub forward : at ≤ next
  pub within : next ≤ length all
  pub represents : Represents (exprs_in s) id (as_condition condition expr)

-- joined parts, by the steps of their reader
module _ (c : Connective) (all : List Lexeme) (condition : Bool) (at d : ℕ) where
  pub chain_first_fails : (e : ExprFault) → IsExpressionRefused all (part_read c d (drop at all)) e → IsExpressionRefused all (joined_read c d (drop at all)) e
  chain_first_fails e h = refused_on all (part_read c d (drop at all)) (joined_read c d (drop at all)) e (first_fails c d (drop at all)) h

  pub chain_begins : (s : NodeStore) (id next : ℕ) → IsParsed s all condition at (part_read c d (drop at all)) id next → IsChained c s all condition at d id next
  chain_begins s id next p = record {
    expr = p.expr;
    reads = first c d (drop at all) (drop next all) p.expr p.reads;
    forward = p.forward;
    within = p.within;
    represents = p.represents;
  }

  pub chain_fails : (s : NodeStore) (left next : ℕ) → IsChained c s all condition at d left next → first_kind (drop next all) ≡ Some (connective_kind c)
      → (e : ExprFault) → IsExpressionRefused all (part_read c d (drop (next + 1) all)) e → IsExpressionRefused all (joined_read c d (drop at all)) e
  chain_fails s left next p k e h = refused_on all (part_read c d (drop (next + 1) all)) (joined_read c d (drop at all)) e
      (λ f r. p.reads ∙ link_fails c d (drop next all) p.expr f k (ap (part_read c d) (sym (drop_one next all)) ∙ r)) h

  pub chain_goes_on : (s0 s1 s2 : NodeStore) (left next right after id : ℕ) → IsChained c s0 all condition at d left next
      → first_kind (drop next all) ≡ Some (connective_kind c) → IsSound s0 → Extends s0 s1
      → IsParsed s1 all condition (next + 1) (part_read c d (drop (next + 1) all)) right after
      → Represents (exprs_in s2) id (joined c (node_expr (exprs_in s1) left) (node_expr (exprs_in s1) right)) → IsChained c s2 all condition at d id after
  chain_goes_on s0 s1 s2 left next right after id p k sound x q h =
      let kept = represents_later s0 s1 left (as_condition condition p.expr) sound x p.represents in
      record {
        expr = joined c p.expr q.expr;
        reads = p.reads ∙ link c d (drop next all) (drop after all) p.expr q.expr k (ap (part_read c d) (sym (drop_one next all)) ∙ q.reads);
        forward = omega (arith, p.forward, q.forward);
        within = q.within;
        represents = subst (Represents (exprs_in s2) id) (ap (λ v. joined c v (node_expr (exprs_in s1) right)) kept.is
            ∙ ap (joined c (as_condition condition p.expr)) q.represents.is ∙ as_joined c condition p.expr q.expr) h;
      }

  pub chain_ends : (s : NodeStore) (id next : ℕ) → IsChained c s all condition at d id next → (first_kind (drop next all) ≡ Some (connective_kind c) → ⊥)
      → IsParsed s all condition at (joined_read c d (drop at all)) id next
  chain_ends s id next p n = record {
    expr = p.expr;
    reads = p.reads ∙ ends c d (drop next all) p.expr n;
    forward = p.forward;
    within = p.within;
    represents = p.represents;
  }

-- all of the tokens
module _ (all : List Lexeme) (condition : Bool) (at d : ℕ) where
  pub whole_refused : (e : ExprFault) → IsExpressionRefused all (joined_read Ors d (drop at all)) e → IsRefusedToEnd all (read_all_tokens d (drop at all)) e
  whole_refused e (inl m) = inl m
  whole_refused e (inr (f, r, q)) = inr (f, whole_fails d (drop at all) f r, q)

  pub whole_too_long : (s : NodeStore) (id next : ℕ) → IsParsed s all condition at (joined_read Ors d (drop at all)) id next → 0 < length (drop next all) → (e : ExprFault)
      → e ≡ fault_of all (Malformed, drop next all) → IsRefusedToEnd all (read_all_tokens d (drop at all)) e
  whole_too_long s id next p l e q = inr ((Malformed, drop next all), whole_left d (drop at all) (drop next all) p.expr p.reads l, q)

  pub whole_parsed : (s : NodeStore) (id next : ℕ) → IsParsed s all condition at (joined_read Ors d (drop at all)) id next → length all ≤ next
      → IsParsedToEnd s condition (read_all_tokens d (drop at all)) id
  whole_parsed s id next p l = record {
    expr = p.expr;
    reads = whole_ok d (drop at all) (drop next all) p.expr p.reads (drop_of_length-le all l);
    represents = p.represents;
  }
