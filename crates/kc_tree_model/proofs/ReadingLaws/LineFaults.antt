-- What is read of a line, by the conditions of its faults.
use Rattle.kc_tree_model.proofs.Common.{◌≡◌, ℕ, suc, inl, inr, Bool, true, false, not, cond, List, [], ◌∷◌, ◌++◌, Option, Some, None, Result, Ok, Err, refl, ap, sym, ◌∙◌, subst, length, arith, nat_lt, ltb-true, ltb-false, MAX_LINE_BYTES, ExprFault, ExprKind, Language, Lexeme, lexemes_from}
use Rattle.kc_tree_model.proofs.Common.{IsFirstTokenFault, cut_read, read_cut, TreeKind, LineTooLong, NotUtf8, UnknownStatement, LeftOut, Misplaced, StrayEnd, Malformed, TooDeep, TooMany, LogicalLine, keyword_of, Keyword, Statement, statement_of, kind_of_fault, ◌>>=◌, Group, is_allowed, is_left_out}
use Rattle.kc_tree_model.proofs.Common.{is_stray_end, is_too_deep, is_too_many, fault_if, statement_by_keyword, statement_by_word, statement_or_fault, HasTokens, help_line, cut_line, HasForm, HoldsNever, IsFirstOf, IsForm, HasDeepExpr}
use Rattle.std.specs.Prelude.{take, drop}
use Rattle.std.specs.Str.{is_utf8}
use Rattle.kc_tokens.specs.declared.fault.ExprKind.TheVariants as expr_kinds
use Rattle.kc_tokens.proofs.CutLaws.{read_fault}
use Rattle.kc_expr.proofs.FaultLaws.{fault_read}
use Rattle.kc_tree_model.specs.declared.fault.TreeKind.TheVariants.{BadToken, UnclosedQuote}
use Rattle.kc_tree_model.specs.TreeReading.{statement_on_line}
use Rattle.kc_tree_model.specs.ReadingFaults.{HasTokenFault, BeginsWith, IsLineFault, line_order}
use Rattle.kc_tree_model.proofs.ReadingLaws.TokenFaults.{is_token_kind, token_kind_known, one_tokens}
use Rattle.kc_tree_model.proofs.ReadingLaws.FormFaults.{is_form_kind, known_fault}
use Rattle.kc_tree_model.proofs.ReadingLaws.FirstFaults.{NoneHolds, one_first, with_none}
use Rattle.kc_tree_model.proofs.ReadingLaws.FormLaws.{form_read, forms_related}
use Rattle.kc_tree_model.proofs.ReadingLaws.DeepForms.{deep_related}

tokens_or_fault : (r : Result (List Lexeme) ExprFault) (ts : List Lexeme) (e : ExprFault) → r ≡ Ok ts → r ≡ Err e → ⊥
tokens_or_fault r ts e h k = cc

form_or_fault : (r : Result Statement TreeKind) (s : Statement) (kind : TreeKind) → r ≡ Ok s → r ≡ Err kind → ⊥
form_or_fault r s kind h k = cc

malformed_or_deep : (r : Result Statement TreeKind) → r ≡ Err Malformed → r ≡ Err TooDeep → ⊥
malformed_or_deep r h k = let z : Err Malformed ≡ Err TooDeep = sym h ∙ k in let y : Malformed ≡ TooDeep = cc in cc

true_or_false : (b : Bool) → b ≡ true → b ≡ false → ⊥
true_or_false b h k = cc

not_true : (b : Bool) → not b ≡ true → b ≡ false
not_true true h = cc
not_true false h = refl

module _ (language : Language) (read : List Group) (l : LogicalLine) where
  -- the condition of a kind doesn't hold at the line
  abbrev Never : TreeKind → Type 0
  Never kind = IsLineFault language read l kind → ⊥

  abbrev pub IsFaultless : Type 0
  IsFaultless = HoldsNever (IsLineFault language read l)

  abbrev IsFirst : TreeKind → Type 0
  IsFirst kind = IsFirstOf line_order (IsLineFault language read l) kind

  -- none of the first conditions of the order holds
  abbrev NoneOf : ℕ → Type 0
  NoneOf n = NoneHolds (IsLineFault language read l) (take n line_order)

  first_at : (n : ℕ) (kind : TreeKind) → line_order ≡ take n line_order ++ kind ∷ drop (suc n) line_order → NoneOf n → IsLineFault language read l kind
      → IsFirst kind
  first_at n kind e none h = record { before = take n line_order; after = drop (suc n) line_order; place = e; none_before = none; holds = h }

  also_none : (n : ℕ) (kind : TreeKind) → NoneOf n → Never kind → NoneHolds (IsLineFault language read l) (take n line_order ++ kind ∷ [])
  also_none n kind none h = with_none (IsLineFault language read l) (take n line_order) kind none h

  none_holds : NoneOf 11 → (kind : TreeKind) → IsLineFault language read l kind → ⊥
  none_holds none LineTooLong h = none.0 h
  none_holds none NotUtf8 h = none.1.0 h
  none_holds none BadToken h = none.1.1.0 h
  none_holds none UnclosedQuote h = none.1.1.1.0 h
  none_holds none UnknownStatement h = none.1.1.1.1.0 h
  none_holds none LeftOut h = none.1.1.1.1.1.0 h
  none_holds none Misplaced h = none.1.1.1.1.1.1.0 h
  none_holds none StrayEnd h = none.1.1.1.1.1.1.1.0 h
  none_holds none TooDeep h = none.1.1.1.1.1.1.1.1.0 h
  none_holds none Malformed h = none.1.1.1.1.1.1.1.1.1.0 h
  none_holds none TooMany h = none.1.1.1.1.1.1.1.1.1.1.0 h
  none_holds none kind h = h

  -- this is what is read from a line: its first fault, no statement of a line without tokens, or the statement of its form
  abbrev pub LineIs : Result (Option Statement) TreeKind → Type 0
  LineIs (Err kind) = IsFirstOf line_order (IsLineFault language read l) kind
  LineIs (Ok None) = IsFaultless × HasTokens language l []
  LineIs (Ok (Some s)) = IsFaultless × HasForm language l s

  past : (b : Bool) (kind : TreeKind) (f : Unit {0} → Result (Option Statement) TreeKind) → (b ≡ true → IsFirst kind) → (b ≡ false → LineIs (f tt))
      → LineIs (fault_if b kind >>= f)
  past true kind f h k = h refl
  past false kind f h k = k refl

  past_form : (x : Result Statement TreeKind) (f : Statement → Result (Option Statement) TreeKind) → ((kind : TreeKind) → x ≡ Err kind → IsFirst kind)
      → ((s : Statement) → x ≡ Ok s → LineIs (f s)) → LineIs (x >>= f)
  past_form (Ok s) f h k = k s refl
  past_form (Err kind) f h k = h kind refl

  past_if : (b : Bool) (kind : TreeKind) (x : Result (Option Statement) TreeKind) → (b ≡ true → IsFirst kind) → (b ≡ false → LineIs x)
      → LineIs (cond b (Err kind) x)
  past_if true kind x h k = h refl
  past_if false kind x h k = k refl

  no_token_fault : (ts : List Lexeme) (kind : ExprKind) → lexemes_from language 0 0 l.text ≡ Ok ts → HasTokenFault language l kind → ⊥
  no_token_fault ts kind e h =
      tokens_or_fault (lexemes_from language 0 0 l.text) ts (record { offset = h.0; kind = kind }) e
      (fault_read language 0 l.text (record { offset = h.0; kind = kind }) h.2)

  no_fault_of_help : (kind : ExprKind) → l.help ≡ true → HasTokenFault language l kind → ⊥
  no_fault_of_help kind e h = let z : true ≡ false = sym e ∙ h.1 in cc

  no_tokens : (t : Lexeme) (ts : List Lexeme) → HasTokens language l [] → HasTokens language l (t ∷ ts) → ⊥
  no_tokens t ts h k = let z : [] ≡ t ∷ ts = one_tokens language l [] (t ∷ ts) h k in cc

  same_kind : (r : Result (List Lexeme) ExprFault) (e f : ExprFault) → r ≡ Err e → r ≡ Err f → e.kind ≡ f.kind
  same_kind r e f h k = let same : e ≡ f = cc in ap (λ (x : ExprFault). x.kind) same

  other_token_fault : (e : ExprFault) (kind : ExprKind) → lexemes_from language 0 0 l.text ≡ Err e → HasTokenFault language l kind → e.kind ≡ kind
  other_token_fault e kind h k =
      same_kind (lexemes_from language 0 0 l.text) e (record { offset = k.0; kind = kind }) h
      (fault_read language 0 l.text (record { offset = k.0; kind = kind }) k.2)

  -- the fault of a line's tokens, with its kind
  fault_of_kind : (e : ExprFault) (kind : ExprKind) → e.kind ≡ kind → lexemes_from language 0 0 l.text ≡ Err e
      → IsFirstTokenFault language 0 l.text (record { offset = e.offset; kind = kind })
  fault_of_kind e kind k h =
      subst (IsFirstTokenFault language 0 l.text) (ap (λ x. record { offset = e.offset; kind = x }) k)
      (read_fault language (length l.text) 0 l.text e (omega arith) h)

  no_tokens_with_fault : (e : ExprFault) (ts : List Lexeme) → l.help ≡ false → lexemes_from language 0 0 l.text ≡ Err e → HasTokens language l ts → ⊥
  no_tokens_with_fault e ts f h (help_line k same) = let z : true ≡ false = sym k ∙ f in cc
  no_tokens_with_fault e ts f h (cut_line k c) = tokens_or_fault (lexemes_from language 0 0 l.text) ts e (cut_read language 0 l.text ts c) h

  same_tokens : (u t : Lexeme) (us ts : List Lexeme) → HasTokens language l (u ∷ us) → HasTokens language l (t ∷ ts) → (u ≡ t) × (us ≡ ts)
  same_tokens u t us ts h k =
      let same : u ∷ us ≡ t ∷ ts = one_tokens language l (u ∷ us) (t ∷ ts) h k in
      ((let z : u ≡ t = cc in z), (let z : us ≡ ts = cc in z))

  -- what is so of a line's keyword and the tokens after it
  so_of_line : (k : Keyword) (ts : List Lexeme) → BeginsWith language l k ts → (P : Keyword → List Lexeme → Type 0) (j : Keyword) (us : List Lexeme)
      → BeginsWith language l j us → P j us → P k ts
  so_of_line k ts c P j us b h =
      let same = same_tokens b.0 c.0 us ts b.1 c.1 in
      let z : Some j ≡ Some k = sym b.2 ∙ ap keyword_of same.0 ∙ c.2 in
      let word : j ≡ k = cc in
      subst (P k) same.1 (subst (λ x. P x us) word h)

  module _ (some : NoneOf 2) where
    -- without faults of tokens
    none_of_tokens : ((kind : ExprKind) → HasTokenFault language l kind → ⊥) → NoneOf 4
    none_of_tokens faultless = also_none 3 UnclosedQuote (also_none 2 BadToken some (faultless expr_kinds.BadToken)) (faultless expr_kinds.UnclosedQuote)

    -- a line without tokens
    no_statement : ((kind : ExprKind) → HasTokenFault language l kind → ⊥) → HasTokens language l [] → LineIs (Ok None)
    no_statement faultless none =
        let no_word : (k : Keyword) (ts : List Lexeme) → BeginsWith language l k ts → ⊥ = λ k ts b. no_tokens b.0 ts none b.1 in
        let known : NoneOf 5 = also_none 4 UnknownStatement (none_of_tokens faultless) (λ h. no_tokens h.0 h.1 none h.2) in
        let kept : NoneOf 6 = also_none 5 LeftOut known (λ h. elim h [ inl f ↦ faultless expr_kinds.LeftOut f | inr k ↦ no_word k.0 k.1 k.2 ]) in
        let matched : NoneOf 8 = also_none 7 StrayEnd (also_none 6 Misplaced kept (λ h. no_word h.0 h.1 h.2)) (λ h. no_word h.0 h.1 h.2) in
        let shallow : NoneOf 9 = also_none 8 TooDeep matched (λ h. elim h [ inl f ↦ no_word f.0 f.1 f.2 | inr k ↦ no_word k.1.0 k.1.1 k.1.2 ]) in
        let formed : NoneOf 10 = also_none 9 Malformed shallow (λ h. no_word h.0 h.1 h.2) in
        (none_holds (also_none 10 TooMany formed (λ h. no_word h.1.0 h.1.1 h.1.2)), none)

    -- the tokens of a line have a fault
    token_fault : (e : ExprFault) (kind : ExprKind) → e.kind ≡ kind → is_token_kind kind ≡ true → l.help ≡ false → lexemes_from language 0 0 l.text ≡ Err e
        → IsFirst (kind_of_fault kind)
    token_fault e expr_kinds.BadToken k known help h = first_at 2 BadToken refl some (e.offset, help, fault_of_kind e _ k h)
    token_fault e expr_kinds.UnclosedQuote k known help h =
        let no_bad : Never BadToken = λ f.
        (let z : expr_kinds.UnclosedQuote ≡ expr_kinds.BadToken = sym k ∙ other_token_fault e expr_kinds.BadToken h f in cc) in
        first_at 3 UnclosedQuote refl (also_none 2 BadToken some no_bad) (e.offset, help, fault_of_kind e _ k h)
    token_fault e expr_kinds.LeftOut k known help h =
        let no_bad : Never BadToken = λ f. (let z : expr_kinds.LeftOut ≡ expr_kinds.BadToken = sym k ∙ other_token_fault e expr_kinds.BadToken h f in cc) in
        let no_unclosed : Never UnclosedQuote = λ f.
        (let z : expr_kinds.LeftOut ≡ expr_kinds.UnclosedQuote = sym k ∙ other_token_fault e expr_kinds.UnclosedQuote h f in cc) in
        let none : NoneOf 4 = also_none 3 UnclosedQuote (also_none 2 BadToken some no_bad) no_unclosed in
        first_at 5 LeftOut refl (also_none 4 UnknownStatement none (λ f. no_tokens_with_fault e (f.0 ∷ f.1) help h f.2))
        (inl (e.offset, help, fault_of_kind e _ k h))
    token_fault e kind k known help h = cc

    -- a line with tokens, of which this is the first
    module _ (t : Lexeme) (ts : List Lexeme) (tokens : HasTokens language l (t ∷ ts)) (faultless : (kind : ExprKind) → HasTokenFault language l kind → ⊥) where
      unknown : keyword_of t ≡ None → IsFirst UnknownStatement
      unknown none = first_at 4 UnknownStatement refl (none_of_tokens faultless) (t, ts, tokens, none)

      -- its keyword
      module _ (k : Keyword) (word : keyword_of t ≡ Some k) where
        begins : BeginsWith language l k ts
        begins = (t, tokens, word)

        so_of_word : (P : Keyword → List Lexeme → Type 0) (j : Keyword) (us : List Lexeme) → BeginsWith language l j us → P j us → P k ts
        so_of_word P j us b h = so_of_line k ts begins P j us b h

        known : NoneOf 5
        known = also_none 4 UnknownStatement (none_of_tokens faultless)
            (λ h. (let z : None ≡ Some k = sym h.3 ∙ ap keyword_of (same_tokens h.0 t h.1 ts h.2 tokens).0 ∙ word in cc))

        no_left_out : is_left_out language read k ts ≡ false → Never LeftOut
        no_left_out e (inl f) = faultless expr_kinds.LeftOut f
        no_left_out e (inr h) = let z = so_of_word (λ j us. is_left_out language read j us ≡ true) h.0 h.1 h.2 h.3 in true_or_false _ z e

        kept : is_left_out language read k ts ≡ false → NoneOf 6
        kept e = also_none 5 LeftOut known (no_left_out e)

        placed : NoneOf 6 → not (is_allowed read k) ≡ false → NoneOf 7
        placed none e = also_none 6 Misplaced none (λ h. true_or_false _ (ap not (so_of_word (λ j us. is_allowed read j ≡ false) h.0 h.1 h.2 h.3)) e)

        matched : NoneOf 7 → is_stray_end read k ≡ false → NoneOf 8
        matched none e = also_none 7 StrayEnd none (λ h. true_or_false _ (so_of_word (λ j us. is_stray_end read j ≡ true) h.0 h.1 h.2 h.3) e)

        same_form : (x : Statement) → HasForm language l x → statement_of k ts ≡ Ok x
        same_form x h = form_read (so_of_word (λ j us. IsForm j us x) h.0 h.1 h.2 h.3)

        form_fault : NoneOf 8 → (kind : TreeKind) → statement_of k ts ≡ Err kind → is_form_kind kind ≡ true → IsFirst kind
        form_fault none TooDeep e fault = first_at 8 TooDeep refl none (inl (k, ts, begins, (deep_related k ts).0 e))
        form_fault none Malformed e fault =
            first_at 9 Malformed refl (also_none 8 TooDeep none (λ h. elim h [
              | inl d ↦ malformed_or_deep _ e ((deep_related k ts).1 (so_of_word HasDeepExpr d.0 d.1 d.2 d.3))
              | inr d ↦ form_or_fault _ d.0 _ (same_form d.0 d.1) e
            ])) (k, ts, begins, (λ s f. form_or_fault _ s _ (form_read f) e))
        form_fault none kind e fault = cc

        module _ (none : NoneOf 8) (s : Statement) (form : statement_of k ts ≡ Ok s) where
          has_form : HasForm language l s
          has_form = (k, ts, begins, (forms_related k ts s).0 form)

          same_statement : (x : Statement) → HasForm language l x → x ≡ s
          same_statement x h = let z : Ok x ≡ Ok s = sym (same_form x h) ∙ form in cc

          deep : is_too_deep read s ≡ true → IsFirst TooDeep
          deep e = first_at 8 TooDeep refl none (inr (s, has_form, e))

          no_deep : is_too_deep read s ≡ false → Never TooDeep
          no_deep e (inl h) = form_or_fault _ s _ form ((deep_related k ts).1 (so_of_word HasDeepExpr h.0 h.1 h.2 h.3))
          no_deep e (inr h) = true_or_false _ (sym (ap (is_too_deep read) (same_statement h.0 h.1)) ∙ h.2) e

          formed : is_too_deep read s ≡ false → NoneOf 10
          formed e = also_none 9 Malformed (also_none 8 TooDeep none (no_deep e))
              (λ h. so_of_word (λ j us. (x : Statement) → IsForm j us x → ⊥) h.0 h.1 h.2 h.3 s ((forms_related k ts s).0 form))

          many : NoneOf 10 → is_too_many read s ≡ true → IsFirst TooMany
          many n e = first_at 10 TooMany refl n (s, has_form, e)

          few : is_too_many read s ≡ false → Never TooMany
          few e h = true_or_false _ (sym (ap (is_too_many read) (same_statement h.0 h.1)) ∙ h.2) e

          statement_is : LineIs (fault_if (is_too_deep read s) TooDeep >>= λ _. fault_if (is_too_many read s) TooMany >>= λ _. Ok (Some s))
          statement_is =
              past (is_too_deep read s) TooDeep _ deep (λ d. past (is_too_many read s) TooMany _ (many (formed d)) (λ e.
              (none_holds (also_none 10 TooMany (formed d) (few e)), has_form)))

        word_is : LineIs (statement_by_keyword language read k ts)
        word_is =
            past (is_left_out language read k ts) LeftOut _ (λ e. first_at 5 LeftOut refl known (inr (k, ts, begins, e))) (λ x.
            past (not (is_allowed read k)) Misplaced _ (λ e. first_at 6 Misplaced refl (kept x) (k, ts, begins, not_true (is_allowed read k) e)) (λ y.
            past (is_stray_end read k) StrayEnd _ (λ e. first_at 7 StrayEnd refl (placed (kept x) y) (k, ts, begins, e)) (λ z.
            past_form (statement_of k ts) _ (λ kind e. form_fault (matched (placed (kept x) y) z) kind e (known_fault k ts kind e))
            (λ s e. statement_is (matched (placed (kept x) y) z) s e))))

      word_or_unknown : (w : Option Keyword) → keyword_of t ≡ w → LineIs (statement_by_word language read ts w)
      word_or_unknown None e = unknown e
      word_or_unknown (Some k) e = word_is k e

    tokens_are : (r : Result (List Lexeme) ExprFault) → l.help ≡ false → lexemes_from language 0 0 l.text ≡ r → LineIs (statement_or_fault language read r)
    tokens_are (Err e) help h = token_fault e e.kind refl (token_kind_known (read_fault language (length l.text) 0 l.text e (omega arith) h)) help h
    tokens_are (Ok []) help h = no_statement (λ kind. no_token_fault [] kind h) (cut_line help (read_cut language (length l.text) 0 l.text [] (omega arith) h))
    tokens_are (Ok (t ∷ ts)) help h =
        word_or_unknown t ts (cut_line help (read_cut language (length l.text) 0 l.text (t ∷ ts) (omega arith) h)) (λ kind. no_token_fault (t ∷ ts) kind h)
        (keyword_of t) refl

    help_or_tokens : (b : Bool) → l.help ≡ b → LineIs (cond b (Ok None) (statement_or_fault language read (lexemes_from language 0 0 l.text)))
    help_or_tokens true e = no_statement (λ kind. no_fault_of_help kind e) (help_line e refl)
    help_or_tokens false e = tokens_are (lexemes_from language 0 0 l.text) e refl

  short : nat_lt MAX_LINE_BYTES (length l.text) ≡ false → NoneOf 1
  short e = also_none 0 LineTooLong tt (λ h. omega (arith, ltb-false MAX_LINE_BYTES (length l.text) e, h))

  is_text : NoneOf 1 → not (is_utf8 l.text) ≡ false → NoneOf 2
  is_text none e = also_none 1 NotUtf8 none (λ h. true_or_false _ (ap not h) e)

  pub line_is : LineIs (statement_on_line language read l)
  unfolding statement_on_line
  line_is =
      past_if (nat_lt MAX_LINE_BYTES (length l.text)) LineTooLong _ (λ e. first_at 0 LineTooLong refl tt (ltb-true MAX_LINE_BYTES (length l.text) e)) (λ x.
      past_if (not (is_utf8 l.text)) NotUtf8 _ (λ e. first_at 1 NotUtf8 refl (short x) (not_true (is_utf8 l.text) e))
      (λ y. help_or_tokens (is_text (short x) y) l.help refl))

  -- and the other way round
  nothing_by : (x : Result (Option Statement) TreeKind) → LineIs x → IsFaultless → HasTokens language l [] → x ≡ Ok None
  nothing_by (Err kind) h faultless none = absurd (faultless kind h.holds)
  nothing_by (Ok None) h faultless none = refl
  nothing_by (Ok (Some s)) h faultless none = absurd (no_tokens h.1.2.0 h.1.1 none h.1.2.1)

  pub line_of_nothing : IsFaultless → HasTokens language l [] → statement_on_line language read l ≡ Ok None
  line_of_nothing = nothing_by (statement_on_line language read l) line_is

  one_form : (x y : Statement) → HasForm language l x → HasForm language l y → x ≡ y
  one_form x y h j =
      let form = so_of_line j.0 j.1 j.2 (λ k ts. IsForm k ts x) h.0 h.1 h.2 h.3 in
      let z : Ok x ≡ Ok y = sym (form_read form) ∙ form_read j.3 in
      cc

  statement_by : (s : Statement) (x : Result (Option Statement) TreeKind) → LineIs x → IsFaultless → HasForm language l s → x ≡ Ok (Some s)
  statement_by s (Err kind) h faultless form = absurd (faultless kind h.holds)
  statement_by s (Ok None) h faultless form = absurd (no_tokens form.2.0 form.1 h.1 form.2.1)
  statement_by s (Ok (Some x)) h faultless form = ap (λ y. Ok (Some y)) (one_form x s h.1 form)

  pub line_of_statement : (s : Statement) → IsFaultless → HasForm language l s → statement_on_line language read l ≡ Ok (Some s)
  line_of_statement s = statement_by s (statement_on_line language read l) line_is

  fault_by : (kind : TreeKind) (x : Result (Option Statement) TreeKind) → LineIs x → IsFirst kind → x ≡ Err kind
  fault_by kind (Err other) h first = ap Err (one_first line_order (IsLineFault language read l) other kind h first)
  fault_by kind (Ok None) h first = absurd (h.0 kind first.holds)
  fault_by kind (Ok (Some s)) h first = absurd (h.0 kind first.holds)

  pub line_of_fault : (kind : TreeKind) → IsFirstOf line_order (IsLineFault language read l) kind → statement_on_line language read l ≡ Err kind
  line_of_fault kind = fault_by kind (statement_on_line language read l) line_is
