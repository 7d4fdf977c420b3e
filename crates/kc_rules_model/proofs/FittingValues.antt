-- The value that a rule gives fits its unit, over a consistent tree.
use Rattle.std.proofs.Common.{int_lt}
use Rattle.std.specs.Prelude.{slice_get}
use Rattle.kc_rules_model.proofs.Common.{◌≡◌, inl, inr, ℕ, ◌<◌, Bool, true, false, not, ◌&&◌, ◌||◌, ◌==◌, cond, IsTrue, IfSome, List, [], ◌∷◌, Option, Some, None, ℤ, pos, find, length, unwrap_or, refl, sym, ◌∙◌, ap, arith, is_some, is_none, nat_lt, option_map, option_and_then, option_or, list_any}
use Rattle.kc_rules_model.proofs.Common.{list_all, false≢true, and_parts, and_from, or_cases, eqb-true, ltb-true, IsUtf8-nil, is_utf8-from_IsUtf8, Tri, N, M, Y, Kind, Tristate, Text, Int, Hex, number_of_text, Expr, alone, both, shown, constant, named, quoted, Tree, Symbol, Choice, Default}
use Rattle.kc_rules_model.proofs.Common.{IsConsistent, FitsValues, Profile, UnitValue, UserValue, MemberLine, is_n, is_tristate, is_number, rule_of_unit, rule_of_symbol, rule_of_choice, symbol_rule, string_rule, number_rule, choice_rule, default_text, number_default, user_number, default_member}
use Rattle.kc_rules_model.proofs.Common.{active_range, is_within, is_visible, is_visible_member, is_shown, modules_value, unit_value_fits, symbol_value_fits, text_fits, is_listed, last_y, first_listed, selected_without_y, selected_by_lines, is_linux_6_12}
use Rattle.std.proofs.lemmas.Bool.{eq-eqb, or_left, or_right}
use Rattle.std.specs.Str.{IsUtf8, is_utf8}
use Rattle.kc_value.proofs.UnquotedUtf8.{ascii_then}
use Rattle.std.proofs.lemmas.Option.{slice_get-get_or}
use Rattle.kc_value.specs.declared.value.Kind.TheVariants.{Bool as Boolean}
use Rattle.kc_value.specs.Number.{number_spelling}
use Rattle.kc_value.proofs.NumberSpelling.{spelling_read_back}
use Rattle.kc_expr.specs.Expr.{related, negated, either, Operand, SymbolValue, symbol_text, operand_text}
use Rattle.kc_value.specs.Tri.{letter}
use Rattle.kc_tree_model.specs.Trees.{Range, MemberDefault}
use Rattle.kc_tree_model.specs.declared.ids.Unit.{Unit as TreeUnit}
use Rattle.kc_tree_model.specs.declared.ids.Unit.TheVariants.{Symbol as of_symbol, Choice as of_choice}
use Rattle.kc_value.specs.Lines.{has_newline}
use Rattle.kc_tree_model.specs.TreeLookup.{own_text, unit_of, symbol_named}
use Rattle.kc_rules_model.specs.declared.values.UnitValue.TheVariants.{Tri as TriValue, Text as TextValue, Member as MemberValue}
use Rattle.kc_rules_model.specs.declared.values.UserValue.TheVariants.{Tri as TriUser, Text as TextUser, Member as MemberUser, Lines as LinesUser}
use Rattle.kc_value.specs.Kinds.{is_tri_kind}
use Rattle.kc_rules_model.specs.SymbolValues.{value_in_unit, tri_symbol_value, value_of_symbol, environment, condition, tri_of, text_of}
use Rattle.kc_rules_model.specs.Rule.{rule, expression_text, clamped, bound, bound_text, is_upside_down, text_without_number, shown_choice_rule, assigned_lines, active_default, assigned_text, assigned_member, leaves_no_m}
use Rattle.kc_rules_model.specs.Shapes.{user_fits, value_fits, unit_user_fits, symbol_user_fits, choice_user_fits, choice_value_fits, user_text_fits, is_line}
use Rattle.kc_rules_model.specs.checker.RestoreLaw.{fits_promoted, given_again, last_passes, first_passes}
use Rattle.kc_rules_model.specs.RuleLaws.{RulesFit}
use Rattle.kc_tree_model.proofs.Lookups.{inside, unit_is}
use Rattle.kc_rules_model.proofs.Ink.{is_ink, isn't}
use Rattle.kc_rules_model.proofs.Numbers.{number_ink}
use Rattle.kc_rules_model.specs.checker.PrintableBounds.{bound_read_back, zero_printable}

-- a text whose bytes are all below 128 is UTF-8
pub low_utf8 : (text : List ℕ) → list_all (λ b. nat_lt b 128) text ≡ true → IsUtf8 text
low_utf8 [] all = IsUtf8-nil
low_utf8 (b ∷ text) all =
    let parts = and_parts (nat_lt b 128) (list_all (λ c. nat_lt c 128) text) all in ascii_then b text (ltb-true b 128 parts.0) (low_utf8 text parts.1)

low_line : (text : List ℕ) → has_newline text ≡ false → list_all (λ b. nat_lt b 128) text ≡ true → is_line text ≡ true
low_line text one low = and_from (not (has_newline text)) (is_utf8 text) (ap not one) (is_utf8-from_IsUtf8 text (low_utf8 text low))

no_text : is_line [] ≡ true
no_text = low_line [] refl refl

letter_one_line : (t : Tri) → is_line (letter t) ≡ true
letter_one_line N = low_line (letter N) refl refl
letter_one_line M = low_line (letter M) refl refl
letter_one_line Y = low_line (letter Y) refl refl

ink_one_line : (text : List ℕ) → list_all is_ink text ≡ true → has_newline text ≡ false
ink_one_line [] all = refl
ink_one_line (b ∷ text) all =
    let parts = and_parts (is_ink b) (list_all is_ink text) all in
    ap (λ t. t || has_newline text) (isn't is_ink 10 b refl parts.0) ∙ ink_one_line text parts.1

number_one_line : (kind : Kind) (text : List ℕ) → (length text == 0 || is_some (number_of_text kind text)) ≡ true → is_line text ≡ true
number_one_line kind [] e = no_text
number_one_line kind (b ∷ text) e = elim (or_cases (length (b ∷ text) == 0) (is_some (number_of_text kind (b ∷ text))) e) [
  | inl none ↦ (let zero_bytes = eqb-true (length (b ∷ text)) 0 none in absurd (omega arith))
  | inr number ↦ (let ink = number_ink kind (b ∷ text) number in low_line (b ∷ text) (ink_one_line (b ∷ text) ink.ink) ink.low)
]

text_one_line : (kind : Kind) (text : List ℕ) → text_fits kind text ≡ true → is_line text ≡ true
text_one_line Boolean text e = absurd (false≢true e)
text_one_line Tristate text e = absurd (false≢true e)
text_one_line Text text e = e
text_one_line Int text e = number_one_line Int text e
text_one_line Hex text e = number_one_line Hex text e

found_passes : {X : Type 0} (p q : X → Bool) (xs : List X) (x : X) → list_all q xs ≡ true → find p xs ≡ Some x → q x ≡ true
found_passes p q [] x all e = cc
found_passes p q (y ∷ xs) x all e = let parts = and_parts (q y) (list_all q xs) all in go (p y) parts.0 e (found_passes p q xs x parts.1) where
  go : (t : Bool) → q y ≡ true → cond t (Some y) (find p xs) ≡ Some x → (find p xs ≡ Some x → q x ≡ true) → q x ≡ true
  go true here e next = let same : y ≡ x = cc in ap q (sym same) ∙ here
  go false here e next = next e

module _ (tree : Tree) (sound : IsConsistent tree) (values : List UnitValue)
    (fitting : FitsValues (length tree.units) (λ u v. IsTrue (value_fits tree u v)) values) where
  held_one_line : (s : ℕ) (symbol : Symbol) → slice_get tree.symbols s ≡ Some symbol → symbol.choice ≡ None
      → is_line (text_of (slice_get values (unit_of tree s))) ≡ true
  unfolding value_fits
  held_one_line s symbol at out =
      let own = sound.own_units s symbol at out in
      let here : slice_get tree.units (unit_of tree s) ≡ Some (of_symbol s) = ap (slice_get tree.units) (unit_is tree sound s own.0 symbol None at out own.1)
      ∙ own.1 in
      go (slice_get values (unit_of tree s)) (fitting.1 (unit_of tree s) (inside tree.units (unit_of tree s) (of_symbol s) here)) here where
        go : (o : Option UnitValue) → IfSome o (λ v. IsTrue (unit_value_fits tree (slice_get tree.units (unit_of tree s)) v))
            → slice_get tree.units (unit_of tree s) ≡ Some (of_symbol s) → is_line (text_of o) ≡ true
        go None fits here = no_text
        go (Some (TriValue t)) fits here = no_text
        go (Some (MemberValue m)) fits here = no_text
        go (Some (TextValue text)) fits here = text_one_line symbol.kind text
            (sym (ap (λ o. unit_value_fits tree o (TextValue text)) here ∙ ap (λ o. symbol_value_fits o (TextValue text)) at) ∙ fits)

  seen_one_line : (s : ℕ) (symbol : Symbol) → slice_get tree.symbols s ≡ Some symbol → (c : Option ℕ) → symbol.choice ≡ c
      → is_line (value_in_unit tree values s symbol c).text ≡ true
  seen_one_line s symbol at (Some c) e = letter_one_line _
  seen_one_line s symbol at None e = go (is_tri_kind symbol.kind) where
    go : (t : Bool)
        → is_line (cond {A = SymbolValue} t (tri_symbol_value symbol.kind (tri_of (slice_get values (unit_of tree s))))
        (record { kind = symbol.kind; tri = N; text = text_of (slice_get values (unit_of tree s)) })).text ≡ true
    go true = letter_one_line _
    go false = held_one_line s symbol at e

  name_one_line : (name : List ℕ) (o : Option ℕ) → is_line name ≡ true
      → is_line (symbol_text name (option_and_then (λ s. value_of_symbol tree values s) o)) ≡ true
  name_one_line name None e = e
  name_one_line name (Some s) e = go (slice_get tree.symbols s) refl where
    go : (o : Option Symbol) → slice_get tree.symbols s ≡ o
        → is_line (symbol_text name (option_map (λ (symbol : Symbol). value_in_unit tree values s symbol symbol.choice) o)) ≡ true
    go None at = e
    go (Some symbol) at = seen_one_line s symbol at symbol.choice refl

  expression_one_line : (e : Expr) → is_line (own_text e) ≡ true → is_line (expression_text tree values e) ≡ true
  expression_one_line (alone (constant t)) e = letter_one_line t
  expression_one_line (alone (named x)) e = name_one_line x (symbol_named tree x) e
  expression_one_line (alone (quoted x)) e = e
  expression_one_line (related op a b) e = no_text
  expression_one_line (negated a) e = no_text
  expression_one_line (both a b) e = no_text
  expression_one_line (either a b) e = no_text
  expression_one_line (shown a) e = no_text

  default_one_line : (s : ℕ) (symbol : Symbol) → slice_get tree.symbols s ≡ Some symbol → is_line (default_text tree values symbol) ≡ true
  default_one_line s symbol at = go (active_default tree values symbol) refl where
    go : (o : Option Default) → active_default tree values symbol ≡ o
        → is_line (unwrap_or (option_map (λ (d : Default). expression_text tree values d.value) o) []) ≡ true
    go None e = no_text
    go (Some d) e =
        let one = found_passes (λ (d : Default). not (is_n (condition tree values d.condition))) (λ (d : Default). not (has_newline (own_text d.value)))
        symbol.defaults d (sound.one_line s symbol at) e in
        let utf8 = found_passes (λ (d : Default). not (is_n (condition tree values d.condition))) (λ (d : Default). is_utf8 (own_text d.value)) symbol.defaults
        d (sound.own_utf8 s symbol at) e in
        expression_one_line d.value (and_from (not (has_newline (own_text d.value))) (is_utf8 (own_text d.value)) one utf8)

  string_fits : (s : ℕ) (symbol : Symbol) → slice_get tree.symbols s ≡ Some symbol → symbol.kind ≡ Text → (x : Option UserValue)
      → IfSome x (λ y. IsTrue (symbol_user_fits (Some symbol) y)) → is_line (string_rule tree symbol x values) ≡ true
  string_fits s symbol at is x fits = go (is_visible tree values symbol) x fits where
    none_line : (t : Bool) → is_line (unwrap_or (cond t None None) (default_text tree values symbol)) ≡ true
    none_line true = default_one_line s symbol at
    none_line false = default_one_line s symbol at

    go : (t : Bool) (x : Option UserValue) → IfSome x (λ y. IsTrue (symbol_user_fits (Some symbol) y))
        → is_line (unwrap_or (cond t (assigned_text x) None) (default_text tree values symbol)) ≡ true
    go t None fits = none_line t
    go t (Some (TriUser a)) fits = none_line t
    go t (Some (MemberUser m)) fits = none_line t
    go t (Some (LinesUser l)) fits = none_line t
    go false (Some (TextUser text)) fits = default_one_line s symbol at
    go true (Some (TextUser text)) fits = sym (ap (λ k. user_text_fits k text) is) ∙ fits

  -- a text is empty or a number of the type
  abbrev IsNumber : Kind → List ℕ → Type 0
  IsNumber kind text = (length text == 0 || is_some (number_of_text kind text)) ≡ true

  bound_fits : (kind : Kind) → is_number kind ≡ true → (a : Operand) → IsNumber kind (bound_text tree values kind a)
  bound_fits kind large a =
      or_right (length (bound_text tree values kind a) == 0) (is_some (number_of_text kind (bound_text tree values kind a)))
      (ap is_some (bound_read_back tree values kind a large))

  limited_fits : (kind : Kind) → is_number kind ≡ true → (o : Option Range) (n : ℤ) (text : List ℕ) → IsNumber kind text
      → IsNumber kind (clamped tree values kind o n text)
  limited_fits kind large None n text fits = fits
  limited_fits kind large (Some r) n text fits = go (int_lt n (bound tree values kind r.low)) (int_lt (bound tree values kind r.high) n) where
    go : (a b : Bool) → IsNumber kind (cond a (bound_text tree values kind r.low) (cond b (bound_text tree values kind r.high) text))
    go true b = bound_fits kind large r.low
    go false true = bound_fits kind large r.high
    go false false = fits

  without_number_fits : (symbol : Symbol) → is_number symbol.kind ≡ true → IsNumber symbol.kind (text_without_number tree values symbol)
  without_number_fits symbol large = go (is_linux_6_12 tree.language && is_none (active_default tree values symbol)) where
    go : (b : Bool) → IsNumber symbol.kind (cond b (number_spelling symbol.kind (pos 0)) [])
    go true =
        or_right (length (number_spelling symbol.kind (pos 0)) == 0) (is_some (number_of_text symbol.kind (number_spelling symbol.kind (pos 0))))
        (ap is_some (spelling_read_back symbol.kind (pos 0) (zero_printable symbol.kind large)))
    go false = refl

  default_fits : (symbol : Symbol) → is_number symbol.kind ≡ true → IsNumber symbol.kind (number_default tree values symbol)
  default_fits symbol large = go (is_some (number_of_text symbol.kind (default_text tree values symbol))) refl where
    go : (t : Bool) → is_some (number_of_text symbol.kind (default_text tree values symbol)) ≡ t
        → IsNumber symbol.kind (cond t (clamped tree values symbol.kind (active_range tree values symbol)
        (unwrap_or (number_of_text symbol.kind (default_text tree values symbol)) (pos 0)) (default_text tree values symbol))
        (clamped tree values symbol.kind (active_range tree values symbol) (pos 0) (text_without_number tree values symbol)))
    go true e =
        limited_fits symbol.kind large (active_range tree values symbol) _ (default_text tree values symbol)
        (or_right (length (default_text tree values symbol) == 0) _ e)
    go false e = limited_fits symbol.kind large (active_range tree values symbol) (pos 0) (text_without_number tree values symbol) (without_number_fits symbol large)

  number_fits : (symbol : Symbol) → is_number symbol.kind ≡ true → (x : Option UserValue)
      → IfSome x (λ y. IsTrue (symbol_user_fits (Some symbol) y))
      → IsNumber symbol.kind (number_rule tree symbol x values)
  number_fits symbol large x fits = go (is_visible tree values symbol) x fits where
    a_number : (kind : Kind) (text : List ℕ) → is_number kind ≡ true → user_text_fits kind text ≡ true
        → is_some (number_of_text kind text) ≡ true
    a_number Boolean text large e = e
    a_number Tristate text large e = e
    a_number Text text large e = absurd (false≢true large)
    a_number Int text large e = e
    a_number Hex text large e = e

    go : (t : Bool) (x : Option UserValue) → IfSome x (λ y. IsTrue (symbol_user_fits (Some symbol) y))
        → IsNumber symbol.kind (unwrap_or (option_and_then (λ text. user_number tree values symbol.kind (active_range tree values symbol)
        (unwrap_or (number_of_text symbol.kind text) (pos 0)) text) (cond t (assigned_text x) None)) (number_default tree values symbol))
    go false x fits = default_fits symbol large
    go true None fits = default_fits symbol large
    go true (Some (TriUser a)) fits = default_fits symbol large
    go true (Some (MemberUser m)) fits = default_fits symbol large
    go true (Some (LinesUser l)) fits = default_fits symbol large
    go true (Some (TextUser text)) fits =
        kept (user_number tree values symbol.kind (active_range tree values symbol) (unwrap_or (number_of_text symbol.kind text) (pos 0)) text) refl where
          kept : (o : Option (List ℕ))
              → user_number tree values symbol.kind (active_range tree values symbol) (unwrap_or (number_of_text symbol.kind text) (pos 0)) text ≡ o
              → IsNumber symbol.kind (unwrap_or o (number_default tree values symbol))
          kept (Some r) e =
              or_right (length r == 0) _ (given_again tree values symbol.kind large (active_range tree values symbol) text r (a_number symbol.kind text large fits) e).0
          kept None e = default_fits symbol large

  found_in : (p : ℕ → Bool) (xs : List ℕ) (m : ℕ) → find p xs ≡ Some m → list_any (λ k. k == m) xs ≡ true
  found_in p [] m e = cc
  found_in p (x ∷ xs) m e = go (p x) e (found_in p xs m) where
    go : (t : Bool) → cond t (Some x) (find p xs) ≡ Some m → (find p xs ≡ Some m → list_any (λ k. k == m) xs ≡ true)
        → (x == m || list_any (λ k. k == m) xs) ≡ true
    go true e next = let same : x ≡ m = cc in or_left (x == m) (list_any (λ k. k == m) xs) (eq-eqb x m same)
    go false e next = or_right (x == m) (list_any (λ k. k == m) xs) (next e)

  choice_fits : (c : ℕ) (choice : Choice) → slice_get tree.choices c ≡ Some choice → (x : Option UserValue)
      → IfSome x (λ y. IsTrue (choice_user_fits tree.language (Some choice) y)) → choice_value_fits (Some choice) (MemberValue (choice_rule tree choice x values)) ≡ true
  choice_fits c choice at x fits = by_language (is_linux_6_12 tree.language) refl where
    by_first : (o : Option ℕ) → find (is_visible_member tree values) choice.members ≡ o → choice_value_fits (Some choice) (MemberValue o) ≡ true
    by_first None e = refl
    by_first (Some m) e = found_in (is_visible_member tree values) choice.members m e

    by_default : (o : Option MemberDefault)
        → find (λ (d : MemberDefault). not (is_n (condition tree values d.condition)) && is_visible_member tree values d.member) choice.defaults ≡ o
        → choice_value_fits (Some choice) (MemberValue (option_or (option_map (λ (d : MemberDefault). d.member) o)
        (find (is_visible_member tree values) choice.members))) ≡ true
    by_default None e = by_first (find (is_visible_member tree values) choice.members) refl
    by_default (Some d) e =
        found_passes _ (λ (d : MemberDefault). list_any (λ m. m == d.member) choice.members) choice.defaults d (sound.default_members c choice at) e

    others_if : (t : Bool) → choice_value_fits (Some choice) (MemberValue
        (cond t None (option_or (option_map (λ (d : MemberDefault). d.member)
        (find (λ (d : MemberDefault). not (is_n (condition tree values d.condition)) && is_visible_member tree values d.member) choice.defaults))
        (find (is_visible_member tree values) choice.members)))) ≡ true
    others_if true = refl
    others_if false = by_default (find (λ (d : MemberDefault). not (is_n (condition tree values d.condition)) && is_visible_member tree values d.member)
        choice.defaults) refl

    others : choice_value_fits (Some choice) (MemberValue (default_member tree choice values)) ≡ true
    others = others_if choice.optional

    by_user : (x : Option UserValue) → IfSome x (λ y. IsTrue (choice_user_fits tree.language (Some choice) y))
        → choice_value_fits (Some choice)
        (MemberValue (option_or (option_and_then (λ s. cond (is_visible_member tree values s) (Some s) None) (assigned_member x))
        (default_member tree choice values))) ≡ true
    by_user None fits = others
    by_user (Some (TriUser t)) fits = others
    by_user (Some (TextUser t)) fits = others
    by_user (Some (LinesUser l)) fits = others
    by_user (Some (MemberUser s)) fits = seen (is_visible_member tree values s) where
      seen : (t : Bool) → choice_value_fits (Some choice) (MemberValue (option_or (cond t (Some s) None) (default_member tree choice values))) ≡ true
      seen true = (and_parts (not (is_linux_6_12 tree.language)) (list_any (λ m. m == s) choice.members) fits).1
      seen false = others

    shown_or_not : (t : Bool)
        → choice_value_fits (Some choice)
        (MemberValue (cond t (option_or (option_and_then (λ s. cond (is_visible_member tree values s) (Some s) None) (assigned_member x))
        (default_member tree choice values)) None)) ≡ true
    shown_or_not true = by_user x fits
    shown_or_not false = refl

    lines_fit : (x : Option UserValue) → IfSome x (λ y. IsTrue (choice_user_fits tree.language (Some choice) y))
        → list_all (λ (l : MemberLine). list_any (λ m. m == l.member) choice.members) (assigned_lines x) ≡ true
    lines_fit None fits = refl
    lines_fit (Some (TriUser t)) fits = refl
    lines_fit (Some (TextUser t)) fits = refl
    lines_fit (Some (MemberUser s)) fits = refl
    lines_fit (Some (LinesUser lines)) fits = (and_parts (is_linux_6_12 tree.language) (list_all (λ (l : MemberLine). list_any (λ m. m == l.member) choice.members) lines) fits).1

    by_lines : (lines : List MemberLine) → list_all (λ (l : MemberLine). list_any (λ m. m == l.member) choice.members) lines ≡ true
        → choice_value_fits (Some choice) (MemberValue (selected_by_lines (is_visible_member tree values) choice.members (default_member tree choice values) lines)) ≡ true
    by_lines lines all = last (last_y (is_visible_member tree values) lines) refl where
      first : (o : Option ℕ) → first_listed (is_visible_member tree values) lines ≡ o → choice_value_fits (Some choice) (MemberValue o) ≡ true
      first None e = refl
      first (Some m) e = (first_passes (is_visible_member tree values) (λ k. list_any (λ m. m == k) choice.members) lines m all e).1

      unlisted : (o : Option ℕ) → find (λ s. is_visible_member tree values s && not (is_listed lines s)) choice.members ≡ o
          → choice_value_fits (Some choice) (MemberValue (option_or o (first_listed (is_visible_member tree values) lines))) ≡ true
      unlisted None e = first (first_listed (is_visible_member tree values) lines) refl
      unlisted (Some m) e = found_in (λ s. is_visible_member tree values s && not (is_listed lines s)) choice.members m e

      listed : (b : Bool) (d : ℕ) → choice_value_fits (Some choice) (MemberValue (Some d)) ≡ true
          → choice_value_fits (Some choice) (MemberValue (cond b (option_or (find (λ s. is_visible_member tree values s && not (is_listed lines s)) choice.members)
          (first_listed (is_visible_member tree values) lines)) (Some d))) ≡ true
      listed true d default = unlisted (find (λ s. is_visible_member tree values s && not (is_listed lines s)) choice.members) refl
      listed false d default = default

      without : (o : Option ℕ) → choice_value_fits (Some choice) (MemberValue o) ≡ true
          → choice_value_fits (Some choice) (MemberValue (selected_without_y (is_visible_member tree values) choice.members o lines)) ≡ true
      without None default = refl
      without (Some d) default = listed (is_listed lines d) d default

      last : (o : Option ℕ) → last_y (is_visible_member tree values) lines ≡ o
          → choice_value_fits (Some choice) (MemberValue (option_or o (selected_without_y (is_visible_member tree values) choice.members (default_member tree choice values) lines))) ≡ true
      last (Some m) e = (last_passes (is_visible_member tree values) (λ k. list_any (λ m. m == k) choice.members) lines m all e).1
      last None e = without (default_member tree choice values) others

    by_language : (b : Bool) → is_linux_6_12 tree.language ≡ b
        → choice_value_fits (Some choice) (MemberValue (cond b (selected_by_lines (is_visible_member tree values) choice.members (default_member tree choice values) (assigned_lines x))
        (shown_choice_rule tree choice x values))) ≡ true
    by_language true e = by_lines (assigned_lines x) (lines_fit x fits)
    by_language false e = shown_or_not (is_shown tree values choice)

  symbol_fits : (profile : Profile) (s : ℕ) (symbol : Symbol) → slice_get tree.symbols s ≡ Some symbol → (kind : Kind) → symbol.kind ≡ kind
      → (x : Option UserValue) → IfSome x (λ y. IsTrue (symbol_user_fits (Some symbol) y))
      → symbol_value_fits (Some symbol) (symbol_rule kind profile tree symbol x values) ≡ true
  symbol_fits profile s symbol at Boolean is x fits =
      fits_promoted tree values symbol.kind (is_tristate symbol.kind && is_n (modules_value tree values)) (leaves_no_m profile tree values symbol) _
      (ap is_tri_kind is)
  symbol_fits profile s symbol at Tristate is x fits =
      fits_promoted tree values symbol.kind (is_tristate symbol.kind && is_n (modules_value tree values)) (leaves_no_m profile tree values symbol) _
      (ap is_tri_kind is)
  symbol_fits profile s symbol at Text is x fits = ap (λ k. text_fits k (string_rule tree symbol x values)) is ∙ string_fits s symbol at is x fits
  symbol_fits profile s symbol at Int is x fits =
      ap (λ k. text_fits k (number_rule tree symbol x values)) is ∙ ap
      (λ k. length (number_rule tree symbol x values) == 0 || is_some (number_of_text k (number_rule tree symbol x values))) (sym is)
      ∙ number_fits symbol (ap is_number is) x fits
  symbol_fits profile s symbol at Hex is x fits =
      ap (λ k. text_fits k (number_rule tree symbol x values)) is ∙ ap
      (λ k. length (number_rule tree symbol x values) == 0 || is_some (number_of_text k (number_rule tree symbol x values))) (sym is)
      ∙ number_fits symbol (ap is_number is) x fits

  at_symbol : (profile : Profile) (u s : ℕ) → slice_get tree.units u ≡ Some (of_symbol s) → (o : Option Symbol) → slice_get tree.symbols s ≡ o
      → (x : Option UserValue) → IfSome x (λ y. IsTrue (symbol_user_fits o y)) → symbol_value_fits o (rule_of_symbol profile tree o x values) ≡ true
  at_symbol profile u s unit None at x fits = let found = (sound.symbol_units u s unit).1 in cc
  at_symbol profile u s unit (Some symbol) at x fits = symbol_fits profile s symbol at symbol.kind refl x fits

  at_choice : (u c : ℕ) → slice_get tree.units u ≡ Some (of_choice c) → (o : Option Choice) → slice_get tree.choices c ≡ o → (x : Option UserValue)
      → IfSome x (λ y. IsTrue (choice_user_fits tree.language o y)) → choice_value_fits o (rule_of_choice tree o x values) ≡ true
  at_choice u c unit None at x fits = let found = (sound.choice_units u c unit).1 in cc
  at_choice u c unit (Some choice) at x fits = choice_fits c choice at x fits

  at_unit : (profile : Profile) (u : ℕ) → u < length tree.units → (o : Option TreeUnit) → slice_get tree.units u ≡ o → (x : Option UserValue)
      → IfSome x (λ y. IsTrue (unit_user_fits tree o y)) → unit_value_fits tree o (rule_of_unit profile tree o x values) ≡ true
  at_unit profile u inside None at x fits = let there = slice_get-get_or tree.units u (of_symbol 0) inside in cc
  at_unit profile u inside (Some (of_symbol s)) at x fits = at_symbol profile u s at (slice_get tree.symbols s) refl x fits
  at_unit profile u inside (Some (of_choice c)) at x fits = at_choice u c at (slice_get tree.choices c) refl x fits

pub rules_fit : RulesFit
unfolding rule user_fits value_fits
rules_fit profile tree u x values sound inside fits fitting = at_unit tree sound values fitting profile u inside (slice_get tree.units u) refl x fits
