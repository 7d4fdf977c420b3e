-- A value that isn't lifted, as its own user value, gives itself again: the values' half of the way back of full files.
use Rattle.std.proofs.Common.{slice_get, pos}
use Rattle.kc_minimal_model.proofs.Common.{◌≡◌, inl, inr, ℕ, ◌<◌, Bool, true, false, not, ◌&&◌, ◌||◌, cond, IsTrue, List, [], ◌∷◌, Option, Some, None, length, refl, sym, ◌∙◌, ap, subst, unwrap_or, is_some, is_none, option_and_then, option_or, cases_Bool, false≢true, Tri, N, Kind, Tristate, Text}
use Rattle.kc_minimal_model.proofs.Common.{Int, Hex, number_of_text, Tree, Symbol, Choice, MemberDefault, user_of, Solves, FitsUsers, Profile, UnitValue, UserValue, Language, is_linux_6_12, condition, is_n, is_number, rule_of_unit, rule_of_choice, choice_rule, as_user, is_visible, default_member}
use Rattle.kc_minimal_model.proofs.Common.{is_shown, is_visible_member, rules_restore, none_listed, default_is_seen, older, newer, same_tri, same_from}
use Rattle.kc_value.specs.declared.value.Kind.TheVariants.{Bool as Boolean}
use Rattle.kc_value.specs.Tri.{tri_and, tri_or, largest, y_for_m}
use Rattle.kc_value.specs.Number.{number_spelling, int_text, hex_text}
use Rattle.kc_tree_model.specs.declared.ids.Unit.{Unit as TreeUnit}
use Rattle.kc_tree_model.specs.declared.ids.Unit.TheVariants.{Symbol as of_symbol, Choice as of_choice}
use Rattle.kc_rules_model.specs.declared.values.UnitValue.TheVariants.{Tri as TriValue, Text as TextValue, Member as MemberValue}
use Rattle.kc_rules_model.specs.declared.values.UserValue.TheVariants.{Tri as TriUser, Text as TextUser, Member as MemberUser, Lines as LinesUser}
use Rattle.kc_value.proofs.NumberSpelling.{spelling_read_back}
use Rattle.kc_value.specs.Kinds.{is_bool, is_tristate}
use Rattle.kc_rules_model.specs.Rule.{rule, rule_of_symbol, symbol_rule, tri_rule, string_rule, number_rule, counted_prompts, visibility, conditions, modules_value, unassigned_value, selected, leaves_no_m, default_text, number_default, user_number, clamped, is_upside_down, text_without_number}
use Rattle.kc_rules_model.specs.Rule.{active_default, shown_choice_rule, is_within, active_range, assigned_text}
use Rattle.kc_rules_model.specs.Reports.{IsLifted}
use Rattle.kc_rules_model.specs.checker.RestoreLaw.{promoted_if, clamped_again, no_number, one_listed}
use Rattle.kc_rules_model.specs.checker.PrintableBounds.{zero_printable}
use Rattle.kc_rules_model.specs.Shapes.{user_fits}
use Rattle.kc_minimal_model.proofs.Canonical.{decides}
use Rattle.kc_dotconfig_model.proofs.Tables.{at3}

-- a bool: l and p as in `tri_rule`, t what is promoted to the visibility
bool_table : (l : Bool) (t un s : Tri)
    → promoted_if l (y_for_m (tri_or (cond (not (is_n (y_for_m t))) (tri_and (promoted_if l (y_for_m (tri_or un s))) (y_for_m t)) un) s))
    ≡ promoted_if l (y_for_m (tri_or un s))
bool_table true t un s = same_from _ _ (at3 (λ t un s. same_tri (promoted_if true (y_for_m (tri_or (cond (not (is_n (y_for_m t)))
    (tri_and (promoted_if true (y_for_m (tri_or un s))) (y_for_m t)) un) s))) (promoted_if true (y_for_m (tri_or un s)))) refl t un s)
bool_table false t un s = same_from _ _ (at3 (λ t un s. same_tri (promoted_if false (y_for_m (tri_or (cond (not (is_n (y_for_m t)))
    (tri_and (promoted_if false (y_for_m (tri_or un s))) (y_for_m t)) un) s))) (promoted_if false (y_for_m (tri_or un s)))) refl t un s)

unseen : (top un a : Tri) → is_n top ≡ true → cond (not (is_n top)) (tri_and a top) un ≡ un
unseen N un a h = refl
unseen _ un a h = absurd (false≢true h)

text_own : (seen : Bool) (t d : List ℕ) → d ≡ t → unwrap_or (cond seen (Some t) None) d ≡ t
text_own true t d e = refl
text_own false t d e = e

-- a default that is given again, or counts for nothing, as a user's text
number_own : (seen : Bool) (given : List ℕ → Option (List ℕ)) (t d : List ℕ) → d ≡ t → unwrap_or (given t) t ≡ t
    → unwrap_or (option_and_then given (cond seen (Some t) None)) d ≡ t
number_own false given t d e own = e
number_own true given t d e own = ap (unwrap_or (given t)) e ∙ own

member_own : (shown seen : Bool) (s : ℕ) (other : Option ℕ) → cond shown (option_or None other) None ≡ Some s
    → cond shown (option_or (cond seen (Some s) None) other) None ≡ Some s
member_own true true s other e = refl
member_own true false s other e = e
member_own false seen s other e = e

no_text : (seen : Bool) (d : List ℕ) → unwrap_or (cond {A = Option (List ℕ)} seen None None) d ≡ d
no_text true d = refl
no_text false d = refl

-- the value without a user value, as its own user value
abbrev Own : Language → (Option UserValue → UnitValue) → Type 0
Own language f = (y : UserValue) → as_user language (f None) ≡ Some y → f (Some y) ≡ f None

no_number_empty : (kind : Kind) → is_number kind ≡ true → unwrap_or (number_of_text kind []) (pos 0) ≡ pos 0
unfolding int_text hex_text
no_number_empty Int large = refl
no_number_empty Hex large = refl
no_number_empty _ large = absurd (false≢true large)

module _ (profile : Profile) (tree : Tree) (values : List UnitValue) where
  own_bool : (symbol : Symbol) → symbol.kind ≡ Boolean → Own tree.language (λ x. TriValue (tri_rule profile tree symbol x values))
  own_bool symbol e y h =
      let b = is_bool symbol.kind || (is_tristate symbol.kind && is_n (modules_value tree values)) in
      let yes_bool : b ≡ true = ap (λ k. is_bool k || (is_tristate k && is_n (modules_value tree values))) e in
      let l = leaves_no_m profile tree values symbol in
      let t = largest (conditions tree values (counted_prompts symbol)) in
      let un = unassigned_value profile tree values symbol in
      let s = selected tree values symbol in
      let mine : Some (TriUser (promoted_if l (promoted_if b (tri_or un s)))) ≡ Some y = h in
      let again : TriUser (promoted_if l (promoted_if b (tri_or un s))) ≡ y = cc in
      subst (λ z. TriValue (tri_rule profile tree symbol (Some z) values) ≡ TriValue (tri_rule profile tree symbol None values)) again
      (ap TriValue (subst (λ p. promoted_if l (promoted_if p (tri_or (cond (not (is_n (promoted_if p t)))
      (tri_and (promoted_if l (promoted_if p (tri_or un s))) (promoted_if p t)) un) s)) ≡ promoted_if l (promoted_if p (tri_or un s))) (sym yes_bool)
      (bool_table l t un s)))

  own_string : (symbol : Symbol) → Own tree.language (λ x. TextValue (string_rule tree symbol x values))
  own_string symbol y h =
      let d = default_text tree values symbol in
      let seen = is_visible tree values symbol in
      let none : string_rule tree symbol None values ≡ d = no_text seen d in
      let again : TextUser (string_rule tree symbol None values) ≡ y = cc in
      subst (λ z. TextValue (string_rule tree symbol (Some z) values) ≡ TextValue (string_rule tree symbol None values)) again
      (ap TextValue (text_own seen (string_rule tree symbol None values) d (sym none)))

  -- the default of a number, as a user's number, gives itself or counts for nothing
  default_own : (symbol : Symbol) → is_number symbol.kind ≡ true
      → unwrap_or (user_number tree values symbol.kind (active_range tree values symbol) (unwrap_or (number_of_text symbol.kind (number_default tree values symbol)) (pos 0)) (number_default tree values symbol))
      (number_default tree values symbol) ≡ number_default tree values symbol
  default_own symbol large = by_language (is_linux_6_12 tree.language) where
    again : is_upside_down tree values symbol.kind (active_range tree values symbol) ≡ false
        → clamped tree values symbol.kind (active_range tree values symbol) (unwrap_or (number_of_text symbol.kind (number_default tree values symbol)) (pos 0)) (number_default tree values symbol)
        ≡ number_default tree values symbol
    again level = by_text (is_some (number_of_text symbol.kind (default_text tree values symbol))) where
      without : (b : Bool) → unwrap_or (number_of_text symbol.kind (cond b (number_spelling symbol.kind (pos 0)) [])) (pos 0) ≡ pos 0
      without true = ap (λ o. unwrap_or o (pos 0)) (spelling_read_back symbol.kind (pos 0) (zero_printable symbol.kind large))
      without false = no_number_empty symbol.kind large

      by_text : (b : Bool)
          → clamped tree values symbol.kind (active_range tree values symbol) (unwrap_or (number_of_text symbol.kind
          (cond b (clamped tree values symbol.kind (active_range tree values symbol) (unwrap_or (number_of_text symbol.kind (default_text tree values symbol)) (pos 0)) (default_text tree values symbol))
          (clamped tree values symbol.kind (active_range tree values symbol) (pos 0) (text_without_number tree values symbol)))) (pos 0))
          (cond b (clamped tree values symbol.kind (active_range tree values symbol) (unwrap_or (number_of_text symbol.kind (default_text tree values symbol)) (pos 0)) (default_text tree values symbol))
          (clamped tree values symbol.kind (active_range tree values symbol) (pos 0) (text_without_number tree values symbol)))
          ≡ cond b (clamped tree values symbol.kind (active_range tree values symbol) (unwrap_or (number_of_text symbol.kind (default_text tree values symbol)) (pos 0)) (default_text tree values symbol))
          (clamped tree values symbol.kind (active_range tree values symbol) (pos 0) (text_without_number tree values symbol))
      by_text true = (clamped_again tree values symbol.kind large (active_range tree values symbol) (unwrap_or (number_of_text symbol.kind (default_text tree values symbol)) (pos 0)) (default_text tree values symbol) refl level).1
      by_text false =
          (clamped_again tree values symbol.kind large (active_range tree values symbol) (pos 0) (text_without_number tree values symbol)
          (without (is_linux_6_12 tree.language && is_none (active_default tree values symbol))) level).1

    by_language : (six : Bool)
        → unwrap_or (cond six (cond (is_upside_down tree values symbol.kind (active_range tree values symbol)) None (Some (clamped tree values symbol.kind (active_range tree values symbol)
        (unwrap_or (number_of_text symbol.kind (number_default tree values symbol)) (pos 0)) (number_default tree values symbol))))
        (cond (is_within tree values symbol.kind (active_range tree values symbol) (unwrap_or (number_of_text symbol.kind (number_default tree values symbol)) (pos 0))) (Some (number_default tree values symbol)) None))
        (number_default tree values symbol) ≡ number_default tree values symbol
    by_language true = down (is_upside_down tree values symbol.kind (active_range tree values symbol)) refl where
      down : (b : Bool) → is_upside_down tree values symbol.kind (active_range tree values symbol) ≡ b
          → unwrap_or (cond b None (Some (clamped tree values symbol.kind (active_range tree values symbol)
          (unwrap_or (number_of_text symbol.kind (number_default tree values symbol)) (pos 0)) (number_default tree values symbol)))) (number_default tree values symbol) ≡ number_default tree values symbol
      down true e = refl
      down false e = again e
    by_language false = within (is_within tree values symbol.kind (active_range tree values symbol) (unwrap_or (number_of_text symbol.kind (number_default tree values symbol)) (pos 0))) where
      within : (b : Bool) → unwrap_or (cond b (Some (number_default tree values symbol)) None) (number_default tree values symbol) ≡ number_default tree values symbol
      within true = refl
      within false = refl

  own_number : (symbol : Symbol) → is_number symbol.kind ≡ true → Own tree.language (λ x. TextValue (number_rule tree symbol x values))
  own_number symbol large y h =
      let d = number_default tree values symbol in
      let seen = is_visible tree values symbol in
      let given : List ℕ → Option (List ℕ) = λ text. user_number tree values symbol.kind (active_range tree values symbol) (unwrap_or (number_of_text symbol.kind text) (pos 0)) text in
      let none : number_rule tree symbol None values ≡ d = no_number seen given d in
      let again : TextUser (number_rule tree symbol None values) ≡ y = cc in
      subst (λ z. TextValue (number_rule tree symbol (Some z) values) ≡ TextValue (number_rule tree symbol None values)) again
      (ap TextValue (number_own seen given (number_rule tree symbol None values) d (sym none)
      (ap (λ t. unwrap_or (given t) t) none ∙ default_own symbol large ∙ sym none)))

  own_choice : (choice : Choice) → Own tree.language (λ x. MemberValue (choice_rule tree choice x values))
  own_choice choice y h = elim (cases_Bool (is_linux_6_12 tree.language)) [
    | inl since ↦ go_since since (default_member tree choice values) refl
    | inr before ↦ go_before before (shown_choice_rule tree choice None values) refl
  ] where
    go_since : is_linux_6_12 tree.language ≡ true → (o : Option ℕ) → default_member tree choice values ≡ o
        → MemberValue (choice_rule tree choice (Some y) values) ≡ MemberValue (choice_rule tree choice None values)
    go_since since None e =
        let none : as_user tree.language (MemberValue (choice_rule tree choice None values)) ≡ None =
        ap (λ m. as_user tree.language (MemberValue m)) (newer tree values choice None since ∙ none_listed (is_visible_member tree values) choice.members (default_member tree choice values) ∙ e) in
        cc (none, h)
    go_since since (Some m) e =
        let seen = is_visible_member tree values in
        let none : choice_rule tree choice None values ≡ Some m = newer tree values choice None since ∙ none_listed seen choice.members (default_member tree choice values) ∙ e in
        let one : UserValue = LinesUser (record { member = m; is_y = true } ∷ []) in
        let again : one ≡ y =
        let f : Some one ≡ Some y = sym (ap (λ b. Some (cond b one (MemberUser m))) since) ∙ sym (ap (λ o. as_user tree.language (MemberValue o)) none) ∙ h in cc in
        let visible = default_is_seen seen choice.optional choice.defaults (λ (k : MemberDefault). not (is_n (condition tree values k.condition))) choice.members m e in
        subst (λ z. MemberValue (choice_rule tree choice (Some z) values) ≡ MemberValue (choice_rule tree choice None values)) again
        (ap MemberValue (newer tree values choice (Some one) since ∙ one_listed seen choice.members (default_member tree choice values) m visible ∙ sym none))

    go_before : is_linux_6_12 tree.language ≡ false → (o : Option ℕ) → shown_choice_rule tree choice None values ≡ o
        → MemberValue (choice_rule tree choice (Some y) values) ≡ MemberValue (choice_rule tree choice None values)
    go_before before None e =
        let none : as_user tree.language (MemberValue (choice_rule tree choice None values)) ≡ None = ap (λ m. as_user tree.language (MemberValue m)) (older tree values choice None before ∙ e) in
        cc (none, h)
    go_before before (Some m) e =
        let none : choice_rule tree choice None values ≡ Some m = older tree values choice None before ∙ e in
        let again : MemberUser m ≡ y =
        let f : Some (MemberUser m) ≡ Some y = sym (ap (λ b. Some (cond b (LinesUser (record { member = m; is_y = true } ∷ [])) (MemberUser m))) before)
        ∙ sym (ap (λ o. as_user tree.language (MemberValue o)) none) ∙ h in cc in
        subst (λ z. MemberValue (choice_rule tree choice (Some z) values) ≡ MemberValue (choice_rule tree choice None values)) again
        (ap MemberValue (older tree values choice (Some (MemberUser m)) before ∙ member_own (is_shown tree values choice) (is_visible_member tree values m) m _ e ∙ sym none))

  -- a tristate that isn't visible
  hidden_tri : (symbol : Symbol) → is_n (visibility tree values symbol) ≡ true → (x : Option UserValue)
      → TriValue (tri_rule profile tree symbol x values) ≡ TriValue (tri_rule profile tree symbol None values)
  hidden_tri symbol e (Some (TriUser a)) =
      let b = is_bool symbol.kind || (is_tristate symbol.kind && is_n (modules_value tree values)) in
      let l = leaves_no_m profile tree values symbol in
      ap (λ c. TriValue (promoted_if l (promoted_if b (tri_or c (selected tree values symbol)))))
      (unseen (visibility tree values symbol) (unassigned_value profile tree values symbol) a e)
  hidden_tri symbol e _ = refl

  own_symbol : (symbol : Symbol) (kind : Kind) → symbol.kind ≡ kind
      → (kind ≡ Tristate → is_visible tree values symbol ≡ true → Own tree.language (λ x. symbol_rule kind profile tree symbol x values))
      → Own tree.language (λ x. symbol_rule kind profile tree symbol x values)
  own_symbol symbol Boolean e lifted = own_bool symbol e
  own_symbol symbol Text e lifted = own_string symbol
  own_symbol symbol Tristate e lifted = elim (cases_Bool (is_n (visibility tree values symbol))) [
    | inl hidden ↦ λ y h. hidden_tri symbol hidden (Some y)
    | inr seen ↦ lifted refl (ap not seen)
  ]
  own_symbol symbol _ e lifted = own_number symbol (ap is_number e)

  -- of a visible tristate alone it may be otherwise
  abbrev NotLifted : Option TreeUnit → Type 0
  NotLifted unit =
      (s : ℕ) (symbol : Symbol) → unit ≡ Some (of_symbol s) → slice_get tree.symbols s ≡ Some symbol → symbol.kind ≡ Tristate
      → is_visible tree values symbol ≡ true
      → Own tree.language (λ x. rule_of_unit profile tree unit x values)

  own_symbol_at : (s : ℕ) (o : Option Symbol) → slice_get tree.symbols s ≡ o → NotLifted (Some (of_symbol s))
      → Own tree.language (λ x. rule_of_symbol profile tree o x values)
  own_symbol_at s None e lifted = λ y h. refl
  own_symbol_at s (Some symbol) e lifted = own_symbol symbol symbol.kind refl (λ kind seen y h.
      let free = lifted s symbol refl e kind seen y (ap (λ o. as_user tree.language (rule_of_symbol profile tree o None values)) e ∙ h) in
      ap (λ o. rule_of_symbol profile tree o (Some y) values) (sym e) ∙ free ∙ ap (λ o. rule_of_symbol profile tree o None values) e)

  own_choice_at : (o : Option Choice) → Own tree.language (λ x. rule_of_choice tree o x values)
  own_choice_at None = λ y h. refl
  own_choice_at (Some choice) = own_choice choice

  own_unit : (unit : Option TreeUnit) → NotLifted unit → Own tree.language (λ x. rule_of_unit profile tree unit x values)
  own_unit None lifted = λ y h. refl
  own_unit (Some (of_symbol s)) lifted = own_symbol_at s (slice_get tree.symbols s) refl lifted
  own_unit (Some (of_choice c)) lifted = own_choice_at (slice_get tree.choices c)

-- In a solution, a unit that isn't lifted (`IsLifted`) gets its value again if that value is its user value.
pub own_values : (profile : Profile) (tree : Tree) (users : List (Option UserValue)) (values : List UnitValue)
    → FitsUsers (length tree.units) (λ u x. IsTrue (user_fits tree u x)) users → Solves (length tree.units) (rule profile tree) users values
    → (u : ℕ) (held : UnitValue) → u < length tree.units → slice_get values u ≡ Some held → (IsLifted profile tree values u → ⊥)
    → rule profile tree u (as_user tree.language held) values ≡ held
unfolding rule
own_values profile tree users values fitting solved u held inside has not_lifted =
    let x = user_of users u in
    let is : held ≡ rule profile tree u x values = let e = solved.holds u inside in cc (e, has) in
    elim (decides (rule profile tree u x values) (rule profile tree u None values)) [
      | inr differs ↦
          let again = (rules_restore profile tree).restored u x values inside solved.one_each (fitting.1 u inside) differs in
          ap (λ h. rule profile tree u (as_user tree.language h) values) is ∙ ap (λ o. rule profile tree u o values) again.1 ∙ again.3 ∙ sym is
      | inl same ↦ go (as_user tree.language held) refl (is ∙ same)
    ] where
      go : (o : Option UserValue) → as_user tree.language held ≡ o → held ≡ rule profile tree u None values → rule profile tree u (as_user tree.language held) values ≡ held
      go None e default = ap (λ p. rule profile tree u p values) e ∙ sym default
      go (Some y) e default =
          let free : NotLifted profile tree values (slice_get tree.units u) =
          λ s symbol unit there kind seen z h.
          let mine : as_user tree.language held ≡ Some z = ap (as_user tree.language) default ∙ h in
          elim (decides (rule profile tree u (as_user tree.language held) values) held) [
            | inl same ↦ ap (λ p. rule profile tree u p values) (sym mine) ∙ same ∙ default
            | inr differs ↦ absurd (not_lifted (record {
              s = s;
              symbol = symbol;
              value = held;
              of_unit = unit;
              is_symbol = there;
              tristate = ap is_tristate
                  kind;
              visible = seen;
              has = has;
              differs = differs;
            }))
          ] in
          ap (λ p. rule profile tree u p values) e ∙ own_unit profile tree values (slice_get tree.units u) free y (ap (as_user tree.language) (sym default) ∙ e) ∙ sym default

hidden_number : (tree : Tree) (values : List UnitValue) (symbol : Symbol) (x : Option UserValue) → is_visible tree values symbol ≡ false
    → TextValue (number_rule tree symbol x values) ≡ TextValue (number_rule tree symbol None values)
hidden_number tree values symbol x e =
    let d = number_default tree values symbol in
    let given : List ℕ → Option (List ℕ) = λ text. user_number tree values symbol.kind (active_range tree values symbol) (unwrap_or (number_of_text symbol.kind text) (pos 0)) text in
    ap (λ b. TextValue (unwrap_or (option_and_then given (cond b (assigned_text x) None)) d)) e
    ∙ sym (ap (λ b. TextValue (unwrap_or (option_and_then given (cond b (assigned_text None) None)) d)) e)

-- A user value of a symbol that isn't visible counts for nothing.
hidden_symbol : (profile : Profile) (tree : Tree) (values : List UnitValue) (symbol : Symbol) (kind : Kind) (x : Option UserValue)
    → is_visible tree values symbol ≡ false
    → symbol_rule kind profile tree symbol x values ≡ symbol_rule kind profile tree symbol None values
hidden_symbol profile tree values symbol Boolean x e = hidden_tri profile tree values symbol (hidden_is (is_n (visibility tree values symbol)) e) x where
  hidden_is : (b : Bool) → not b ≡ false → b ≡ true
  hidden_is true e = refl
  hidden_is false e = absurd (false≢true (sym e))
hidden_symbol profile tree values symbol Tristate x e = hidden_tri profile tree values symbol (hidden_is (is_n (visibility tree values symbol)) e) x where
  hidden_is : (b : Bool) → not b ≡ false → b ≡ true
  hidden_is true e = refl
  hidden_is false e = absurd (false≢true (sym e))
hidden_symbol profile tree values symbol Text x e =
    let d = default_text tree values symbol in
    ap (λ b. TextValue (unwrap_or (cond b (assigned_text x) None) d)) e ∙ sym (ap (λ b. TextValue (unwrap_or (cond b (assigned_text None) None) d)) e)
hidden_symbol profile tree values symbol Int x e = hidden_number tree values symbol x e
hidden_symbol profile tree values symbol Hex x e = hidden_number tree values symbol x e

pub hidden_values : (profile : Profile) (tree : Tree) (values : List UnitValue) (u s : ℕ) (symbol : Symbol) (x : Option UserValue)
    → slice_get tree.units u ≡ Some (of_symbol s) → slice_get tree.symbols s ≡ Some symbol → is_visible tree values symbol ≡ false
    → rule profile tree u x values ≡ rule profile tree u None values
unfolding rule
hidden_values profile tree values u s symbol x unit there hidden =
    ap (λ o. rule_of_unit profile tree o x values) unit ∙ ap (λ o. rule_of_symbol profile tree o x values) there
    ∙ hidden_symbol profile tree values symbol symbol.kind x hidden
    ∙ sym (ap (λ o. rule_of_unit profile tree o None values) unit ∙ ap (λ o. rule_of_symbol profile tree o None values) there)
