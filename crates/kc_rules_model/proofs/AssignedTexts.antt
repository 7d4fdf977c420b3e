-- A text or member that a unit wouldn't have without its user value is its user value.
use Rattle.std.proofs.Common.{◌≢◌}
use Rattle.kc_rules_model.proofs.Common.{◌≡◌, ℕ, Bool, true, false, ◌&&◌, cond, List, [], ◌∷◌, Option, Some, None, slice_get, refl, sym, ◌∙◌, ap, unwrap_or, pos, option_map, option_and_then, true≢false, Kind, Tristate, Text, Int, Hex, Tree, Symbol, Choice, Profile, UnitValue, UserValue}
use Rattle.kc_rules_model.proofs.Common.{is_linux_6_12, is_number, number_of_text, rule_of_unit, rule_of_symbol, rule_of_choice, symbol_rule, string_rule, number_rule, choice_rule, is_visible, default_text, number_default, user_number, is_within, active_range, is_shown, is_visible_member}
use Rattle.kc_rules_model.proofs.Common.{default_member}
use Rattle.kc_value.specs.declared.value.Kind.TheVariants.{Bool as Boolean}
use Rattle.kc_tree_model.specs.declared.ids.Unit.{Unit as TreeUnit}
use Rattle.kc_tree_model.specs.declared.ids.Unit.TheVariants.{Symbol as of_symbol, Choice as of_choice}
use Rattle.kc_rules_model.specs.declared.values.UnitValue.TheVariants.{Text as TextValue, Member as MemberValue}
use Rattle.kc_rules_model.specs.declared.values.UserValue.TheVariants.{Tri as TriUser, Text as TextUser, Member as MemberUser, Lines as LinesUser}
use Rattle.kc_rules_model.specs.Rule.{rule, as_user}
use Rattle.kc_rules_model.specs.checker.RestoreLaw.{text_kept, number_kept, member_kept, older, no_text, no_number}
use Rattle.kc_rules_model.specs.RuleLaws.{is_tri_value, moves_user_values, TextsAreAssigned}

before_of : (six : Bool) → (six && true) ≡ false → six ≡ false
before_of true e = e
before_of false e = e

module _ (profile : Profile) (tree : Tree) (values : List UnitValue) where
  assigned_string : (symbol : Symbol) (x : Option UserValue) → TextValue (string_rule tree symbol x values) ≢ TextValue (string_rule tree symbol None values)
      → x ≡ as_user tree.language (TextValue (string_rule tree symbol x values))
  assigned_string symbol None differs = absurd (differs refl)
  assigned_string symbol (Some (TriUser t)) differs = absurd (differs refl)
  assigned_string symbol (Some (MemberUser s)) differs = absurd (differs refl)
  assigned_string symbol (Some (LinesUser l)) differs = absurd (differs refl)
  assigned_string symbol (Some (TextUser t)) differs =
      let d = default_text tree values symbol in
      let seen = is_visible tree values symbol in
      sym (ap (λ r. Some (TextUser r)) (text_kept seen t d (λ e. differs (ap (λ r. TextValue r) (e ∙ sym (no_text seen d))))))

  assigned_number : (symbol : Symbol) (x : Option UserValue) → is_linux_6_12 tree.language ≡ false
      → TextValue (number_rule tree symbol x values) ≢ TextValue (number_rule tree symbol None values)
      → x ≡ as_user tree.language (TextValue (number_rule tree symbol x values))
  assigned_number symbol None before differs = absurd (differs refl)
  assigned_number symbol (Some (TriUser t)) before differs = absurd (differs refl)
  assigned_number symbol (Some (MemberUser s)) before differs = absurd (differs refl)
  assigned_number symbol (Some (LinesUser l)) before differs = absurd (differs refl)
  assigned_number symbol (Some (TextUser t)) before differs =
      let d = number_default tree values symbol in
      let seen = is_visible tree values symbol in
      let range = active_range tree values symbol in
      let given : List ℕ → Option (List ℕ) = λ text. user_number tree values symbol.kind range (unwrap_or (number_of_text symbol.kind text) (pos 0)) text in
      let kept = number_kept seen given t d (λ e. differs (ap (λ r. TextValue r) (e ∙ sym (no_number seen given d)))) in
      ap (λ r. Some (TextUser r)) (itself (is_linux_6_12 tree.language) (is_within tree values symbol.kind range (unwrap_or (number_of_text symbol.kind t) (pos 0))) t _ _ before kept.1)
    where
      itself : (six within : Bool) (t r : List ℕ) (other : Option (List ℕ)) → six ≡ false → cond six other (cond within (Some t) None) ≡ Some r → t ≡ r
      itself true within t r other before e = absurd (true≢false before)
      itself false true t r other before e = cc
      itself false false t r other before e = cc

  assigned_member : (choice : Choice) (x : Option UserValue) → is_linux_6_12 tree.language ≡ false
      → MemberValue (choice_rule tree choice x values) ≢ MemberValue (choice_rule tree choice None values)
      → x ≡ as_user tree.language (MemberValue (choice_rule tree choice x values))
  assigned_member choice None before differs = absurd (differs refl)
  assigned_member choice (Some (TriUser t)) before differs = absurd (differs refl)
  assigned_member choice (Some (TextUser t)) before differs = absurd (differs refl)
  assigned_member choice (Some (LinesUser l)) before differs =
      absurd (differs (ap (λ m. MemberValue m) (older tree values choice (Some (LinesUser l)) before ∙ sym (older tree values choice None before))))
  assigned_member choice (Some (MemberUser s)) before differs =
      let kept = member_kept (is_shown tree values choice) (is_visible_member tree values s) s (default_member tree choice values)
      (λ same. differs (ap (λ m. MemberValue m) (older tree values choice (Some (MemberUser s)) before ∙ same ∙ sym (older tree values choice None before)))) in
      sym (ap (λ m. as_user tree.language (MemberValue m)) (older tree values choice (Some (MemberUser s)) before ∙ kept)
      ∙ ap (λ b. Some (cond b (LinesUser (record { member = s; is_y = true } ∷ [])) (MemberUser s))) before)

  of_kind : (symbol : Symbol) (kind : Kind) (x : Option UserValue)
      → symbol_rule kind profile tree symbol x values ≢ symbol_rule kind profile tree symbol None values
      → is_tri_value (symbol_rule kind profile tree symbol x values) ≡ false → (is_linux_6_12 tree.language && is_number kind) ≡ false
      → x ≡ as_user tree.language (symbol_rule kind profile tree symbol x values)
  of_kind symbol Boolean x differs text before = absurd (true≢false text)
  of_kind symbol Tristate x differs text before = absurd (true≢false text)
  of_kind symbol Text x differs text before = assigned_string symbol x differs
  of_kind symbol Int x differs text before = assigned_number symbol x (before_of (is_linux_6_12 tree.language) before) differs
  of_kind symbol Hex x differs text before = assigned_number symbol x (before_of (is_linux_6_12 tree.language) before) differs

  of_symbol_at : (o : Option Symbol) (x : Option UserValue) → rule_of_symbol profile tree o x values ≢ rule_of_symbol profile tree o None values
      → is_tri_value (rule_of_symbol profile tree o x values) ≡ false
      → (is_linux_6_12 tree.language && unwrap_or (option_map (λ (symbol : Symbol). is_number symbol.kind) o) false) ≡ false
      → x ≡ as_user tree.language (rule_of_symbol profile tree o x values)
  of_symbol_at None x differs text before = absurd (differs refl)
  of_symbol_at (Some symbol) x differs text before = of_kind symbol symbol.kind x differs text before

  of_choice_at : (o : Option Choice) (x : Option UserValue) → is_linux_6_12 tree.language ≡ false → rule_of_choice tree o x values ≢ rule_of_choice tree o None values
      → x ≡ as_user tree.language (rule_of_choice tree o x values)
  of_choice_at None x before differs = absurd (differs refl)
  of_choice_at (Some choice) x before differs = assigned_member choice x before differs

  of_unit : (o : Option TreeUnit) (x : Option UserValue) → rule_of_unit profile tree o x values ≢ rule_of_unit profile tree o None values
      → is_tri_value (rule_of_unit profile tree o x values) ≡ false → moves_user_values tree o ≡ false → x ≡ as_user tree.language (rule_of_unit profile tree o x values)
  of_unit None x differs text before = absurd (differs refl)
  of_unit (Some (of_symbol s)) x differs text before = of_symbol_at (slice_get tree.symbols s) x differs text before
  of_unit (Some (of_choice c)) x differs text before = of_choice_at (slice_get tree.choices c) x before differs

pub texts_assigned : TextsAreAssigned
unfolding rule
texts_assigned profile tree u x values differs text before = of_unit profile tree values (slice_get tree.units u) x differs text before
