-- A unit's value depends on the values of its dependencies alone.
use Rattle.std.proofs.Common.{◌≡◌, inl, inr, ℕ, suc, ◌+◌, ◌<◌, ◌≤◌, Bool, true, false, not, ◌&&◌, ◌||◌, ◌==◌, cond, IsTrue, List, [], ◌∷◌, ◌++◌, Option, Some, None, IfSome, slice_get, length, zero, refl, sym, ◌∙◌, ap, subst, unwrap_or, map, filter, find, pos, ℤ, int_lt, is_some, arith}
use Rattle.std.specs.Option.{option_map, option_and_then, option_or}
use Rattle.std.specs.List.{AllByRecursion, flat_map, cons_option, list_any, list_all, range_with_len, Contains}
use Rattle.std.proofs.lemmas.Bool.{cases_lt, cases_eq, false≢true, true≢false, and_parts, or_cases, or_left, or_right, eqb-true, eq-eqb}
use Rattle.std.proofs.lemmas.Option.{slice_get_past}
use Rattle.kc_value.specs.declared.tri.Tri.{Tri}
use Rattle.kc_value.specs.declared.tri.Tri.TheVariants.{N, M, Y}
use Rattle.kc_value.specs.declared.value.Kind.{Kind}
use Rattle.kc_value.specs.declared.value.Kind.TheVariants.{Bool as Boolean, Tristate, Text, Int, Hex}
use Rattle.kc_value.specs.Tri.{tri_and, tri_or, is_n, y_for_m, largest, is_y}
use Rattle.kc_expr.specs.Expr.{Expr, alone, related, negated, both, either, shown, operand_text, symbol_tri, modules}
use Rattle.kc_tree_model.specs.Trees.{Tree, Symbol, Choice, Default, Range, ReverseDependency, MemberDefault}
use Rattle.kc_tree_model.specs.declared.ids.Unit.{Unit as TreeUnit}
use Rattle.kc_tree_model.specs.declared.ids.Unit.TheVariants.{Symbol as of_symbol, Choice as of_choice}
use Rattle.kc_tree_model.specs.TreeLookup.{unit_of, unit_of_symbol, unit_in, index_of_unit, symbol_named}
use Rattle.kc_solver.specs.Solutions.{KeepsFrame}
use Rattle.kc_rules_model.specs.declared.profile.Profile.{Profile}
use Rattle.kc_rules_model.specs.declared.profile.Profile.TheVariants.{Present, Classic}
use Rattle.kc_rules_model.specs.declared.values.UnitValue.{UnitValue}
use Rattle.kc_rules_model.specs.declared.values.UnitValue.TheVariants.{Tri as TriValue, Text as TextValue, Member as MemberValue}
use Rattle.kc_rules_model.specs.declared.values.UserValue.{UserValue}
use Rattle.kc_rules_model.specs.declared.values.UserValue.TheVariants.{Tri as TriUser, Text as TextUser, Member as MemberUser, Lines as LinesUser}
use Rattle.kc_rules_model.specs.declared.values.MemberLine.{MemberLine}
use Rattle.kc_rules_model.specs.MemberLines.{is_listed, last_y, first_listed, selected_without_y, selected_by_lines}
use Rattle.kc_tokens.specs.Languages.{is_linux_6_12}
use Rattle.kc_value.specs.Kinds.{is_bool, is_tristate, is_tri_kind}
use Rattle.kc_value.specs.Number.{number_of_text, number_spelling}
use Rattle.kc_rules_model.specs.SymbolValues.{condition, environment, value_of_symbol, value_in_unit, tri_symbol_value, tri_if_selected, member_of, tri_of, text_of}
use Rattle.kc_rules_model.specs.Rule.{conditions, is_from_environment, counted_prompts, reverse_dependency_limit, is_visible, expression_text, default_tri, is_within, clamped, promoted, modules_value, visibility, unassigned_value, base, selected, implied, implied_effect, leaves_no_m, direct_dependency, active_default, active_range, assigned_tri, assigned_text, assigned_member, tri_rule, string_rule, number_rule, number_default, default_text, visible_text, symbol_rule, choice_rule, shown_choice_rule, default_member, assigned_lines, user_number, bound_text, bound, is_upside_down, text_without_number, is_shown, is_visible_member, rule, rule_of_unit, rule_of_symbol, rule_of_choice}
use Rattle.kc_rules_model.specs.Dependencies.{units_named, units_of_reverse_dependencies, needed_by_symbol, needed_by_choice, needed_by, needed_by_symbol_at, needed_by_choice_at, dependencies, names_in_member_prompts, names_in_prompts, names_in_prompt, names_in_shown}
use Rattle.kc_expr.specs.ExpressionNames.{names_in, operand_names}
use Rattle.kc_rules_model.specs.Shapes.{user_fits, unit_user_fits, choice_user_fits}
use Rattle.kc_rules_model.specs.checker.Agreement.{Agrees, parts, text_agrees, value_agrees, find_agrees, all_map}

visible_by_prompts : (b : Bool) (t : Tri) → not (is_n (cond b (y_for_m t) t)) ≡ not (is_n t)
visible_by_prompts true N = refl
visible_by_prompts true M = refl
visible_by_prompts true Y = refl
visible_by_prompts false t = refl

promoted_as : (kind : Kind) (m n : Tri) (t : Tri) → (is_tristate kind ≡ true → m ≡ n)
    → cond (is_bool kind || (is_tristate kind && is_n m)) (y_for_m t) t ≡ cond (is_bool kind || (is_tristate kind && is_n n)) (y_for_m t) t
promoted_as Boolean m n t same = refl
promoted_as Tristate m n t same = ap (λ x. cond (is_n x) (y_for_m t) t) (same refl)
promoted_as Text m n t same = refl
promoted_as Int m n t same = refl
promoted_as Hex m n t same = refl

kept_where : (o : Option (List ℕ)) (p q : List ℕ → Option (List ℕ)) → ((x : List ℕ) → p x ≡ q x) → option_and_then p o ≡ option_and_then q o
kept_where None p q same = refl
kept_where (Some x) p q same = same x

-- assignments of members select the same one, whatever tests agree on the members and on those that are listed
module _ (f h : ℕ → Bool) where
  last_agrees : (lines : List MemberLine) → AllByRecursion (λ (l : MemberLine). f l.member ≡ h l.member) lines → last_y f lines ≡ last_y h lines
  last_agrees [] all = refl
  last_agrees (l ∷ lines) all =
      ap (λ o. option_or o (cond (l.is_y && f l.member) (Some l.member) None)) (last_agrees lines all.1)
      ∙ ap (λ b. option_or (last_y h lines) (cond (l.is_y && b) (Some l.member) None)) all.0

  first_agrees : (lines : List MemberLine) → AllByRecursion (λ (l : MemberLine). f l.member ≡ h l.member) lines → first_listed f lines ≡ first_listed h lines
  first_agrees lines all =
      find_agrees (λ (l : MemberLine). f l.member) (λ (l : MemberLine). h l.member) (λ o. option_map (λ (l : MemberLine). l.member) o) (λ o. option_map (λ (l : MemberLine). l.member) o) lines refl
      (all_map _ _ (λ (l : MemberLine) p. (p, refl)) lines all)

  unlisted_agrees : (members : List ℕ) (lines : List MemberLine) → AllByRecursion (λ s. f s ≡ h s) members
      → find (λ s. f s && not (is_listed lines s)) members ≡ find (λ s. h s && not (is_listed lines s)) members
  unlisted_agrees members lines all =
      find_agrees (λ s. f s && not (is_listed lines s)) (λ s. h s && not (is_listed lines s)) (λ (o : Option ℕ). o) (λ o. o) members refl
      (all_map _ _ (λ s p. (ap (λ b. b && not (is_listed lines s)) p, refl)) members all)

  without_y_agrees : (members : List ℕ) (default : Option ℕ) (lines : List MemberLine) → AllByRecursion (λ s. f s ≡ h s) members
      → AllByRecursion (λ (l : MemberLine). f l.member ≡ h l.member) lines → selected_without_y f members default lines ≡ selected_without_y h members default lines
  without_y_agrees members None lines seen listed = refl
  without_y_agrees members (Some d) lines seen listed =
      ap (λ o. cond (is_listed lines d) (option_or o (first_listed f lines)) (Some d)) (unlisted_agrees members lines seen)
      ∙ ap (λ o. cond (is_listed lines d) (option_or (find (λ s. h s && not (is_listed lines s)) members) o) (Some d)) (first_agrees lines listed)

  lines_agree : (members : List ℕ) (default : Option ℕ) (lines : List MemberLine) → AllByRecursion (λ s. f s ≡ h s) members
      → AllByRecursion (λ (l : MemberLine). f l.member ≡ h l.member) lines → selected_by_lines f members default lines ≡ selected_by_lines h members default lines
  lines_agree members default lines seen listed =
      ap (λ o. option_or o (selected_without_y f members default lines)) (last_agrees lines listed)
      ∙ ap (λ o. option_or (last_y h lines) o) (without_y_agrees members default lines seen listed)

by_either : (b : Bool) (p q r s : Option ℕ) → p ≡ q → (b ≡ false → r ≡ s) → cond b p r ≡ cond b q s
by_either true p q r s first second = first
by_either false p q r s first second = second refl

-- under two valuations, the condition of a default has the same value, and its expression the same value and text
abbrev DefaultAgrees : Tree → List UnitValue → List UnitValue → Default → Type 0
DefaultAgrees tree v w d = (condition tree v d.condition ≡ condition tree w d.condition) × (condition tree v d.value ≡ condition tree w d.value) × (expression_text tree v d.value ≡ expression_text tree w d.value)

-- under two valuations, the condition of a range has the same value, and each of its bounds the same text
abbrev RangeAgrees : Tree → List UnitValue → List UnitValue → Range → Type 0
RangeAgrees tree v w r = (condition tree v r.condition ≡ condition tree w r.condition) × (operand_text (environment tree v) r.low ≡ operand_text (environment tree w) r.low) × (operand_text (environment tree v) r.high ≡ operand_text (environment tree w) r.high)

module _ (tree : Tree) (v w : List UnitValue) where
  seen_in_agrees : (s : ℕ) (symbol : Symbol) → slice_get tree.symbols s ≡ Some symbol → (c : Option ℕ) → symbol.choice ≡ c → slice_get v (unit_of tree s) ≡ slice_get w (unit_of tree s) → value_in_unit tree v s symbol c ≡ value_in_unit tree w s symbol c
  seen_in_agrees s symbol e None ec same = ap (λ held. cond (is_tri_kind symbol.kind) (tri_symbol_value symbol.kind (tri_of held)) (record { kind = symbol.kind; tri = N; text = text_of held })) same
  seen_in_agrees s symbol e (Some c) ec same =
      let unit : unit_of tree s ≡ index_of_unit tree (of_choice c) = ap (unit_of_symbol tree s) e ∙ ap (λ x. index_of_unit tree (unit_in s x)) ec in
      ap (λ held. tri_symbol_value symbol.kind (tri_if_selected s (member_of held))) (subst (λ d. slice_get v d ≡ slice_get w d) unit same)

  seen_there : (s : ℕ) (o : Option Symbol) → slice_get tree.symbols s ≡ o → slice_get v (unit_of tree s) ≡ slice_get w (unit_of tree s)
      → option_map (λ (symbol : Symbol). value_in_unit tree v s symbol symbol.choice) o ≡ option_map (λ (symbol : Symbol). value_in_unit tree w s symbol symbol.choice) o
  seen_there s None e same = refl
  seen_there s (Some symbol) e same = ap Some (seen_in_agrees s symbol e symbol.choice refl same)

  seen_agrees : (s : ℕ) → slice_get v (unit_of tree s) ≡ slice_get w (unit_of tree s) → value_of_symbol tree v s ≡ value_of_symbol tree w s
  seen_agrees s same = seen_there s (slice_get tree.symbols s) refl same

  named_agrees : (o : Option ℕ) (rest : List ℕ) → AllByRecursion (λ d. slice_get v d ≡ slice_get w d) (cons_option (option_map (unit_of tree) o) rest)
      → (option_and_then (λ s. value_of_symbol tree v s) o ≡ option_and_then (λ s. value_of_symbol tree w s) o) × AllByRecursion (λ d. slice_get v d ≡ slice_get w d) rest
  named_agrees None rest all = (refl, all)
  named_agrees (Some s) rest all = (seen_agrees s all.0, all.1)

  -- environments agree on the names whose units the valuations agree on
  names_agree : (all : List (List ℕ)) → AllByRecursion (λ d. slice_get v d ≡ slice_get w d) (units_named tree all) → Agrees (environment tree v) (environment tree w) all
  names_agree [] same = tt
  names_agree (name ∷ more) same = let r = named_agrees (symbol_named tree name) (units_named tree more) same in (r.0, names_agree more r.1)

  conditions_agree : (es : List Expr) → Agrees (environment tree v) (environment tree w) (flat_map names_in es) → conditions tree v es ≡ conditions tree w es
  conditions_agree [] all = refl
  conditions_agree (e ∷ es) all =
      let p = parts _ (names_in e) (flat_map names_in es) all in
      ap (λ t. t ∷ conditions tree v es) (value_agrees (environment tree v) (environment tree w) e p.0) ∙ ap (λ ts. condition tree w e ∷ ts) (conditions_agree es p.1)

  counted_agree : (b : Bool) (prompts : List Expr) → Agrees (environment tree v) (environment tree w) (flat_map names_in prompts)
      → conditions tree v (cond b [] prompts) ≡ conditions tree w (cond b [] prompts)
  counted_agree true prompts all = refl
  counted_agree false prompts all = conditions_agree prompts all

  visible_agrees : (symbol : Symbol) → Agrees (environment tree v) (environment tree w) (flat_map names_in symbol.prompts) → is_visible tree v symbol ≡ is_visible tree w symbol
  visible_agrees symbol all =
      let counted = counted_prompts symbol in
      visible_by_prompts _ (largest (conditions tree v counted)) ∙ ap (λ ts. not (is_n (largest ts))) (counted_agree (is_from_environment symbol) symbol.prompts all)
      ∙ sym (visible_by_prompts _ (largest (conditions tree w counted)))

  forces_agree : (fs : List ReverseDependency) → AllByRecursion (λ d. slice_get v d ≡ slice_get w d) (map (λ (f : ReverseDependency). unit_of tree f.by) fs) → Agrees (environment tree v) (environment tree w) (flat_map (λ (f : ReverseDependency). names_in f.condition) fs)
      → reverse_dependency_limit tree v fs ≡ reverse_dependency_limit tree w fs
  forces_agree [] units all = refl
  forces_agree (f ∷ fs) units all =
      let p = parts _ (names_in f.condition) (flat_map (λ (g : ReverseDependency). names_in g.condition) fs) all in
      let one = ap (λ r. tri_and (symbol_tri r) (condition tree v f.condition)) (seen_agrees f.by units.0) ∙ ap (tri_and (symbol_tri (value_of_symbol tree w f.by))) (value_agrees (environment tree v) (environment tree w) f.condition p.0) in
      ap (λ t. t ∷ reverse_dependency_limit tree v fs) one ∙ ap (λ ts. tri_and (symbol_tri (value_of_symbol tree w f.by)) (condition tree w f.condition) ∷ ts) (forces_agree fs units.1 p.1)

  forced_agrees : (fs : List ReverseDependency) → AllByRecursion (λ d. slice_get v d ≡ slice_get w d) (units_of_reverse_dependencies tree fs) → largest (reverse_dependency_limit tree v fs) ≡ largest (reverse_dependency_limit tree w fs)
  forced_agrees fs all =
      let p = parts _ (map (λ (f : ReverseDependency). unit_of tree f.by) fs) (units_named tree (flat_map (λ (f : ReverseDependency). names_in f.condition) fs)) all in
      ap largest (forces_agree fs p.0 (names_agree (flat_map (λ (f : ReverseDependency). names_in f.condition) fs) p.1))

  expression_text_agrees : (e : Expr) → Agrees (environment tree v) (environment tree w) (names_in e) → expression_text tree v e ≡ expression_text tree w e
  expression_text_agrees (alone a) all = text_agrees (environment tree v) (environment tree w) a all
  expression_text_agrees (related r a b) all = refl
  expression_text_agrees (negated e) all = refl
  expression_text_agrees (both a b) all = refl
  expression_text_agrees (either a b) all = refl
  expression_text_agrees (shown e) all = refl

  defaults_agree : (ds : List Default) → Agrees (environment tree v) (environment tree w) (flat_map (λ (d : Default). names_in d.value ++ names_in d.condition) ds)
      → AllByRecursion (DefaultAgrees tree v w) ds
  defaults_agree [] all = tt
  defaults_agree (d ∷ ds) all =
      let p = parts _ (names_in d.value ++ names_in d.condition) (flat_map (λ (e : Default). names_in e.value ++ names_in e.condition) ds) all in
      let q = parts _ (names_in d.value) (names_in d.condition) p.0 in
      ((value_agrees (environment tree v) (environment tree w) d.condition q.1, value_agrees (environment tree v) (environment tree w) d.value q.0, expression_text_agrees d.value q.0), defaults_agree ds p.1)

  default_tri_agrees : (ds : List Default) → AllByRecursion (DefaultAgrees tree v w) ds
      → default_tri tree v (find (λ (d : Default). not (is_n (condition tree v d.condition))) ds) ≡ default_tri tree w (find (λ (d : Default). not (is_n (condition tree w d.condition))) ds)
  default_tri_agrees ds all =
      find_agrees (λ (d : Default). not (is_n (condition tree v d.condition))) (λ (d : Default). not (is_n (condition tree w d.condition))) (default_tri tree v) (default_tri tree w) ds refl
      (all_map _ _ (λ (d : Default) p. (ap (λ t. not (is_n t)) p.0, ap (λ t. tri_and t (condition tree v d.condition)) p.1 ∙ ap (tri_and (condition tree w d.value)) p.0)) ds all)

  default_text_agrees : (ds : List Default) → AllByRecursion (DefaultAgrees tree v w) ds
      → unwrap_or (option_map (λ (d : Default). expression_text tree v d.value) (find (λ (d : Default). not (is_n (condition tree v d.condition))) ds)) [] ≡ unwrap_or (option_map (λ (d : Default). expression_text tree w d.value) (find (λ (d : Default). not (is_n (condition tree w d.condition))) ds)) []
  default_text_agrees ds all =
      find_agrees (λ (d : Default). not (is_n (condition tree v d.condition))) (λ (d : Default). not (is_n (condition tree w d.condition)))
      (λ o. unwrap_or (option_map (λ (d : Default). expression_text tree v d.value) o) []) (λ o. unwrap_or (option_map (λ (d : Default). expression_text tree w d.value) o) []) ds refl
      (all_map _ _ (λ (d : Default) p. (ap (λ t. not (is_n t)) p.0, p.2)) ds all)

  ranges_agree : (rs : List Range) → Agrees (environment tree v) (environment tree w) (flat_map (λ (r : Range). operand_names r.low ++ operand_names r.high ++ names_in r.condition) rs)
      → AllByRecursion (RangeAgrees tree v w) rs
  ranges_agree [] all = tt
  ranges_agree (r ∷ rs) all =
      let p = parts _ (operand_names r.low ++ operand_names r.high ++ names_in r.condition) (flat_map (λ (q : Range). operand_names q.low ++ operand_names q.high ++ names_in q.condition) rs) all in
      let q = parts _ (operand_names r.low ++ operand_names r.high) (names_in r.condition) p.0 in
      let o = parts _ (operand_names r.low) (operand_names r.high) q.0 in
      ((value_agrees (environment tree v) (environment tree w) r.condition q.1, text_agrees (environment tree v) (environment tree w) r.low o.0, text_agrees (environment tree v) (environment tree w) r.high o.1), ranges_agree rs p.1)

  within_agrees : (kind : Kind) (n : ℤ) (rs : List Range) → AllByRecursion (RangeAgrees tree v w) rs
      → is_within tree v kind (find (λ (r : Range). not (is_n (condition tree v r.condition))) rs) n ≡ is_within tree w kind (find (λ (r : Range). not (is_n (condition tree w r.condition))) rs) n
  within_agrees kind n rs all =
      find_agrees (λ (r : Range). not (is_n (condition tree v r.condition))) (λ (r : Range). not (is_n (condition tree w r.condition))) (λ o. is_within tree v kind o n) (λ o. is_within tree w kind o n) rs refl
      (all_map _ _ (λ (r : Range) p. (
        ap (λ t. not (is_n t)) p.0,
        ap (λ t. not (int_lt n (unwrap_or (number_of_text kind t) (pos 0))) && not (int_lt (unwrap_or (number_of_text kind (operand_text (environment tree v) r.high)) (pos 0)) n)) p.1
            ∙ ap (λ t. not (int_lt n (unwrap_or (number_of_text kind (operand_text (environment tree w) r.low)) (pos 0))) && not (int_lt (unwrap_or (number_of_text kind t) (pos 0)) n)) p.2,
      )) rs all)

  -- the text of a bound with this text, if texts of bounds stay
  abbrev bound_by : Kind → List ℕ → List ℕ
  bound_by kind t = cond (is_linux_6_12 tree.language && is_some (number_of_text kind t)) t (number_spelling kind (unwrap_or (number_of_text kind t) (pos 0)))

  abbrev limited_by : Kind → ℤ → List ℕ → List ℕ → List ℕ → List ℕ
  limited_by kind n text low high =
      cond (int_lt n (unwrap_or (number_of_text kind low) (pos 0))) (bound_by kind low) (cond (int_lt (unwrap_or (number_of_text kind high) (pos 0)) n) (bound_by kind high) text)

  limited_agrees : (kind : Kind) (n : ℤ) (text : List ℕ) (rs : List Range) → AllByRecursion (RangeAgrees tree v w) rs
      → clamped tree v kind (find (λ (r : Range). not (is_n (condition tree v r.condition))) rs) n text ≡ clamped tree w kind (find (λ (r : Range). not (is_n (condition tree w r.condition))) rs) n text
  limited_agrees kind n text rs all =
      find_agrees (λ (r : Range). not (is_n (condition tree v r.condition))) (λ (r : Range). not (is_n (condition tree w r.condition))) (λ o. clamped tree v kind o n text) (λ o. clamped tree w kind o n text) rs refl
      (all_map _ _ (λ (r : Range) p. (
        ap (λ t. not (is_n t)) p.0,
        ap (λ t. limited_by kind n text t (operand_text (environment tree v) r.high)) p.1 ∙ ap (λ t. limited_by kind n text (operand_text (environment tree w) r.low) t) p.2,
      )) rs all)

  upside_down_agrees : (kind : Kind) (rs : List Range) → AllByRecursion (RangeAgrees tree v w) rs
      → is_upside_down tree v kind (find (λ (r : Range). not (is_n (condition tree v r.condition))) rs) ≡ is_upside_down tree w kind (find (λ (r : Range). not (is_n (condition tree w r.condition))) rs)
  upside_down_agrees kind rs all =
      find_agrees (λ (r : Range). not (is_n (condition tree v r.condition))) (λ (r : Range). not (is_n (condition tree w r.condition))) (λ o. is_upside_down tree v kind o) (λ o. is_upside_down tree w kind o) rs refl
      (all_map _ _ (λ (r : Range) p. (
        ap (λ t. not (is_n t)) p.0,
        ap (λ t. int_lt (unwrap_or (number_of_text kind (operand_text (environment tree v) r.high)) (pos 0)) (unwrap_or (number_of_text kind t) (pos 0))) p.1
            ∙ ap (λ t. int_lt (unwrap_or (number_of_text kind t) (pos 0)) (unwrap_or (number_of_text kind (operand_text (environment tree w) r.low)) (pos 0))) p.2,
      )) rs all)

  user_number_agrees : (kind : Kind) (n : ℤ) (text : List ℕ) (rs : List Range) → AllByRecursion (RangeAgrees tree v w) rs
      → user_number tree v kind (find (λ (r : Range). not (is_n (condition tree v r.condition))) rs) n text ≡ user_number tree w kind (find (λ (r : Range). not (is_n (condition tree w r.condition))) rs) n text
  user_number_agrees kind n text rs all =
      let F : Bool → List ℕ → Bool → Option (List ℕ) = λ down t within. cond (is_linux_6_12 tree.language) (cond down None (Some t)) (cond within (Some text) None) in
      let R : List UnitValue → Option Range = λ values. find (λ (r : Range). not (is_n (condition tree values r.condition))) rs in
      ap (λ b. F b (clamped tree v kind (R v) n text) (is_within tree v kind (R v) n)) (upside_down_agrees kind rs all)
      ∙ ap (λ t. F (is_upside_down tree w kind (R w)) t (is_within tree v kind (R v) n)) (limited_agrees kind n text rs all)
      ∙ ap (λ b. F (is_upside_down tree w kind (R w)) (clamped tree w kind (R w) n text) b) (within_agrees kind n rs all)

  -- whether a default counts, and so what is in place of a number
  no_default_agrees : (kind : Kind) (ds : List Default) → AllByRecursion (DefaultAgrees tree v w) ds
      → is_some (find (λ (d : Default). not (is_n (condition tree v d.condition))) ds) ≡ is_some (find (λ (d : Default). not (is_n (condition tree w d.condition))) ds)
  no_default_agrees kind ds all =
      find_agrees (λ (d : Default). not (is_n (condition tree v d.condition))) (λ (d : Default). not (is_n (condition tree w d.condition))) is_some is_some ds refl
      (all_map _ _ (λ (d : Default) p. (ap (λ t. not (is_n t)) p.0, refl)) ds all)

  modules_agree : (b : Bool) → Agrees (environment tree v) (environment tree w) (cond b (modules ∷ []) []) → b ≡ true → modules_value tree v ≡ modules_value tree w
  modules_agree true all e = ap symbol_tri all.0
  modules_agree false all e = cc

  -- what a symbol's rule needs of two valuations
  record SymbolAgrees (symbol : Symbol) : Type 0 where
    prompts : Agrees (environment tree v) (environment tree w) (flat_map names_in symbol.prompts)
    defaults : AllByRecursion (DefaultAgrees tree v w) symbol.defaults
    ranges : AllByRecursion (RangeAgrees tree v w) symbol.ranges
    direct : direct_dependency tree v symbol ≡ direct_dependency tree w symbol
    selects : selected tree v symbol ≡ selected tree w symbol
    implies : implied tree v symbol ≡ implied tree w symbol
    tristates : is_tristate symbol.kind ≡ true → modules_value tree v ≡ modules_value tree w

  symbol_agrees : (symbol : Symbol) → AllByRecursion (λ d. slice_get v d ≡ slice_get w d) (needed_by_symbol tree symbol) → SymbolAgrees symbol
  symbol_agrees symbol all =
      let P = flat_map names_in symbol.prompts in
      let D = flat_map (λ (d : Default). names_in d.value ++ names_in d.condition) symbol.defaults in
      let R = flat_map (λ (r : Range). operand_names r.low ++ operand_names r.high ++ names_in r.condition) symbol.ranges in
      let G = flat_map names_in symbol.direct in
      let K = cond (is_tristate symbol.kind) (modules ∷ []) [] in
      let p1 = parts _ (units_named tree (P ++ D ++ R ++ G ++ K) ++ units_of_reverse_dependencies tree symbol.selectors) (units_of_reverse_dependencies tree symbol.impliers) all in
      let p2 = parts _ (units_named tree (P ++ D ++ R ++ G ++ K)) (units_of_reverse_dependencies tree symbol.selectors) p1.0 in
      let e = names_agree (P ++ D ++ R ++ G ++ K) p2.0 in
      let a1 = parts _ (P ++ D ++ R ++ G) K e in
      let a2 = parts _ (P ++ D ++ R) G a1.0 in
      let a3 = parts _ (P ++ D) R a2.0 in
      let a4 = parts _ P D a3.0 in
      record {
        prompts = a4.0;
        defaults = defaults_agree symbol.defaults a4.1;
        ranges = ranges_agree symbol.ranges a3.1;
        direct = ap largest (conditions_agree symbol.direct a2.1);
        selects = forced_agrees symbol.selectors p2.1;
        implies = forced_agrees symbol.impliers p1.1;
        tristates = modules_agree (is_tristate symbol.kind) a1.1;
      }

  promoted_agrees : (symbol : Symbol) → SymbolAgrees symbol → (t : Tri) → promoted tree v symbol.kind t ≡ promoted tree w symbol.kind t
  promoted_agrees symbol a t = promoted_as symbol.kind (modules_value tree v) (modules_value tree w) t a.tristates

  visibility_agrees : (symbol : Symbol) → SymbolAgrees symbol → visibility tree v symbol ≡ visibility tree w symbol
  visibility_agrees symbol a =
      ap (λ ts. promoted tree v symbol.kind (largest ts)) (counted_agree (is_from_environment symbol) symbol.prompts a.prompts)
      ∙ promoted_agrees symbol a (largest (conditions tree w (counted_prompts symbol)))

  effect_agrees : (symbol : Symbol) → SymbolAgrees symbol → implied_effect tree v symbol ≡ implied_effect tree w symbol
  effect_agrees symbol a =
      ap (λ g. cond (is_n g) N (implied tree v symbol)) a.direct ∙ ap (λ i. cond (is_n (direct_dependency tree w symbol)) N i) a.implies

  unassigned_agrees : (profile : Profile) (symbol : Symbol) → SymbolAgrees symbol → unassigned_value profile tree v symbol ≡ unassigned_value profile tree w symbol
  unassigned_agrees Present symbol a =
      let F : Tri → Tri → Tri → Tri = λ d i g. cond (is_n i) d (tri_and (tri_or d i) g) in
      let d = default_tri tree w (active_default tree w symbol) in
      ap (λ d. F d (implied tree v symbol) (direct_dependency tree v symbol)) (default_tri_agrees symbol.defaults a.defaults)
      ∙ ap (λ i. F d i (direct_dependency tree v symbol)) a.implies ∙ ap (λ g. F d (implied tree w symbol) g) a.direct
  unassigned_agrees Classic symbol a =
      ap (λ d. tri_or d (implied_effect tree v symbol)) (default_tri_agrees symbol.defaults a.defaults)
      ∙ ap (tri_or (default_tri tree w (active_default tree w symbol))) (effect_agrees symbol a)

  base_agrees : (profile : Profile) (symbol : Symbol) → SymbolAgrees symbol → (o : Option Tri) → base profile tree v symbol o ≡ base profile tree w symbol o
  base_agrees profile symbol a None = unassigned_agrees profile symbol a
  base_agrees profile symbol a (Some t) =
      ap (λ x. cond (not (is_n x)) (tri_and t x) (unassigned_value profile tree v symbol)) (visibility_agrees symbol a)
      ∙ ap (λ y. cond (not (is_n (visibility tree w symbol))) (tri_and t (visibility tree w symbol)) y) (unassigned_agrees profile symbol a)

  leaves_agrees : (profile : Profile) (symbol : Symbol) → SymbolAgrees symbol → leaves_no_m profile tree v symbol ≡ leaves_no_m profile tree w symbol
  leaves_agrees Present symbol a = refl
  leaves_agrees Classic symbol a = ap is_y (effect_agrees symbol a)

  tri_rule_agrees : (profile : Profile) (symbol : Symbol) → SymbolAgrees symbol → (x : Option UserValue) → tri_rule profile tree symbol x v ≡ tri_rule profile tree symbol x w
  tri_rule_agrees profile symbol a x =
      let F : Bool → Tri → Tri = λ b t. cond b (y_for_m t) t in
      let b = base profile tree w symbol (assigned_tri x) in
      ap (λ t. F (leaves_no_m profile tree v symbol) (promoted tree v symbol.kind (tri_or t (selected tree v symbol)))) (base_agrees profile symbol a (assigned_tri x))
      ∙ ap (λ t. F (leaves_no_m profile tree v symbol) (promoted tree v symbol.kind (tri_or b t))) a.selects
      ∙ ap (F (leaves_no_m profile tree v symbol)) (promoted_agrees symbol a (tri_or b (selected tree w symbol)))
      ∙ ap (λ l. F l (promoted tree w symbol.kind (tri_or b (selected tree w symbol)))) (leaves_agrees profile symbol a)

  visible_text_agrees : (symbol : Symbol) → SymbolAgrees symbol → (x : Option UserValue) → visible_text tree symbol x v ≡ visible_text tree symbol x w
  visible_text_agrees symbol a x = ap (λ b. cond b (assigned_text x) None) (visible_agrees symbol a.prompts)

  string_rule_agrees : (symbol : Symbol) → SymbolAgrees symbol → (x : Option UserValue) → string_rule tree symbol x v ≡ string_rule tree symbol x w
  string_rule_agrees symbol a x =
      ap (λ o. unwrap_or o (default_text tree v symbol)) (visible_text_agrees symbol a x) ∙ ap (unwrap_or (visible_text tree symbol x w)) (default_text_agrees symbol.defaults a.defaults)

  number_default_agrees : (symbol : Symbol) → SymbolAgrees symbol → number_default tree v symbol ≡ number_default tree w symbol
  number_default_agrees symbol a =
      let L : List UnitValue → ℤ → List ℕ → List ℕ = λ values n text. clamped tree values symbol.kind (active_range tree values symbol) n text in
      let Z : List UnitValue → List ℕ = λ values. text_without_number tree values symbol in
      let F : List UnitValue → List ℕ → List ℕ = λ values text. cond (is_some (number_of_text symbol.kind text)) (L values (unwrap_or (number_of_text symbol.kind text) (pos 0)) text) (L values (pos 0) (Z values)) in
      let text = default_text tree w symbol in
      let some : Bool = is_some (number_of_text symbol.kind text) in
      let n : ℤ = unwrap_or (number_of_text symbol.kind text) (pos 0) in
      ap (F v) (default_text_agrees symbol.defaults a.defaults)
      ∙ ap (λ r. cond some r (L v (pos 0) (Z v))) (limited_agrees symbol.kind n text symbol.ranges a.ranges)
      ∙ ap (λ b. cond some (L w n text) (L v (pos 0) (cond (is_linux_6_12 tree.language && not b) (number_spelling symbol.kind (pos 0)) []))) (no_default_agrees symbol.kind symbol.defaults a.defaults)
      ∙ ap (λ r. cond some (L w n text) r) (limited_agrees symbol.kind (pos 0) (Z w) symbol.ranges a.ranges)

  number_rule_agrees : (symbol : Symbol) → SymbolAgrees symbol → (x : Option UserValue) → number_rule tree symbol x v ≡ number_rule tree symbol x w
  number_rule_agrees symbol a x =
      let W : List UnitValue → List ℕ → Option (List ℕ) = λ values text. user_number tree values symbol.kind (active_range tree values symbol) (unwrap_or (number_of_text symbol.kind text) (pos 0)) text in
      let A : List UnitValue → Option (List ℕ) → Option (List ℕ) = λ values o. option_and_then (W values) o in
      ap (λ o. unwrap_or (A v o) (number_default tree v symbol)) (visible_text_agrees symbol a x)
      ∙ ap (λ o. unwrap_or o (number_default tree v symbol)) (kept_where (visible_text tree symbol x w) (W v) (W w) (λ text. user_number_agrees symbol.kind (unwrap_or (number_of_text symbol.kind text) (pos 0)) text symbol.ranges a.ranges))
      ∙ ap (unwrap_or (A w (visible_text tree symbol x w))) (number_default_agrees symbol a)

  symbol_rule_agrees : (kind : Kind) (profile : Profile) (symbol : Symbol) → SymbolAgrees symbol → (x : Option UserValue) → symbol_rule kind profile tree symbol x v ≡ symbol_rule kind profile tree symbol x w
  symbol_rule_agrees Boolean profile symbol a x = ap (λ t. TriValue t) (tri_rule_agrees profile symbol a x)
  symbol_rule_agrees Tristate profile symbol a x = ap (λ t. TriValue t) (tri_rule_agrees profile symbol a x)
  symbol_rule_agrees Text profile symbol a x = ap (λ t. TextValue t) (string_rule_agrees symbol a x)
  symbol_rule_agrees Int profile symbol a x = ap (λ t. TextValue t) (number_rule_agrees symbol a x)
  symbol_rule_agrees Hex profile symbol a x = ap (λ t. TextValue t) (number_rule_agrees symbol a x)

  seen_at : (o : Option Symbol) → Agrees (environment tree v) (environment tree w) (names_in_prompts o) → unwrap_or (option_map (is_visible tree v) o) false ≡ unwrap_or (option_map (is_visible tree w) o) false
  seen_at None all = refl
  seen_at (Some symbol) all = visible_agrees symbol all

  visible_member_agrees : (s : ℕ) → Agrees (environment tree v) (environment tree w) (names_in_member_prompts tree s) → is_visible_member tree v s ≡ is_visible_member tree w s
  visible_member_agrees s all = seen_at (slice_get tree.symbols s) all

  members_agree : (ms : List ℕ) → Agrees (environment tree v) (environment tree w) (flat_map (names_in_member_prompts tree) ms) → AllByRecursion (λ s. Agrees (environment tree v) (environment tree w) (names_in_member_prompts tree s)) ms
  members_agree [] all = tt
  members_agree (s ∷ ms) all = let p = parts _ (names_in_member_prompts tree s) (flat_map (names_in_member_prompts tree) ms) all in (p.0, members_agree ms p.1)

  member_agrees : (ms : List ℕ) → AllByRecursion (λ s. Agrees (environment tree v) (environment tree w) (names_in_member_prompts tree s)) ms → (s : ℕ) → list_any (λ m. m == s) ms ≡ true → Agrees (environment tree v) (environment tree w) (names_in_member_prompts tree s)
  member_agrees [] all s e = absurd (false≢true e)
  member_agrees (m ∷ ms) all s e = elim (or_cases (m == s) (list_any (λ n. n == s) ms) e) [
    | inl here ↦ subst (λ n. Agrees (environment tree v) (environment tree w) (names_in_member_prompts tree n)) (eqb-true m s here) all.0
    | inr later ↦ member_agrees ms all.1 s later
  ]

  choice_defaults_agree : (ds : List MemberDefault) → Agrees (environment tree v) (environment tree w) (flat_map (λ (d : MemberDefault). names_in d.condition ++ names_in_member_prompts tree d.member) ds)
      → AllByRecursion (λ (d : MemberDefault). ((not (is_n (condition tree v d.condition)) && is_visible_member tree v d.member) ≡ (not (is_n (condition tree w d.condition)) && is_visible_member tree w d.member)) × (◌≡◌ {A = Option ℕ} (Some d.member) (Some d.member))) ds
  choice_defaults_agree [] all = tt
  choice_defaults_agree (d ∷ ds) all =
      let p = parts _ (names_in d.condition ++ names_in_member_prompts tree d.member) (flat_map (λ (e : MemberDefault). names_in e.condition ++ names_in_member_prompts tree e.member) ds) all in
      let q = parts _ (names_in d.condition) (names_in_member_prompts tree d.member) p.0 in (
        (
          ap (λ t. not (is_n t) && is_visible_member tree v d.member) (value_agrees (environment tree v) (environment tree w) d.condition q.0)
              ∙ ap (λ b. not (is_n (condition tree w d.condition)) && b) (visible_member_agrees d.member q.1),
          refl,
        ),
        choice_defaults_agree ds p.1,
      )

  shown_agrees : (o : Option Expr) → Agrees (environment tree v) (environment tree w) (names_in_prompt o) → unwrap_or (option_map (λ e. not (is_n (condition tree v e))) o) false ≡ unwrap_or (option_map (λ e. not (is_n (condition tree w e))) o) false
  shown_agrees None all = refl
  shown_agrees (Some e) all = ap (λ t. not (is_n t)) (value_agrees (environment tree v) (environment tree w) e all)

  chosen_agrees : (choice : Choice) (x : Option UserValue) → IfSome x (λ y. IsTrue (choice_user_fits tree.language (Some choice) y)) → AllByRecursion (λ s. Agrees (environment tree v) (environment tree w) (names_in_member_prompts tree s)) choice.members
      → option_and_then (λ s. cond (is_visible_member tree v s) (Some s) None) (assigned_member x) ≡ option_and_then (λ s. cond (is_visible_member tree w s) (Some s) None) (assigned_member x)
  chosen_agrees choice None fits all = refl
  chosen_agrees choice (Some (TriUser t)) fits all = refl
  chosen_agrees choice (Some (TextUser t)) fits all = refl
  chosen_agrees choice (Some (LinesUser lines)) fits all = refl
  chosen_agrees choice (Some (MemberUser s)) fits all =
      ap (λ b. cond b (Some s) None) (visible_member_agrees s (member_agrees choice.members all s (and_parts (not (is_linux_6_12 tree.language)) (list_any (λ m. m == s) choice.members) fits).1))

  listed_agree : (ms : List ℕ) (lines : List MemberLine) → AllByRecursion (λ s. Agrees (environment tree v) (environment tree w) (names_in_member_prompts tree s)) ms
      → list_all (λ (l : MemberLine). list_any (λ m. m == l.member) ms) lines ≡ true → AllByRecursion (λ (l : MemberLine). is_visible_member tree v l.member ≡ is_visible_member tree w l.member) lines
  listed_agree ms [] all fits = tt
  listed_agree ms (l ∷ lines) all fits =
      let p = and_parts (list_any (λ m. m == l.member) ms) (list_all (λ (k : MemberLine). list_any (λ m. m == k.member) ms) lines) fits in
      (visible_member_agrees l.member (member_agrees ms all l.member p.0), listed_agree ms lines all p.1)

  lines_listed_agree : (choice : Choice) (x : Option UserValue) → IfSome x (λ y. IsTrue (choice_user_fits tree.language (Some choice) y))
      → AllByRecursion (λ s. Agrees (environment tree v) (environment tree w) (names_in_member_prompts tree s)) choice.members
      → AllByRecursion (λ (l : MemberLine). is_visible_member tree v l.member ≡ is_visible_member tree w l.member) (assigned_lines x)
  lines_listed_agree choice None fits all = tt
  lines_listed_agree choice (Some (TriUser t)) fits all = tt
  lines_listed_agree choice (Some (TextUser t)) fits all = tt
  lines_listed_agree choice (Some (MemberUser s)) fits all = tt
  lines_listed_agree choice (Some (LinesUser lines)) fits all =
      listed_agree choice.members lines all (and_parts (is_linux_6_12 tree.language) (list_all (λ (l : MemberLine). list_any (λ m. m == l.member) choice.members) lines) fits).1

  -- the names on which it depends whether a choice is shown, where that counts
  shown_names : (b : Bool) (names : List (List ℕ)) → Agrees (environment tree v) (environment tree w) (cond b [] names) → b ≡ false → Agrees (environment tree v) (environment tree w) names
  shown_names false names all e = all
  shown_names true names all e = absurd (true≢false e)

  choice_rule_agrees : (choice : Choice) (x : Option UserValue) → IfSome x (λ y. IsTrue (choice_user_fits tree.language (Some choice) y)) → AllByRecursion (λ d. slice_get v d ≡ slice_get w d) (needed_by_choice tree choice) → choice_rule tree choice x v ≡ choice_rule tree choice x w
  choice_rule_agrees choice x fits all =
      let P = names_in_shown tree choice in
      let D = flat_map (λ (d : MemberDefault). names_in d.condition ++ names_in_member_prompts tree d.member) choice.defaults in
      let Q = flat_map (names_in_member_prompts tree) choice.members in
      let e = names_agree (P ++ D ++ Q) all in
      let a1 = parts _ (P ++ D) Q e in
      let a2 = parts _ P D a1.0 in
      let ms = members_agree choice.members a1.1 in
      let six : Bool = is_linux_6_12 tree.language in
      let O : Option ℕ → Option ℕ → Option ℕ = λ by_default first. cond choice.optional None (option_or by_default first) in
      let U : List UnitValue → Option ℕ = λ values. option_and_then (λ s. cond (is_visible_member tree values s) (Some s) None) (assigned_member x) in
      let B : List UnitValue → Option ℕ = λ values. option_map (λ (d : MemberDefault). d.member) (find (λ (d : MemberDefault). not (is_n (condition tree values d.condition)) && is_visible_member tree values d.member) choice.defaults) in
      let M : List UnitValue → Option ℕ = λ values. find (is_visible_member tree values) choice.members in
      let users : U v ≡ U w = chosen_agrees choice x fits ms in
      let defaults : B v ≡ B w = find_agrees (λ (d : MemberDefault). not (is_n (condition tree v d.condition)) && is_visible_member tree v d.member) (λ (d : MemberDefault). not (is_n (condition tree w d.condition)) && is_visible_member tree w d.member)
      (λ o. option_map (λ (d : MemberDefault). d.member) o) (λ o. option_map (λ (d : MemberDefault). d.member) o) choice.defaults refl (choice_defaults_agree choice.defaults a2.1) in
      let firsts : M v ≡ M w = find_agrees (is_visible_member tree v) (is_visible_member tree w) (λ (o : Option ℕ). o) (λ o. o) choice.members refl (all_map _ _ (λ s p. (visible_member_agrees s p, refl)) choice.members ms) in
      let default : default_member tree choice v ≡ default_member tree choice w = ap (λ b. O b (M v)) defaults ∙ ap (O (B w)) firsts in
      let lines : List MemberLine = assigned_lines x in
      let by_lines : selected_by_lines (is_visible_member tree v) choice.members (default_member tree choice v) lines ≡ selected_by_lines (is_visible_member tree w) choice.members (default_member tree choice w) lines =
      ap (λ d. selected_by_lines (is_visible_member tree v) choice.members d lines) default
      ∙ lines_agree (is_visible_member tree v) (is_visible_member tree w) choice.members (default_member tree choice w) lines (all_map _ _ (λ s p. visible_member_agrees s p) choice.members ms) (lines_listed_agree choice x fits ms) in
      let shown : six ≡ false → shown_choice_rule tree choice x v ≡ shown_choice_rule tree choice x w = λ older.
      ap (λ b. cond b (option_or (U v) (default_member tree choice v)) None) (shown_agrees choice.prompt (shown_names six (names_in_prompt choice.prompt) a2.0 older))
      ∙ ap (λ u. cond (is_shown tree w choice) (option_or u (default_member tree choice v)) None) users ∙ ap (λ d. cond (is_shown tree w choice) (option_or (U w) d) None) default in
      by_either six (selected_by_lines (is_visible_member tree v) choice.members (default_member tree choice v) lines) (selected_by_lines (is_visible_member tree w) choice.members (default_member tree choice w) lines)
      (shown_choice_rule tree choice x v) (shown_choice_rule tree choice x w) by_lines shown

  unit_rule_agrees : (profile : Profile) (o : Option TreeUnit) (x : Option UserValue) → IfSome x (λ y. IsTrue (unit_user_fits tree o y)) → AllByRecursion (λ d. slice_get v d ≡ slice_get w d) (needed_by tree o) → rule_of_unit profile tree o x v ≡ rule_of_unit profile tree o x w
  unit_rule_agrees profile None x fits all = refl
  unit_rule_agrees profile (Some (of_symbol s)) x fits all = at_symbol (slice_get tree.symbols s) all where
    at_symbol : (o : Option Symbol) → AllByRecursion (λ d. slice_get v d ≡ slice_get w d) (needed_by_symbol_at tree o) → rule_of_symbol profile tree o x v ≡ rule_of_symbol profile tree o x w
    at_symbol None all = refl
    at_symbol (Some symbol) all = symbol_rule_agrees symbol.kind profile symbol (symbol_agrees symbol all) x
  unit_rule_agrees profile (Some (of_choice c)) x fits all = at_choice (slice_get tree.choices c) fits all where
    at_choice : (o : Option Choice) → IfSome x (λ y. IsTrue (choice_user_fits tree.language o y)) → AllByRecursion (λ d. slice_get v d ≡ slice_get w d) (needed_by_choice_at tree o) → rule_of_choice tree o x v ≡ rule_of_choice tree o x w
    at_choice None fits all = refl
    at_choice (Some choice) fits all = ap (λ m. MemberValue m) (choice_rule_agrees choice x fits all)

pub in_filter : (p : ℕ → Bool) (n a d : ℕ) → a ≤ d → d < a + n → p d ≡ true → Contains (filter p (range_with_len a n)) d
in_filter p zero a d low high passes = absurd (omega arith)
in_filter p (suc n) a d low high passes = elim (cases_eq d a) [
  | inl same ↦ subst (λ b. Contains (cond b (a ∷ filter p (range_with_len (a + 1) n)) (filter p (range_with_len (a + 1) n))) d) (sym (ap p (sym same) ∙ passes)) (0, omega arith, sym same)
  | inr other ↦ onto (p a) (in_filter p n (a + 1) d (omega arith) (omega arith) passes)
] where
  onto : (b : Bool) → Contains (filter p (range_with_len (a + 1) n)) d → Contains (cond b (a ∷ filter p (range_with_len (a + 1) n)) (filter p (range_with_len (a + 1) n))) d
  onto true has = (suc has.0, omega (arith, has.1), has.2)
  onto false has = has

pub each_of : (P : ℕ → Type 0) (xs : List ℕ) → ((d : ℕ) → list_any (λ e. e == d) xs ≡ true → P d) → AllByRecursion P xs
each_of P [] h = tt
each_of P (x ∷ xs) h = (h x (or_left (x == x) (list_any (λ e. e == x) xs) (eq-eqb x x refl)), each_of P xs (λ d t. h d (or_right (x == d) (list_any (λ e. e == d) xs) t)))

-- in every tree and both profiles, values that agree on the dependencies of a unit give it the same value (the frame law)
pub rules_frame : (profile : Profile) (tree : Tree) → KeepsFrame (length tree.units) (dependencies tree) (rule profile tree) (λ u x. IsTrue (user_fits tree u x))
unfolding dependencies rule user_fits
rules_frame profile tree = record {
  same = λ u x v w inside v_len w_len fits agree.
      unit_rule_agrees tree v w profile (slice_get tree.units u) x fits
      (each_of (λ d. slice_get v d ≡ slice_get w d) (needed_by tree (slice_get tree.units u)) (λ d t. elim (cases_lt d (length tree.units)) [
        | inl below ↦ agree d (in_filter (λ e. list_any (λ n. n == e) (needed_by tree (slice_get tree.units u))) (length tree.units) 0 d (omega arith) (omega arith) t)
        | inr past ↦ slice_get_past v d (omega (arith, v_len)) ∙ sym (slice_get_past w d (omega (arith, w_len)))
      ]));
}
