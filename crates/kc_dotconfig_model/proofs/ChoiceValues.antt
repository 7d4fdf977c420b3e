-- The values that files give choices by the rules before Linux 6.10, beside the files' lines of members.
use Rattle.std.proofs.Common.{eq-eqb, eqb-true, map}
use Rattle.kc_dotconfig_model.proofs.Common.{◌≡◌, ◌≢◌, ◌⊎◌, inl, inr, ℕ, ◌+◌, ◌<◌, Bool, true, false, not, ◌&&◌, ◌==◌, cond, List, [], ◌∷◌, ◌++◌, Option, Some, None, length, refl, sym, ◌∙◌, ap, subst, arith, is_some, slice_get, slice_set, AllZip, AllByRecursion, list_all, option_or, option_and_then}
use Rattle.kc_dotconfig_model.proofs.Common.{cases_eq, false≢true, get_or-set_same, get_or-set_other, filter-append, slice_get_within, Language, Linux, V6_12, is_linux_6_12, Tree, Choice, IsConsistent, user_of, MemberLine, UnitValue, UserValue, last_y, is_shown, is_visible_member, default_member}
use Rattle.kc_dotconfig_model.proofs.Common.{unit_user_fits, choice_user_fits, is_member, ChoiceLine, FileFormat, LineMeaning, assigns, assigns_escaped, unchosen, notice, silent, FileMeans, has_utf8_lines, file_lines, assigned, assigned_over, file_assignment, merged_users, empty_assignment, merged_user}
use Rattle.kc_dotconfig_model.proofs.Common.{given_by, other_member, own_member, IsGivenN, IsHiddenLast}
use Rattle.std.specs.Option.{option_map}
use Rattle.std.proofs.lemmas.Bool.{ne_eqb}
use Rattle.std.proofs.lemmas.List.{map-append}
use Rattle.kc_tree_model.specs.declared.ids.Unit.TheVariants.{Choice as of_choice}
use Rattle.kc_rules_model.specs.declared.profile.Profile.{Profile}
use Rattle.kc_rules_model.specs.declared.values.UnitValue.TheVariants.{Member as MemberValue}
use Rattle.kc_rules_model.specs.declared.values.UserValue.TheVariants.{Tri as TriUser, Text as TextUser, Member as MemberUser, Lines as LinesUser}
use Rattle.kc_rules_model.specs.Equality.{same_value}
use Rattle.kc_rules_model.specs.MemberLines.{selected_by_lines}
use Rattle.kc_rules_model.specs.Rule.{rule, rule_of_unit, rule_of_choice, shown_choice_rule, assigned_lines}
use Rattle.kc_rules_model.specs.Shapes.{user_fits}
use Rattle.kc_rules_model.specs.SymbolValues.{member_of}
use Rattle.kc_dotconfig_model.specs.ConfigFiles.{merged_files, files_assignment}
use Rattle.kc_dotconfig_model.specs.OtherChoices.{has_no_version, choice_line_of, choice_lines_from, placed_from, lines_of, noticed_line, other_line, other_line_of_unit}
use Rattle.kc_dotconfig_model.specs.OtherChoiceLaws.{member_since, lines_in_files, IsUnitOfChoice, IsOtherSince, ChoicesFollowLines, NoticesAreWhereValuesDiffer, DifferingValuesHaveReasons}
use Rattle.kc_dotconfig_model.proofs.FittingFiles.{SayingFits, lines_lack, sayings_fit, none_held, none_length}
use Rattle.kc_dotconfig_model.proofs.MergedUsers.{assigned_length, file_length, file_over}
use Rattle.kc_dotconfig_model.proofs.OtherLines.{have_reasons, have_lines}

-- the user value that lines of members give the choice whose unit is `u`: the member last assigned `y`
abbrev last_of : ℕ → List (ℕ × ChoiceLine) → Option UserValue
last_of u lines = option_map (λ s. MemberUser s) (last_y (λ m. true) (given_by (lines_of u lines)))

or_none : {A : Type 0} (o : Option A) → option_or o None ≡ o
or_none None = refl
or_none (Some x) = refl

or_assoc : {A : Type 0} (a b c : Option A) → option_or a (option_or b c) ≡ option_or (option_or a b) c
or_assoc None b c = refl
or_assoc (Some x) b c = refl

map_or : {A B : Type 0} (f : A → B) (a b : Option A) → option_map f (option_or a b) ≡ option_or (option_map f a) (option_map f b)
map_or f None b = refl
map_or f (Some x) b = refl

-- the last `y` of lines one after another is that of the later ones, if they have one
last_y_append : (p : ℕ → Bool) (a b : List MemberLine) → last_y p (a ++ b) ≡ option_or (last_y p b) (last_y p a)
last_y_append p [] b = sym (or_none (last_y p b))
last_y_append p (l ∷ a) b =
    ap (λ o. option_or o (cond (l.is_y && p l.member) (Some l.member) None)) (last_y_append p a b)
    ∙ sym (or_assoc (last_y p b) (last_y p a) (cond (l.is_y && p l.member) (Some l.member) None))

last_append : (u : ℕ) (a b : List (ℕ × ChoiceLine)) → last_of u (a ++ b) ≡ option_or (last_of u b) (last_of u a)
last_append u a b =
    ap (λ lines. option_map (λ s. MemberUser s) (last_y (λ m. true) (given_by lines))) (filter-append (λ (l : ℕ × ChoiceLine). l.1.unit == u) a b)
    ∙ ap (λ lines. option_map (λ s. MemberUser s) (last_y (λ m. true) lines)) (map-append (λ (l : ℕ × ChoiceLine). l.1.given) (lines_of u a) (lines_of u b))
    ∙ ap (option_map (λ s. MemberUser s)) (last_y_append (λ m. true) (given_by (lines_of u a)) (given_by (lines_of u b)))
    ∙ map_or (λ s. MemberUser s) (last_y (λ m. true) (given_by (lines_of u b))) (last_y (λ m. true) (given_by (lines_of u a)))

-- what one line of a member gives the choice whose unit is `u`
last_one : (u : ℕ) (l : ℕ × ChoiceLine) → last_of u (l ∷ []) ≡ cond (l.1.unit == u) (cond l.1.given.is_y (Some (MemberUser l.1.given.member)) None) None
last_one u l = go (l.1.unit == u) l.1.given.is_y where
  go : (a b : Bool) → option_map (λ s. MemberUser s) (last_y (λ m. true) (given_by (cond a (l ∷ []) []))) ≡ cond a (cond l.1.given.is_y (Some (MemberUser l.1.given.member)) None) None
  go false b = refl
  go true b = given l.1.given.is_y where
    given : (y : Bool) → option_map (λ s. MemberUser s) (cond (y && true) (Some l.1.given.member) None) ≡ cond y (Some (MemberUser l.1.given.member)) None
    given true = refl
    given false = refl

-- lines of a file, with its number
abbrev placed : ℕ → List ChoiceLine → List (ℕ × ChoiceLine)
placed f lines = map (λ (l : ChoiceLine). (f, l)) lines

placed_append : (f : ℕ) (a b : List ChoiceLine) → placed f (a ++ b) ≡ placed f a ++ placed f b
placed_append f [] b = refl
placed_append f (l ∷ a) b = let own : ℕ × ChoiceLine = (f, l) in ap (λ rest. own ∷ rest) (placed_append f a b)

module _ (tree : Tree) (before : is_linux_6_12 tree.language ≡ false) (u c : ℕ) (unit : slice_get tree.units u ≡ Some (of_choice c)) where
  -- the user value of a choice after a line of a file
  no_tri : (x : UserValue) → (choice_user_fits tree.language (slice_get tree.choices c) x ≡ false) → user_fits tree u x ≡ true → ⊥
  unfolding user_fits
  no_tri x not_fits fits = false≢true (sym not_fits ∙ ap (λ o. unit_user_fits tree o x) (sym unit) ∙ fits)

  set_here : (users : List (Option UserValue)) (w s : ℕ) → u < length users
      → user_of (slice_set users w (Some (MemberUser s))) u ≡ option_or (cond (w == u) (Some (MemberUser s)) None) (user_of users u)
  set_here users w s inside = elim (cases_eq w u) [
    | inl same ↦
        ap (λ k. user_of (slice_set users k (Some (MemberUser s))) u) same ∙ get_or-set_same users u (Some (MemberUser s)) None inside
        ∙ ap (λ b. option_or (cond b (Some (MemberUser s)) None) (user_of users u)) (sym (eq-eqb w u same))
    | inr other ↦
        get_or-set_other users w u (Some (MemberUser s)) None (λ e. other (sym e))
        ∙ ap (λ b. option_or (cond b (Some (MemberUser s)) None) (user_of users u)) (sym (ne_eqb w u other))
  ]

  set_there : (users : List (Option UserValue)) (w : ℕ) (x : UserValue) → (user_fits tree u x ≡ true → ⊥) → user_fits tree w x ≡ true → (o : Option UserValue)
      → user_of (slice_set users w o) u ≡ user_of users u
  set_there users w x never fits o = elim (cases_eq w u) [
    | inl same ↦ absurd (never (ap (λ k. user_fits tree k x) (sym same) ∙ fits))
    | inr other ↦ get_or-set_other users w u o None (λ e. other (sym e))
  ]

  one_line : (f n : ℕ) (meaning : LineMeaning) (users : List (Option UserValue)) → SayingFits tree meaning → u < length users
      → user_of (assigned meaning users) u ≡ option_or (last_of u (placed f (choice_line_of n meaning))) (user_of users u)
  one_line f n (assigns w (MemberUser s)) users fits inside =
      set_here users w s inside
      ∙ ap (λ o. option_or o (user_of users u)) (sym (last_one u (f, record { unit = w; given = record { member = s; is_y = true }; line = n })))
  one_line f n (assigns w (TriUser t)) users fits inside =
      set_there users w (TriUser t) (no_tri (TriUser t) refl) fits (Some (merged_user (TriUser t) (user_of users w)))
  one_line f n (assigns w (TextUser text)) users fits inside =
      set_there users w (TextUser text) (no_tri (TextUser text) refl) fits (Some (merged_user (TextUser text) (user_of users w)))
  one_line f n (assigns w (LinesUser lines)) users fits inside =
      set_there users w (LinesUser lines) (no_tri (LinesUser lines) (not_lines lines)) fits (Some (merged_user (LinesUser lines) (user_of users w))) where
        not_lines : (lines : List MemberLine) → choice_user_fits tree.language (slice_get tree.choices c) (LinesUser lines) ≡ false
        not_lines lines = ap (λ b. b && list_all (λ (l : MemberLine). is_member (slice_get tree.choices c) l.member) lines) before
  one_line f n (assigns_escaped w text) users fits inside =
      set_there users w (TextUser text) (no_tri (TextUser text) refl) fits (Some (TextUser text))
  one_line f n (unchosen w s) users fits inside =
      go (w == u) ∙ ap (λ o. option_or o (user_of users u)) (sym (last_one u (f, record { unit = w; given = record { member = s; is_y = false }; line = n }))) where
        go : (b : Bool) → user_of users u ≡ option_or (cond b None None) (user_of users u)
        go true = refl
        go false = refl
  one_line f n (notice kind) users fits inside = refl
  one_line f n silent users fits inside = refl

  -- the user value of a choice after the lines of a file
  one_file : (f n : ℕ) (meanings : List LineMeaning) (users : List (Option UserValue)) → AllByRecursion (SayingFits tree) meanings → u < length users
      → user_of (assigned_over meanings users) u
      ≡ option_or (last_of u (placed f (choice_lines_from n meanings))) (user_of users u)
  one_file f n [] users fits inside = refl
  one_file f n (meaning ∷ meanings) users fits inside =
      let first = choice_line_of n meaning in
      let rest = choice_lines_from (n + 1) meanings in
      let later = last_of u (placed f rest) in
      let earlier = last_of u (placed f first) in
      one_file f (n + 1) meanings (assigned meaning users) fits.1 (let same = assigned_length meaning users in omega arith)
      ∙ ap (option_or later) (one_line f n meaning users fits.0 inside)
      ∙ or_assoc later earlier (user_of users u)
      ∙ ap (λ o. option_or o (user_of users u))
      (sym (last_append u (placed f first) (placed f rest))
      ∙ ap (last_of u) (sym (placed_append f first rest)))

  -- and after several files
  many_files : (f : ℕ) (files : List (List LineMeaning)) (users : List (Option UserValue)) → AllByRecursion (AllByRecursion (SayingFits tree)) files
      → length users ≡ length tree.units
      → user_of (merged_files tree users files) u ≡ option_or (last_of u (placed_from f (map (choice_lines_from 1) files))) (user_of users u)
  many_files f [] users fits count = refl
  many_files f (meanings ∷ files) users fits count =
      let inside : u < length users = (let within = slice_get_within tree.units u (of_choice c) unit in omega arith) in
      let first : List (ℕ × ChoiceLine) = placed f (choice_lines_from 1 meanings) in
      let rest = placed_from (f + 1) (map (choice_lines_from 1) files) in
      let laid : merged_users (file_assignment tree meanings) users ≡ assigned_over meanings users = sym (file_over tree meanings users count) in
      many_files (f + 1) files (merged_users (file_assignment tree meanings) users) fits.1 (ap length laid ∙ file_length meanings users ∙ count)
      ∙ ap (λ own. option_or (last_of u rest) (user_of own u)) laid
      ∙ ap (option_or (last_of u rest)) (one_file f 1 meanings users fits.0 inside)
      ∙ or_assoc (last_of u rest) (last_of u first) (user_of users u)
      ∙ ap (λ o. option_or o (user_of users u)) (sym (last_append u first rest))

  -- the user value of a choice by files alone
  pub user_by_files : (files : List (List LineMeaning)) → AllByRecursion (AllByRecursion (SayingFits tree)) files
      → user_of (files_assignment tree files) u ≡ last_of u (lines_in_files files)
  user_by_files files fits =
      many_files 0 files (empty_assignment tree) fits (none_length (length tree.units))
      ∙ ap (option_or (last_of u (lines_in_files files))) (none_held (length tree.units) u)
      ∙ or_none (last_of u (lines_in_files files))

-- what files of UTF-8 assign fits
all_fit : (format : FileFormat) (tree : Tree) → IsConsistent tree → (texts : List (List ℕ)) (files : List (List LineMeaning))
    → AllZip (λ bytes meanings. (has_utf8_lines bytes ≡ true) × FileMeans format tree bytes meanings) texts files
    → AllByRecursion (AllByRecursion (SayingFits tree)) files
all_fit format tree sound [] [] all = tt
all_fit format tree sound (bytes ∷ texts) (meanings ∷ files) all = (
  sayings_fit format tree sound (file_lines bytes) meanings (lines_lack format tree sound bytes) all.0.0 all.0.1,
  all_fit format tree sound texts files all.1,
)
all_fit format tree sound _ _ all = absurd all

module _ (profile : Profile) (tree : Tree) (values : List UnitValue) (u : ℕ) (choice : Choice) (own : IsUnitOfChoice tree u choice) where
  choice_value : (user : Option UserValue) → is_linux_6_12 tree.language ≡ false → rule profile tree u user values ≡ MemberValue (shown_choice_rule tree choice user values)
  unfolding rule
  choice_value user before =
      ap (λ unit. rule_of_unit profile tree unit user values) own.unit
      ∙ ap (λ o. rule_of_choice tree o user values) own.is
      ∙ ap (λ b. MemberValue (cond b (selected_by_lines (is_visible_member tree values) choice.members (default_member tree choice values) (assigned_lines user)) (shown_choice_rule tree choice user values))) before

pub follow_lines : ChoicesFollowLines
follow_lines format profile tree files values u choice sound before gives own =
    let within = slice_get_within tree.units u (of_choice own.number) own.unit in
    let user = user_by_files tree before u own.number own.unit files (all_fit format tree sound gives.texts files gives.mean) in
    gives.solves.holds u within
    ∙ ap (λ x. Some (rule profile tree u x values)) user
    ∙ ap (λ x. Some x) (choice_value profile tree values u choice own (last_of u (lines_in_files files)) before)

-- a tree whose language doesn't say its version hasn't the rules of Linux 6.12
not_since : (language : Language) → has_no_version language ≡ true → is_linux_6_12 language ≡ false
not_since (Linux V6_12) e = absurd (false≢true e)
not_since _ e = refl

-- two members are equal as values exactly if they are the same
same_member : (a b : Option ℕ) → same_value (MemberValue a) (MemberValue b) ≡ true → a ≡ b
same_member None None e = refl
same_member (Some a) (Some b) e = ap (λ s. Some s) (eqb-true a b e)
same_member _ _ e = absurd (false≢true e)

member_same : (a b : Option ℕ) → a ≡ b → same_value (MemberValue a) (MemberValue b) ≡ true
member_same a b e = ap (λ m. same_value (MemberValue a) (MemberValue m)) (sym e) ∙ itself a where
  itself : (a : Option ℕ) → same_value (MemberValue a) (MemberValue a) ≡ true
  itself None = refl
  itself (Some s) = eq-eqb s s refl

-- the rules of Linux 6.12 give a choice the member that its lines select
since_is_other : (tree : Tree) (values : List UnitValue) (choice : Choice) (lines : List (ℕ × ChoiceLine)) → member_since tree values choice lines ≡ other_member tree values choice lines
since_is_other tree values choice lines = refl

module _ (tree : Tree) (values : List UnitValue) (u : ℕ) (choice : Choice) (own : IsUnitOfChoice tree u choice) (all : List (ℕ × ChoiceLine))
    (is : slice_get values u ≡ Some (MemberValue (own_member tree values choice (lines_of u all)))) where
  abbrev mine : Option ℕ
  mine = own_member tree values choice (lines_of u all)

  abbrev other : Option ℕ
  other = other_member tree values choice (lines_of u all)

  abbrev noticed : Option (ℕ × ChoiceLine)
  noticed = noticed_line mine other (lines_of u all)

  apart : IsOtherSince tree values u choice all → mine ≢ other
  apart differs same = differs (is ∙ ap (λ m. Some (MemberValue m)) (same ∙ sym (since_is_other tree values choice (lines_of u all))))

  line_is : other_line_of_unit tree values u (slice_get tree.units u) all
      ≡ cond (is_shown tree values choice && not (same_value (MemberValue mine) (MemberValue other))) noticed None
  line_is =
      ap (λ unit. other_line_of_unit tree values u unit all) own.unit
      ∙ ap (λ o. option_and_then (λ (it : Choice). other_line tree values it (slice_get values u) (lines_of u all)) o) own.is
      ∙ ap (λ v. other_line tree values choice v (lines_of u all)) is

  shown_and_differs : is_some (other_line_of_unit tree values u (slice_get tree.units u) all) ≡ true
      → (is_shown tree values choice ≡ true) × IsOtherSince tree values u choice all
  shown_and_differs some =
      go (is_shown tree values choice) refl (same_value (MemberValue mine) (MemberValue other)) refl (ap (λ o. is_some o) (sym line_is) ∙ some) where
        go : (s : Bool) → is_shown tree values choice ≡ s → (e : Bool) → same_value (MemberValue mine) (MemberValue other) ≡ e
            → is_some (cond (s && not e) noticed None) ≡ true → (is_shown tree values choice ≡ true) × IsOtherSince tree values u choice all
        go false shown e same found = absurd (false≢true found)
        go true shown true same found = absurd (false≢true found)
        go true shown false same found = (
          shown,
          λ equal. let equal_members : mine ≡ other = ap (λ v. member_of v) (sym is ∙ equal) ∙ since_is_other tree values choice (lines_of u all) in
              false≢true (sym same ∙ member_same mine other equal_members),
        )

  differ_as_values : IsOtherSince tree values u choice all → same_value (MemberValue mine) (MemberValue other) ≡ false
  differ_as_values differs = go (same_value (MemberValue mine) (MemberValue other)) refl where
    go : (e : Bool) → same_value (MemberValue mine) (MemberValue other) ≡ e → e ≡ false
    go false same = refl
    go true same = absurd (apart differs (same_member mine other same))

  has_line : (is_shown tree values choice ≡ true) × IsOtherSince tree values u choice all
      → is_some (other_line_of_unit tree values u (slice_get tree.units u) all) ≡ true
  has_line found =
      ap (λ o. is_some o) line_is
      ∙ ap (λ b. is_some (cond (b && not (same_value (MemberValue mine) (MemberValue other))) noticed None)) found.0
      ∙ ap (λ b. is_some (cond (not b) noticed None)) (differ_as_values found.1)
      ∙ have_lines tree values choice (lines_of u all) found.0 (apart found.1)

  reasons_of_value : is_shown tree values choice ≡ true → IsOtherSince tree values u choice all
      → IsGivenN (member_of (slice_get values u)) (given_by (lines_of u all)) ⊎ IsHiddenLast tree values (given_by (lines_of u all))
  reasons_of_value shown differs =
      subst (λ m. IsGivenN m (given_by (lines_of u all)) ⊎ IsHiddenLast tree values (given_by (lines_of u all))) (sym (ap (λ v. member_of v) is))
      (have_reasons tree values choice (lines_of u all) shown (apart differs))

pub notices_where_differing : NoticesAreWhereValuesDiffer
notices_where_differing format profile tree files values u choice sound version gives own =
    let is = follow_lines format profile tree files values u choice sound (not_since tree.language version) gives own in
    (shown_and_differs tree values u choice own (lines_in_files files) is, has_line tree values u choice own (lines_in_files files) is)

pub differing_reasons : DifferingValuesHaveReasons
differing_reasons format profile tree files values u choice sound version gives own shown differs =
    let is = follow_lines format profile tree files values u choice sound (not_since tree.language version) gives own in
    reasons_of_value tree values u choice own (lines_in_files files) is shown differs
