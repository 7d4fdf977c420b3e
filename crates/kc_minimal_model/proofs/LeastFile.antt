-- The lines of a minimal file assign the least assignment of its values.
use Rattle.kc_minimal_model.proofs.Common.{◌≡◌, inl, inr, ℕ, zero, suc, ◌+◌, ◌<◌, ◌≤◌, Bool, true, false, not, ◌||◌, ◌==◌, cond, IsTrue, List, [], ◌∷◌, ◌++◌, Option, Some, None, length, get_or, map, filter, refl, sym, ◌∙◌, ap, subst, append_assoc, arith, slice_get, slice_set, option_map}
use Rattle.kc_minimal_model.proofs.Common.{option_and_then, AllZip, list_any, list_all, flat_map, range_with_len, cases_Bool, cases_eq, false≢true, and_from, and_parts, or_left, or_right, eqb-true, eqb-false, eq-eqb, get_or-set_same, get_or-set_other, slice_get-get_or, or_right, or-false, or_assoc}
use Rattle.kc_minimal_model.proofs.Common.{N, Y, Tree, Symbol, IsConsistent, unit_of, index_of_unit, user_of, Solves, FitsUsers, Profile, UnitValue, UserValue, is_n, value_in_unit, tri_if_selected, member_of, as_user, unit_user_fits, choice_user_fits, is_member, symbol_numbers, FileFormat}
use Rattle.kc_minimal_model.proofs.Common.{is_name_prefix, LineMeaning, Means, without_white_end, FileMeans, file_lines, merged_user, assigned_over, file_assignment, empty_assignment, ended_line, is_kept, has_line, may_have_line, is_line_of_its_unit, minimal_symbols, minimal_file, first_of_lines, inside}
use Rattle.kc_minimal_model.proofs.Common.{place_is, unit_is, over_none, none_held, none_length, file_length}
use Rattle.kc_tree_model.specs.declared.ids.Unit.{Unit as TreeUnit}
use Rattle.kc_tree_model.specs.declared.ids.Unit.TheVariants.{Symbol as of_symbol, Choice as of_choice}
use Rattle.kc_solver.specs.LeastAssignments.{IsLeastAssignment}
use Rattle.kc_rules_model.specs.Rule.{rule}
use Rattle.kc_rules_model.specs.Shapes.{user_fits}
use Rattle.kc_dotconfig_model.specs.ConfigFiles.{assigned}
use Rattle.kc_minimal_model.specs.SymbolLine.{symbol_line}
use Rattle.kc_minimal_model.proofs.KeptUnits.{KeptUnit, kept_unit, kept_passes, others_fail}
use Rattle.kc_minimal_model.proofs.KeptLines.{line_reads, meant, user_meant, meaning_of_user}
use Rattle.kc_minimal_model.proofs.MemberUsers.{chosen_member, meant_gives}
use Rattle.kc_dotconfig_model.proofs.MergedUsers.{assigned_length}

-- each line of the minimal file has a meaning, and what the lines assign is the least assignment of the values
pub record IsReadAsLeast (format : FileFormat) (profile : Profile) (tree : Tree) (values : List UnitValue) : Type 0 where
  pub meanings : List LineMeaning
  pub has_meaning : FileMeans format tree (minimal_file format profile tree values) meanings
  pub least : IsLeastAssignment (length tree.units) (rule profile tree) (as_user tree.language) values (file_assignment tree meanings)

-- all numbers that are left of a list by a filter pass the test of the filter
pub passes_filter : (p : ℕ → Bool) (xs : List ℕ) → list_all p (filter p xs) ≡ true
passes_filter p [] = refl
passes_filter p (x ∷ xs) = go (p x) refl (passes_filter p xs) where
  go : (t : Bool) → p x ≡ t → list_all p (filter p xs) ≡ true → list_all p (cond t (x ∷ filter p xs) (filter p xs)) ≡ true
  go true e rest = and_from (p x) (list_all p (filter p xs)) e rest
  go false e rest = rest

pub none_of_filter : (p q : ℕ → Bool) (xs : List ℕ) → ((x : ℕ) → q x ≡ true → p x ≡ false) → list_any p (filter q xs) ≡ false
none_of_filter p q [] fails = refl
none_of_filter p q (x ∷ xs) fails = go (q x) refl (none_of_filter p q xs fails) where
  go : (t : Bool) → q x ≡ t → list_any p (filter q xs) ≡ false → list_any p (cond t (x ∷ filter q xs) (filter q xs)) ≡ false
  go true e rest = ap (λ b. b || list_any p (filter q xs)) (fails x e) ∙ rest
  go false e rest = rest

one_of_filter : (p q : ℕ → Bool) (n a s : ℕ) → a ≤ s → s < a + n → q s ≡ true → p s ≡ true → list_any p (filter q (range_with_len a n)) ≡ true
one_of_filter p q zero a s low high kept passes = absurd (omega arith)
one_of_filter p q (suc n) a s low high kept passes = elim (cases_eq s a) [
  | inl same ↦
      subst (λ t. list_any p (cond t (a ∷ filter q (range_with_len (a + 1) n)) (filter q (range_with_len (a + 1) n))) ≡ true) (sym (ap q (sym same) ∙ kept))
      (or_left (p a) (list_any p (filter q (range_with_len (a + 1) n))) (ap p (sym same) ∙ passes))
  | inr other ↦ onto (q a) (one_of_filter p q n (a + 1) s (omega arith) (omega arith) kept passes)
] where
  onto : (t : Bool) → list_any p (filter q (range_with_len (a + 1) n)) ≡ true
      → list_any p (cond t (a ∷ filter q (range_with_len (a + 1) n)) (filter q (range_with_len (a + 1) n))) ≡ true
  onto true has = or_right (p a) (list_any p (filter q (range_with_len (a + 1) n))) has
  onto false has = has

either_none : {X : Type 0} (t : Bool) (o : Option X) → o ≡ None → cond t o None ≡ None
either_none true o e = e
either_none false o e = refl

-- after one line, a unit has its user value where the line or one before it is of the unit
after_line : (X : Option UserValue) → ((x : UserValue) → X ≡ Some x → merged_user x (Some x) ≡ x) → (w u : ℕ) (o : Option UserValue) (users : List (Option UserValue))
    (before : Bool) → (w ≡ u → o ≡ X) → u < length users
    → user_of users u ≡ cond before X None
    → user_of (assigned (meaning_of_user w o) users) u ≡ cond (before || (w == u)) X None
after_line X again w u None users before same h e = elim (cases_Bool (w == u)) [
  | inl here ↦ e ∙ either_none before X (sym (same (eqb-true w u here))) ∙ sym (either_none (before || (w == u)) X (sym (same (eqb-true w u here))))
  | inr other ↦ e ∙ sym (ap (λ b. cond (before || b) X None) other ∙ ap (λ b. cond b X None) (or-false before))
]
after_line X again w u (Some x) users before same h e = elim (cases_Bool (w == u)) [
  | inl here ↦
      let equal : w ≡ u = eqb-true w u here in
      let z = merged_user x (user_of users w) in
      let own : z ≡ x = ap (λ k. merged_user x (user_of users k)) equal ∙ ap (merged_user x) (e ∙ ap (λ y. cond before y None) (sym (same equal)))
      ∙ stays before x (again x (sym (same equal))) in
      subst (λ k. get_or (slice_set users k (Some z)) u None ≡ Some z) (sym equal) (get_or-set_same users u (Some z) None h)
      ∙ ap Some own ∙ same equal ∙ sym (ap (λ b. cond (before || b) X None) here ∙ ap (λ b. cond b X None) (or_right before true refl))
  | inr other ↦
      get_or-set_other users w u (Some (merged_user x (user_of users w))) None (λ equal. eqb-false w u other (sym equal)) ∙ e
      ∙ sym (ap (λ b. cond (before || b) X None) other ∙ ap (λ b. cond b X None) (or-false before))
] where
  stays : (b : Bool) (y : UserValue) → merged_user y (Some y) ≡ y → merged_user y (cond b (Some y) None) ≡ y
  stays true y again = again
  stays false y again = over_none y

module _ (tree : Tree) (values : List UnitValue) where
  pub after_lines : (u : ℕ) (xs : List ℕ) (users : List (Option UserValue)) (before : Bool) → u < length users
      → user_of users u ≡ cond before (user_meant tree.language values u) None
      → user_of (assigned_over (map (λ s. meant tree.language values (unit_of tree s)) xs) users) u ≡ cond (before || list_any (λ s. unit_of tree s == u) xs)
      (user_meant tree.language values u) None
  after_lines u [] users before h e = e ∙ sym (ap (λ b. cond b (user_meant tree.language values u) None) (or-false before))
  after_lines u (s ∷ xs) users before h e =
      let w = unit_of tree s in
      let now = after_line (user_meant tree.language values u) (λ x is. (meant_gives tree.language (slice_get values u) x is).1) w u (user_meant tree.language values w) users before (λ same. ap (user_meant tree.language values) same) h e in
      let len = assigned_length (meant tree.language values w) users in
      after_lines u xs (assigned (meant tree.language values w) users) (before || (w == u)) (omega (arith, len)) now
      ∙ ap (λ b. cond b (user_meant tree.language values u) None) (or_assoc before (w == u) (list_any (λ t. unit_of tree t == u) xs))

module _ (format : FileFormat) (valid : is_name_prefix format.prefix ≡ true) (profile : Profile) (tree : Tree) (sound : IsConsistent tree)
    (users : List (Option UserValue)) (values : List UnitValue)
    (fitting : FitsUsers (length tree.units) (λ u x. IsTrue (user_fits tree u x)) users)
    (solved : Solves (length tree.units) (rule profile tree) users values) where
  -- in a text of the lines of some symbols of the minimal file, each line assigns its symbol's unit its own value
  pub lines_mean : (xs : List ℕ) → list_all (has_line profile tree values) xs ≡ true
      → AllZip (λ line meaning. Means format tree (without_white_end line) meaning) (file_lines (flat_map (ended_line format tree values) xs))
      (map (λ s. meant tree.language values (unit_of tree s)) xs)
  lines_mean [] all = tt
  lines_mean (s ∷ xs) all =
      let rest = flat_map (ended_line format tree values) xs in
      let parts = and_parts (has_line profile tree values s) (list_all (has_line profile tree values) xs) all in
      let line = line_reads format valid profile tree sound users values fitting solved s parts.0 in
      let cut : file_lines (ended_line format tree values s ++ rest) ≡ symbol_line format tree values s ∷ file_lines rest =
      ap file_lines (append_assoc (symbol_line format tree values s) (10 ∷ []) rest) ∙ first_of_lines (symbol_line format tree values s) rest line.one in
      subst (λ lines. AllZip (λ l meaning. Means format tree (without_white_end l) meaning) lines
      (meant tree.language values (unit_of tree s) ∷ map (λ t. meant tree.language values (unit_of tree t)) xs)) (sym cut)
      (subst (λ l. Means format tree l (meant tree.language values (unit_of tree s))) (sym line.whole) line.has_meaning, lines_mean xs parts.1)

  -- a unit that is kept has a line in the minimal file: that of one of its symbols
  pub speaks_at : (u : ℕ) → is_kept profile tree values u ≡ true → KeptUnit tree values u → (unit : TreeUnit) → slice_get tree.units u ≡ Some unit
      → list_any (λ s. unit_of tree s == u) (minimal_symbols profile tree values) ≡ true
  unfolding user_fits
  speaks_at u kept k (of_symbol s) at =
      let found = sound.symbol_units u s at in
      let number : unit_of tree s ≡ u = unit_is tree sound s u found.0 None found.1 found.2 at in
      let may : may_have_line (slice_get tree.symbols s) (option_map (λ (symbol : Symbol). value_in_unit tree values s symbol symbol.choice)
      (slice_get tree.symbols s)) ≡ true =
      ap (λ o. may_have_line o (option_map (λ (symbol : Symbol). value_in_unit tree values s symbol symbol.choice) o)) found.1
      ∙ ap (λ c. is_line_of_its_unit c (value_in_unit tree values s found.0 found.0.choice)) found.2 in
      let below : s < length tree.symbols = inside tree.symbols s found.0 found.1 in
      one_of_filter (λ t. unit_of tree t == u) (has_line profile tree values) (length tree.symbols) 0 s (omega arith) (omega arith)
      (and_from (is_kept profile tree values (unit_of tree s)) _ (ap (is_kept profile tree values) number ∙ kept) may) (eq-eqb (unit_of tree s) u number)
  speaks_at u kept k (of_choice c) at = by_member k.again k.assigned (sym (ap (λ o. unit_user_fits tree o k.again) at) ∙ k.fits) where
    by_member : (again : UserValue) → as_user tree.language k.held ≡ Some again → choice_user_fits tree.language (slice_get tree.choices c) again ≡ true
        → list_any (λ s. unit_of tree s == u) (minimal_symbols profile tree values) ≡ true
    by_member again gives fits =
        let is = chosen_member tree.language (slice_get tree.choices c) k.held again gives fits in
        let m = is.0 in
        let choice = sound.choice_units u c at in
        let found = sound.members c m choice.0 choice.1 (sym (ap (λ o. is_member o m) choice.1) ∙ is.3) in
        let number : unit_of tree m ≡ u = unit_is tree sound m u found.0 (Some c) found.1 found.2 at in
        let tri : tri_if_selected m (member_of (slice_get values (index_of_unit tree (of_choice c)))) ≡ Y =
        ap (λ o. tri_if_selected m (member_of o)) (ap (slice_get values) (place_is tree sound u (of_choice c) at) ∙ k.has
        ∙ ap Some is.1) ∙ ap (λ b. cond b Y N) (eq-eqb m m refl) in
        let may : may_have_line (slice_get tree.symbols m) (option_map (λ (symbol : Symbol). value_in_unit tree values m symbol symbol.choice)
        (slice_get tree.symbols m)) ≡ true =
        ap (λ o. may_have_line o (option_map (λ (symbol : Symbol). value_in_unit tree values m symbol symbol.choice) o)) found.1
        ∙ ap (λ c. is_line_of_its_unit c (value_in_unit tree values m found.0 c)) found.2 ∙ ap (λ t. not (is_n t)) tri in
        let below : m < length tree.symbols = inside tree.symbols m found.0 found.1 in
        one_of_filter (λ t. unit_of tree t == u) (has_line profile tree values) (length tree.symbols) 0 m (omega arith) (omega arith)
        (and_from (is_kept profile tree values (unit_of tree m)) _ (ap (is_kept profile tree values) number ∙ kept) may) (eq-eqb (unit_of tree m) u number)

  pub unit_there : (u : ℕ) → u < length tree.units → (unit : TreeUnit) × (slice_get tree.units u ≡ Some unit)
  unit_there u h = (get_or tree.units u (of_symbol 0), slice_get-get_or tree.units u (of_symbol 0) h)

  pub file_user : (u : ℕ) → u < length tree.units
      → user_of (file_assignment tree (map (λ s. meant tree.language values (unit_of tree s)) (minimal_symbols profile tree values))) u
      ≡ cond (list_any (λ s. unit_of tree s == u) (minimal_symbols profile tree values)) (user_meant tree.language values u) None
  file_user u h =
      after_lines tree values u (minimal_symbols profile tree values) (empty_assignment tree) false
      (let len = none_length (length tree.units) in omega (arith, len)) (none_held (length tree.units) u)

  -- the lines of the minimal file assign the least assignment of the values
  pub least_of_lines : IsLeastAssignment (length tree.units) (rule profile tree) (as_user tree.language) values
      (file_assignment tree (map (λ s. meant tree.language values (unit_of tree s)) (minimal_symbols profile tree values)))
  least_of_lines = record {
    one_each = file_length (map (λ s. meant tree.language values (unit_of tree s)) (minimal_symbols profile tree values)) (empty_assignment tree)
        ∙ none_length (length tree.units);
    kept = λ u value h has kept.
        let test = kept_passes profile tree users values fitting solved u h kept in
        let unit = unit_there u h in
        let k = kept_unit profile tree users values fitting solved u h test in
        file_user u h ∙ ap (λ b. cond b (user_meant tree.language values u) None) (speaks_at u test k unit.0 unit.1) ∙ ap (option_and_then (as_user tree.language)) has;
    others = λ u h same.
        let fails : (s : ℕ) → has_line profile tree values s ≡ true → (unit_of tree s == u) ≡ false = λ s has. elim (cases_Bool (unit_of tree s == u)) [
          | inl here ↦
              let kept = (and_parts (is_kept profile tree values (unit_of tree s)) _ has).0 in
              absurd (false≢true (sym (others_fail profile tree users values fitting solved u same)
              ∙ ap (is_kept profile tree values) (sym (eqb-true (unit_of tree s) u here)) ∙ kept))
          | inr other ↦ other
        ] in
        file_user u h ∙ ap (λ b. cond b (user_meant tree.language values u) None) (none_of_filter (λ s. unit_of tree s == u) (has_line profile tree values)
        (symbol_numbers tree) fails);
  }

  -- the minimal file is read as the least assignment of its values
  pub reads_as_least : IsReadAsLeast format profile tree values
  reads_as_least = record {
    meanings = map (λ s. meant tree.language values (unit_of tree s)) (minimal_symbols profile tree values);
    has_meaning = lines_mean (minimal_symbols profile tree values) (passes_filter (has_line profile tree values) (symbol_numbers tree));
    least = least_of_lines;
  }
