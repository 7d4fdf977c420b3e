-- In a tree without a fault, the units by first definitions are those of the tree.
use Rattle.std.proofs.Common.{◌&&◌}
use Rattle.kc_builder.proofs.Common.{◌≡◌, ℕ, Bool, true, false, cond, List, [], ◌∷◌, inl, inr, Option, Some, None, refl, ap, sym, ◌∙◌, filter_map, option_and_then, option_map, is_none, Language, index_of_name, block_of_head, config, name_of_head, Group, GroupHead, of_head, from_head, defined_name}
use Rattle.kc_builder.proofs.Common.{is_some_block, GroupInContext, Contents, choice_number, contents_of, faults_of_group, IsSound, Has, number-get}
use Rattle.kc_tree_model.specs.declared.ids.Unit.{Unit as TreeUnit}
use Rattle.kc_tree_model.specs.declared.ids.Unit.TheVariants.{Symbol as of_symbol, Choice as of_choice}
use Rattle.kc_tree_model.specs.declared.keyword.Block.TheVariants as blocks
use Rattle.kc_tree_model.specs.Contents.{choice_of_symbol, is_first_definition, unit_of_head}
use Rattle.kc_tree_model.proofs.Consistency.Definitions.{one_number}
use Rattle.kc_tree_model.proofs.Consistency.Places.{same_place}
use Rattle.kc_tree_model.proofs.Consistency.Units.{choice_around, choice_of_member, first_in_choice, first_of_choice}
use Rattle.kc_checks.specs.between.Summaries.{enclosing_choice, own_unit}
use Rattle.kc_checks.proofs.Rounds.{enclosing_numbered}

-- the unit that begins with a group of the statements read; `None` if none does
abbrev pub unit_read : Contents → GroupInContext → Option TreeUnit
unit_read c p = from_head (unit_of_head c p) p.group.head

-- the units of the statements read, in order of the statements that they begin with
abbrev pub units_read : Contents → List TreeUnit
units_read c = filter_map (unit_read c) c.places

filtered_same : {A B : Type 0} (f g : A → Option B) (xs : List A) → ((x : A) → Has x xs → f x ≡ g x) → filter_map f xs ≡ filter_map g xs
filtered_same f g [] same = refl
filtered_same f g (x ∷ xs) same = rw (same x (inl refl), filtered_same f g xs (λ y h. same y (inr h))) refl

both_by : (b : Bool) (x y : Bool) (o : Option TreeUnit) → (b ≡ true → x ≡ y) → cond (b && x) o None ≡ cond (b && y) o None
both_by true x y o same = ap (λ z. cond z o None) (same refl)
both_by false x y o same = refl

module _ (language : Language) (read : List Group) (s : IsSound (contents_of read))
    (none : (p : GroupInContext) → Has p (contents_of read).places → faults_of_group language (contents_of read) p ≡ []) where
  abbrev c : Contents
  c = contents_of read

  -- the first definition of a symbol is in a choice if any definition is
  outside : (p : GroupInContext) (name : List ℕ) → Has p c.places → is_first_definition c name p ≡ true → p.choice ≡ None
      → (o : Option ℕ) → choice_of_symbol c name ≡ o → is_none o ≡ true
  outside p name h first e None k = refl
  outside p name h first e (Some j) k =
      let q = choice_around c name j k in
      let f = first_of_choice c name q.1 (first_in_choice language c s none q.0 name q.1 j q.2 q.3 q.4 k) in
      let same : p ≡ f.0 = same_place c.places p f.0 s.numbers h f.1 (one_number c name p f.0 first f.3) in
      let there = ap (λ (x : GroupInContext). x.choice) same ∙ f.4 in
      cc

  alone : (p : GroupInContext) (name : List ℕ) → Has p c.places → defined_name p.group ≡ Some name → is_first_definition c name p ≡ true
      → is_none (enclosing_choice c p) ≡ is_none (choice_of_symbol c name)
  alone p name h named first = by_choice p.choice refl
    where
      by_choice : (o : Option ℕ) → p.choice ≡ o → is_none (enclosing_choice c p) ≡ is_none (choice_of_symbol c name)
      by_choice None e =
          ap (λ o. is_none (option_and_then (choice_number c) o)) e ∙ sym (outside p name h first e (choice_of_symbol c name) refl)
      by_choice (Some n) e =
          let j = enclosing_numbered read p n h e in
          let own = choice_of_member language c s none p name n j.0 h named e (number-get n c.choices j.0 j.1) in
          ap is_none (ap (option_and_then (choice_number c)) e ∙ j.1) ∙ sym (ap is_none own)

  -- the unit that begins with a group with this head
  abbrev own_by : GroupInContext → GroupHead → Option TreeUnit
  own_by p w = elim (from_head name_of_head w) [
    | None ↦ cond (is_some_block blocks.Choice (from_head block_of_head w)) (option_map of_choice (choice_number c p.group.number)) None
    | Some name ↦ cond (is_first_definition c name p && is_none (enclosing_choice c p)) (option_map of_symbol (index_of_name name c.names)) None
  ]

  own_same : (p : GroupInContext) → Has p c.places → own_unit c p ≡ unit_read c p
  own_same p h = by_head p.group.head refl
    where
      by_head : (w : GroupHead) → p.group.head ≡ w → own_unit c p ≡ from_head (unit_of_head c p) w
      by_head (of_head (config name)) e =
          ap (own_by p) e ∙ both_by (is_first_definition c name p) (is_none (enclosing_choice c p)) (is_none (choice_of_symbol c name))
          (option_map of_symbol (index_of_name name c.names)) (alone p name h (ap (from_head name_of_head) e))
      by_head w e = ap (own_by p) e

  pub units_same : filter_map (own_unit c) c.places ≡ units_read c
  units_same = filtered_same (own_unit c) (unit_read c) c.places own_same
