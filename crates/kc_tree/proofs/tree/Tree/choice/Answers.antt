use Rattle.kc_tree.proofs.Common.{◌≡◌, ◌<◌, ◌∙◌, length, refl, arith, slice_get_read, slice_index, get_or_default_zero, MemberDefaultFits, choice_from_row}
use Rattle.kc_tree.proofs.RowViews.{seen_get, all_at, symbols_length, units_length, choice_there}
use Rattle.kc_tree.proofs.tree.Tree.choice.Goals as goal

pub index-row-requires : goal.index-row-requires
index-row-requires c =
    let below : c.args.c < length c.self.inside.choices.items = choice_there c.self.inside _ c.self.view_is c.args.c c.requires.there in
    omega (arith, below)

pub index-requires : goal.index-requires
index-requires c =
    let below : c.args.c < length c.self.inside.choices.items = choice_there c.self.inside _ c.self.view_is c.args.c c.requires.there in
    omega (arith, below, c.self.invariant.places.unit_of_choice)

pub get-requires : goal.get-requires
get-requires c =
    let below : c.args.c < length c.self.inside.choices.items = choice_there c.self.inside _ c.self.view_is c.args.c c.requires.there in
    record { there = omega (arith, below, c.self.invariant.places.members) }

pub get-requires-2 : goal.get-requires-2
get-requires-2 c =
    let below : c.args.c < length c.self.inside.choices.items = choice_there c.self.inside _ c.self.view_is c.args.c c.requires.there in
    record { there = omega (arith, below, c.self.invariant.places.member_defaults) }

pub returns-clause-choice : goal.returns-clause-choice
returns-clause-choice c =
    let t = c.self.inside in
    let k = c.args.c in
    let below : k < length t.choices.items = choice_there t _ c.self.view_is k c.requires.there in
    rw (← c.self.view_is, c.get.ensures.value, c.get-2.ensures.value)
    (seen_get (choice_from_row t) 0 t.choices.items k k c.index-row.result.now (omega arith)
    (slice_get_read t.choices.items _ k c.index-row.result.now refl below c.index-row.ensures))

pub returns-clause-fits : goal.returns-clause-fits
returns-clause-fits c =
    let t = c.self.inside in
    let k = c.args.c in
    let f = c.self.invariant.fits in
    let below : k < length t.choices.items = choice_there t _ c.self.view_is k c.requires.there in
    rw (← c.self.view_is, symbols_length t) (record {
      members = rw c.get.ensures.value (all_at (λ s. s < length t.symbols.items) t.members.starts.items t.members.items.items k f.members);
      prompt = λ i. f.choice_prompts k i c.index-row.result.now
          (slice_get_read t.choices.items _ k c.index-row.result.now refl below c.index-row.ensures);
      defaults = rw c.get-2.ensures.value (all_at (MemberDefaultFits (length t.arena.nodes) (length t.symbols.items)) t.member_defaults.starts.items
          t.member_defaults.items.items k f.member_defaults);
    })

pub returns-clause-unit : goal.returns-clause-unit
returns-clause-unit c =
    let t = c.self.inside in
    let k = c.args.c in
    let below : k < length t.choices.items = choice_there t _ c.self.view_is k c.requires.there in
    let e : c.index.result.now ≡ slice_index t.unit_numbers.choices.items k = c.index.ensures
    ∙ get_or_default_zero t.unit_numbers.choices.items k c.index.result.now (omega (arith, c.self.invariant.places.unit_of_choice)) in
    rw (← c.self.view_is) (e ∙ (c.self.invariant.choice_units k below).0)

pub returns-clause-within : goal.returns-clause-within
returns-clause-within c =
    let t = c.self.inside in
    let k = c.args.c in
    let below : k < length t.choices.items = choice_there t _ c.self.view_is k c.requires.there in
    let e : c.index.result.now ≡ slice_index t.unit_numbers.choices.items k = c.index.ensures
    ∙ get_or_default_zero t.unit_numbers.choices.items k c.index.result.now (omega (arith, c.self.invariant.places.unit_of_choice)) in
    rw (← c.self.view_is, units_length t, e) (c.self.invariant.choice_units k below).1
