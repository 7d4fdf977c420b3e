use Rattle.std.proofs.Common.{nat_eq, slice_index_or, bit_and}
use Rattle.kc_solver.proofs.Common.{◌≡◌, ◌≢◌, ◌*◌, ◌-◌, ◌/◌, ◌%◌, ◌^◌, true, false, ℕ, eqb, inl, inr, refl, sym, ◌∙◌, false≢true, eqb_tells}
use Rattle.kc_solver.proofs.PlaceSets.{writes_on, writes_off}
use Rattle.kc_solver.proofs.place_sets.write_bit.Goals as goal

isnt_zero : (n : ℕ) → eqb n 0 ≡ false → n ≢ 0
isnt_zero n h e = elim (eqb_tells n 0) [ inl t ↦ false≢true (sym h ∙ t.0) | inr f ↦ f.1 e ]

is_zero : (n : ℕ) → eqb n 0 ≡ true → n ≡ 0
is_zero n h = elim (eqb_tells n 0) [ inl t ↦ t.1 | inr f ↦ absurd (false≢true (sym f.0 ∙ h)) ]

pub returns-then-on : goal.returns-then-on
returns-then-on c = record {
  written = let words = c.args.words.now in
      let was = slice_index_or words (c.args.bit / 64) 0 in
      let follows = nat_eq was 0 in
      rw c.if-on.true (writes_on words c.args.bit was follows c.requires.there refl (isnt_zero was));
}

pub returns-else-on : goal.returns-else-on
returns-else-on c = record {
  written = let words = c.args.words.now in
      let was = slice_index_or words (c.args.bit / 64) 0 in
      let now = bit_and was (18446744073709551615 - 1 * 2 ^ (c.args.bit % 64) % 18446744073709551616) in
      rw c.if-on.false (writes_off words c.args.bit was (nat_eq now 0) c.requires.there refl (isnt_zero now) (is_zero now));
}
