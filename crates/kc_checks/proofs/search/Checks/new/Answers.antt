use Rattle.kc_checks.proofs.Common.{◌≡◌, replicate, length, ap, subst, sym, ◌∙◌, arith, contents_of, names_defined, AreSmall, RepresentsListing, IsSummary}
use Rattle.std.proofs.lemmas.List.{length-replicate}
use Rattle.kc_checks.proofs.GroupPlaces.{count_is}
use Rattle.kc_checks.proofs.Rounds.{none_counted}
use Rattle.kc_checks.proofs.FaultSearch.{few_choices, grouped_are, keys_fit, no_fault_yet, zeros_small}
use Rattle.kc_checks.proofs.search.Checks.new.Goals as goal

pub grouped-requires-clause-keys : goal.grouped-requires-clause-keys
unfolding IsSummary
grouped-requires-clause-keys c =
    let read = c.requires.shown.read in
    let s = c.requires.summary read c.requires.shown.shows in
    keys_fit read _ _ s.members.member_keys s.choices

pub grouped-requires-clause-few : goal.grouped-requires-clause-few
unfolding IsSummary RepresentsListing
grouped-requires-clause-few c =
    let l = c.args.listing.now in
    let read = c.requires.shown.read in
    let h = c.requires.shown.shows in
    let known = (c.requires.summary read h).choices in
    let n = count_is l.names.arena (names_defined read) l.texts.items l.lines.items l.groups.items read h.groups_are in
    let k = few_choices read in
    omega arith

pub returns : goal.returns
unfolding IsSummary
returns c = λ language.
    let marks : c.in_ok-marks.marks.items ≡ replicate c.len.result 0 = c.in_ok-marks.ensures.items_if_clones_equal (λ y e. e) in
    record {
      few = omega arith;
      members = λ read h.
          let s = c.requires.summary read h in
          grouped_are (contents_of read) _ _ _ _ _ s.choices s.members.member_keys s.members.members c.in_ok-members.ensures.ok;
      many = let n = ap length marks ∙ length-replicate c.len.result 0 in omega (arith, n, c.len.ensures, c.args.listing.now.names.symbols.ok.0);
      small = subst (λ m. AreSmall m 0) (sym marks) (zeros_small c.len.result);
      counted = λ read h. none_counted read;
      none = λ read h. no_fault_yet language read;
    }
