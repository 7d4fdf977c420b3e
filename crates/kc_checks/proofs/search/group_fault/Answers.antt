use Rattle.kc_checks.proofs.Common.{◌≡◌, ◌<◌, ◌+◌, length, sym, ap, subst, ◌∙◌, arith, common_steps, elements, All, get_or_read, contents_of, member_names, names_defined, as_many_names, AreMarked, group_at, is_choice_code, no_group, RepresentsListing}
use Rattle.kc_parser.specs.declared.listing.GroupHead.TheVariants as codes
use Rattle.kc_checks.proofs.MemberMarks.{members_small}
use Rattle.kc_checks.proofs.FaultSearch.{are_marked_in, at_most_choice, at_most_more, choice_below, marks_small, members_kept, nothing_reported, place_at, place_there}
use Rattle.kc_checks.proofs.search.group_fault.Goals as goal

pub get-requires : goal.get-requires
unfolding RepresentsListing
get-requires c = record {
  there = let l = c.args.listing.now in
      let read = c.requires.shown.read in
      let h = c.requires.shown.shows in
      let what : (group_at l.groups.items c.args.i).head ≡ codes.Choice = sym
      (ap (λ g. g.head) (get_or_read l.groups.items _ _ c.requires.here c.index.ensures no_group)) ∙ c.in-Choice.is in
      let below = choice_below l.names.arena l.texts.items l.lines.items l.groups.items read h.groups_are c.args.i c.args.choices c.requires.here what
      (c.requires.counted read h) in
      let starts = (c.requires.members read h).places in
      omega arith;
}

pub mark_members-requires : goal.mark_members-requires
unfolding RepresentsListing
mark_members-requires c = record {
  there = let l = c.args.listing.now in
      let read = c.requires.shown.read in
      let h = c.requires.shown.shows in
      let e = l.names.arena in
      let what : (group_at l.groups.items c.args.i).head ≡ codes.Choice = sym
      (ap (λ g. g.head) (get_or_read l.groups.items _ _ c.requires.here c.index.ensures no_group)) ∙ c.in-Choice.is in
      let p = place_there e (names_defined read) l.texts.items l.lines.items l.groups.items read h.groups_are c.args.i c.requires.here in
      let members = c.get.ensures.value ∙ members_kept e l.texts.items l.lines.items l.groups.items read h.groups_are _ _ c.args.i
      c.args.choices p.0 (c.requires.members read h) c.requires.here what p.1 (c.requires.counted read h) in
      let many = as_many_names e l.names.symbols.items l.names.numbers.items (names_defined read) h.names in
      let n : length (names_defined read) ≡ length c.args.marks.now.items = omega arith in
      subst (λ k. All (λ s. s < k) c.get.result.now) n (subst (All (λ s. s < length (names_defined read))) (sym members)
      (members_small (names_defined read) (member_names (contents_of read) p.0.group.number)));
}

pub returns-in-Choice-clause-fault : goal.returns-in-Choice-clause-fault
unfolding RepresentsListing
returns-in-Choice-clause-fault c = λ read p h at.
    let l = c.args.listing.now in
    let e = l.names.arena in
    let what : (group_at l.groups.items c.args.i).head ≡ codes.Choice = sym
    (ap (λ g. g.head) (get_or_read l.groups.items _ _ c.requires.here c.index.ensures no_group)) ∙ c.in-Choice.is in
    let members = c.get.ensures.value ∙ members_kept e l.texts.items l.lines.items l.groups.items read h.groups_are _ _ c.args.i
    c.args.choices p (c.requires.members read h) c.requires.here what at (c.requires.counted read h) in
    let many = as_many_names e l.names.symbols.items l.names.numbers.items (names_defined read) h.names in
    c.choice_fault.ensures.fault read p h at (subst (λ ms. AreMarked (names_defined read) (member_names (contents_of read) p.group.number) ms
    (c.args.choices + 1)) (sym c.deref.ensures.value) (are_marked_in read p c.get.result.now c.args.marks.now.items c.mark_members.new.marks.items
    c.args.choices members (omega arith) c.requires.small c.mark_members.ensures.marked)) c.args.language

pub returns-in-Choice-clause-marks : goal.returns-in-Choice-clause-marks
returns-in-Choice-clause-marks c = λ s.
    let l = c.args.listing.now in
    let what : (group_at l.groups.items c.args.i).head ≡ codes.Choice = sym
    (ap (λ g. g.head) (get_or_read l.groups.items _ _ c.requires.here c.index.ensures no_group)) ∙ c.in-Choice.is in
    at_most_choice (is_choice_code (group_at l.groups.items c.args.i).head) _ c.args.choices (ap is_choice_code what)
    (marks_small c.get.result.now c.args.marks.now.items c.mark_members.new.marks.items c.args.choices c.requires.small c.mark_members.ensures.marked s)

pub returns-in_default : goal.returns-in_default
unfolding RepresentsListing
returns-in_default c =
    let l = c.args.listing.now in
    let group = ap (λ g. g.head) (get_or_read l.groups.items _ _ c.requires.here c.index.ensures no_group) in
    record {
      fault = λ read p h at.
          let a = place_at l.names.arena (names_defined read) l.texts.items l.lines.items l.groups.items read h.groups_are c.args.i p c.requires.here at in
          sym (nothing_reported c.args.language l.names.arena (names_defined read) l.texts.items (group_at l.groups.items c.args.i).head
          (contents_of read) p a.head
          (λ s w. c.in_default.not-Config s (group ∙ w)) (λ w. c.in_default.not-Choice (group ∙ w)));
      many = c.requires.many;
      marks = λ s. at_most_more (is_choice_code (group_at l.groups.items c.args.i).head) _ c.args.choices (c.requires.small s);
    }

pub returns-in-Choice-clause-many : goal.returns-in-Choice-clause-many
returns-in-Choice-clause-many c = grind (arith, common_steps)

pub returns-in-Config-clause-marks : goal.returns-in-Config-clause-marks
returns-in-Config-clause-marks c = grind (arith, elements)

pub returns-in-Config-clause-many : goal.returns-in-Config-clause-many
returns-in-Config-clause-many c = grind (arith, common_steps)
