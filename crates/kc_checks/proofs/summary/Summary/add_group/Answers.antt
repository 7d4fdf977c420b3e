use Rattle.std.proofs.Common.{◌^◌}
use Rattle.kc_checks.proofs.Common.{◌≡◌, ◌+◌, ◌<◌, ◌≤◌, true, false, length, refl, sym, ap, ◌∙◌, arith, append-nil, filter_map, slice_get, common_steps, get_or_read, groups_in_context, contents_of, names_defined, choices_before, group_at}
use Rattle.kc_checks.proofs.Common.{no_group, read_before, type_in, Summary, RepresentsListing, IsSummedTo}
use Rattle.kc_parser.specs.declared.listing.GroupHead.TheVariants as codes
use Rattle.kc_checks.proofs.FaultSearch.{few_choices}
use Rattle.kc_checks.proofs.GroupPlaces.{count_before, count_is}
use Rattle.kc_checks.proofs.SummarySteps.{definition_more, no_choice, other_more}
use Rattle.kc_checks.proofs.Symbols.{as_many_abouts, symbol_there}
use Rattle.kc_checks.proofs.summary.Summary.add_group.Goals as goal

pub define-requires : goal.define-requires
unfolding RepresentsListing IsSummedTo
define-requires c = record {
  there = let l = c.args.listing.now in
      let read = c.requires.shown.read in
      let h = c.requires.shown.shows in
      let what : (group_at l.groups.items c.args.i).head ≡ codes.Config c.in-Config.s = sym
      (ap (λ g. g.head) (get_or_read l.groups.items _ _ c.requires.here c.index-group.ensures no_group)) ∙ c.in-Config.is in
      let there = symbol_there l.names.arena l.texts.items l.lines.items l.groups.items read h.groups_are c.args.i c.in-Config.s c.requires.here what in
      let n = as_many_abouts (contents_of read) (groups_in_context (read_before c.args.i read)) c.args.self.now.symbols.items
      (c.requires.summed read h).symbols in
      omega arith;
}

pub overflow_add-self : goal.overflow_add-self
unfolding RepresentsListing IsSummedTo
overflow_add-self c =
    let l = c.args.listing.now in
    let read = c.requires.shown.read in
    let h = c.requires.shown.shows in
    let n = count_is l.names.arena (names_defined read) l.texts.items l.lines.items l.groups.items read h.groups_are in
    let here = c.requires.here in
    let k : c.args.self.now.choices ≡ choices_before c.args.i read = (c.requires.summed read h).choices in
    let f : choices_before c.args.i read ≤ length (read_before c.args.i read) = few_choices (read_before c.args.i read) in
    let b = count_before read c.args.i (omega arith) in
    let few : c.args.self.now.choices + 1 < 2 ^ 32 = omega (arith, c.requires.few) in
    grind (arith, common_steps)

pub returns-in_ok-define-in-Config : goal.returns-in_ok-define-in-Config
unfolding RepresentsListing IsSummedTo
returns-in_ok-define-in-Config c = record {
  summed = λ read h.
      let l = c.args.listing.now in
      let e = l.names.arena in
      let d = c.in_ok-define-in-Config.ensures.ok in
      let group = get_or_read l.groups.items _ _ c.requires.here c.index-group.ensures no_group in
      definition_more e l.texts.items l.lines.items l.groups.items read h.groups_are c.args.i c.requires.here h.choices_are c.args.self.now
      c.define.new.self (c.requires.summed read h)
      c.in-Config.s c.first_type-given.result c.index-group.result.now.choice (sym (ap (λ g. g.head) group) ∙ c.in-Config.is)
      (c.first_type-given.ensures e ∙ ap (λ ls. slice_get (filter_map (type_in e) ls) 0) c.lines_of.ensures.lines)
      (ap (λ g. g.choice) group) d.symbols d.choices d.members d.own_members d.units;
}

pub returns-in_ok-push-in-Choice : goal.returns-in_ok-push-in-Choice
unfolding RepresentsListing IsSummedTo
returns-in_ok-push-in-Choice c = record {
  summed = λ read h.
      let l = c.args.listing.now in
      let old = c.args.self.now in
      let new : Summary = record {
        symbols = old.symbols;
        choices = old.choices + 1;
        members = old.members;
        own_members = old.own_members;
        units = c.push.new.self;
      } in
      let group = ap (λ g. g.head) (get_or_read l.groups.items _ _ c.requires.here c.index-group.ensures no_group) in
      other_more l.names.arena l.texts.items l.lines.items l.groups.items read h.groups_are c.args.i c.requires.here h.choices_are old
      new (c.requires.summed read h)
      codes.Choice true (sym c.in-Choice.is ∙ group) (λ s a. cc) refl refl refl refl refl c.in_ok-push-in-Choice.ensures.items;
}

pub returns-in_default : goal.returns-in_default
unfolding RepresentsListing IsSummedTo
returns-in_default c = record {
  summed = λ read h.
      let l = c.args.listing.now in
      let old = c.args.self.now in
      let group = ap (λ g. g.head) (get_or_read l.groups.items _ _ c.requires.here c.index-group.ensures no_group) in
      other_more l.names.arena l.texts.items l.lines.items l.groups.items read h.groups_are c.args.i c.requires.here h.choices_are old
      old (c.requires.summed read h)
      c.index-group.result.now.head false group (λ s a. c.in_default.not-Config s a) (no_choice c.index-group.result.now.head (λ a. c.in_default.not-Choice a)) refl
      refl refl refl (sym (append-nil old.units.items));
}
