use Rattle.kc_checks.proofs.Common.{◌≡◌, false, Some, map, sym, ap, ◌∙◌, arith, elements, slice_get, is_some, option_map, option_or, get_or_read, TreeFault, groups_in_context, contents_of, names_defined, attribute_faults, faults_of_lines, kind_of, line_in, as_many_names}
use Rattle.kc_checks.proofs.Common.{enclosing_choice, group_at, no_group, choice_around, SymbolSummary, RepresentsListing, IsSummary}
use Rattle.kc_checks.proofs.FaultKinds.{fault_of, follow_is}
use Rattle.kc_checks.proofs.FaultSearch.{again_is, config_first, config_there, definition_reported, enclosing_some, place_at}
use Rattle.kc_checks.proofs.Rounds.{enclosing_got}
use Rattle.kc_checks.proofs.Symbols.{symbol_summary_is, as_many_abouts, kind_is, symbol_there}
use Rattle.kc_checks.proofs.search.config_fault.Goals as goal

pub index-requires : goal.index-requires
unfolding RepresentsListing IsSummary
index-requires c =
    let l = c.args.listing.now in
    let read = c.requires.shown.read in
    let h = c.requires.shown.shows in
    let there = symbol_there l.names.arena l.texts.items l.lines.items l.groups.items read h.groups_are c.args.i c.args.s c.requires.here c.requires.head in
    let n = as_many_abouts (contents_of read) (groups_in_context read) c.args.summary.now.symbols.items (c.requires.summary read h).symbols in
    omega arith

pub is_modules-is_modules-requires-clause-here : goal.is_modules-is_modules-requires-clause-here
unfolding RepresentsListing
is_modules-is_modules-requires-clause-here c =
    let l = c.args.listing.now in
    let read = c.requires.shown.read in
    let h = c.requires.shown.shows in
    let there = symbol_there l.names.arena l.texts.items l.lines.items l.groups.items read h.groups_are c.args.i c.args.s c.requires.here c.requires.head in
    let many = as_many_names l.names.arena l.names.symbols.items l.names.numbers.items (names_defined read) h.names in
    omega arith

pub returns-in-Some : goal.returns-in-Some
unfolding RepresentsListing IsSummary
returns-in-Some c = record {
  fault = λ read p h at.
      let l = c.args.listing.now in
      let m = c.args.summary.now in
      let names = names_defined read in
      let a = place_at l.names.arena names l.texts.items l.lines.items l.groups.items read h.groups_are c.args.i p c.requires.here at in
      let w = config_there l.names.arena names l.texts.items (group_at l.groups.items c.args.i).head c.args.s p.group.head a.head c.requires.head in
      let name = w.0 in
      let known = c.requires.summary read h in
      let symbol_summary = c.index.ensures ∙ symbol_summary_is read m.symbols.items known.symbols c.args.s name c.index.result.now w.1 in
      let group = get_or_read l.groups.items _ _ c.requires.here c.index-group.ensures no_group in
      let own : c.index-group.result.now.choice ≡ enclosing_choice (contents_of read) p = ap (λ g. g.choice) group
      ∙ enclosing_got l.names.arena names l.texts.items l.lines.items l.groups.items read h.groups_are h.choices_are c.args.i p at in
      let member = c.is_some-is_member.ensures ∙ ap is_some own in
      let again = again_is l.names.arena names l.texts.items l.lines.items l.groups.items read h.groups_are name p c.choice_around-first_choice.result
      c.index-group.result.now.choice c.is_same_choice-is_again.result a.has h.choices_are
      (c.choice_around-first_choice.ensures ∙ ap (λ gs. choice_around gs c.index.result.now.first) c.deref.ensures.value
      ∙ ap (λ (x : SymbolSummary). choice_around l.groups.items x.first) symbol_summary)
      own c.is_same_choice-is_again.ensures in
      let follow = c.only_extends_member-may_follow.ensures ∙ follow_is c.args.language l.names.arena (contents_of read) name p c.is_some-is_member.result
      c.is_same_choice-is_again.result c.lines_of-lines.result.now
      (member ∙ enclosing_some read p a.has) again (a.attributes ∙ sym (ap (map (line_in l.names.arena)) c.lines_of-lines.ensures.lines)) in
      let reported = definition_reported c.args.language read p name c.args.i c.index.result.now c.is_some-is_member.result c.is_misfit-is_misfit.result
      c.is_first-is_first.result c.is_modules-is_modules.result c.only_extends_member-may_follow.result a.has a.number symbol_summary member
      c.is_misfit-is_misfit.ensures c.is_first-is_first.ensures
      (c.is_modules-is_modules.ensures.value read name h w.1) follow in
      let file = ap (λ g. g.file) group ∙ sym a.file in
      let line = ap (λ g. g.line) group ∙ sym a.line in
      ap Some (c.at_line.ensures
      ∙ ap (λ f. let t : TreeFault = record { file = Some f; line = c.index-group.result.now.line; kind = c.in-Some.kind } in t) file
      ∙ ap (λ n. fault_of p.group n c.in-Some.kind) line)
      ∙ sym (config_first c.args.language (contents_of read) p name w.2
      ∙ ap (λ o. option_or (option_map (fault_of p.group p.group.at.line) o)
      (slice_get (faults_of_lines p.group (attribute_faults (contents_of read) name (kind_of (contents_of read) name)) false p.group.attributes) 0))
      (sym reported ∙ sym c.in-Some.ensures));
}

pub first_symbol_fault-requires-clause-symbols : goal.first_symbol_fault-requires-clause-symbols
unfolding IsSummary
first_symbol_fault-requires-clause-symbols c = λ read h. c.deref-2.ensures.value ∙ (c.requires.summary read h).symbols

pub returns : goal.returns
unfolding RepresentsListing IsSummary
returns c = record {
  fault = λ read p h at.
      let l = c.args.listing.now in
      let m = c.args.summary.now in
      let names = names_defined read in
      let a = place_at l.names.arena names l.texts.items l.lines.items l.groups.items read h.groups_are c.args.i p c.requires.here at in
      let w = config_there l.names.arena names l.texts.items (group_at l.groups.items c.args.i).head c.args.s p.group.head a.head c.requires.head in
      let name = w.0 in
      let known = c.requires.summary read h in
      let symbol_summary = c.index.ensures ∙ symbol_summary_is read m.symbols.items known.symbols c.args.s name c.index.result.now w.1 in
      let group = get_or_read l.groups.items _ _ c.requires.here c.index-group.ensures no_group in
      let own : c.index-group.result.now.choice ≡ enclosing_choice (contents_of read) p = ap (λ g. g.choice) group
      ∙ enclosing_got l.names.arena names l.texts.items l.lines.items l.groups.items read h.groups_are h.choices_are c.args.i p at in
      let member = c.is_some-is_member.ensures ∙ ap is_some own in
      let again = again_is l.names.arena names l.texts.items l.lines.items l.groups.items read h.groups_are name p c.choice_around-first_choice.result
      c.index-group.result.now.choice c.is_same_choice-is_again.result a.has h.choices_are
      (c.choice_around-first_choice.ensures ∙ ap (λ gs. choice_around gs c.index.result.now.first) c.deref.ensures.value
      ∙ ap (λ (x : SymbolSummary). choice_around l.groups.items x.first) symbol_summary)
      own c.is_same_choice-is_again.ensures in
      let follow = c.only_extends_member-may_follow.ensures ∙ follow_is c.args.language l.names.arena (contents_of read) name p c.is_some-is_member.result
      c.is_same_choice-is_again.result c.lines_of-lines.result.now
      (member ∙ enclosing_some read p a.has) again (a.attributes ∙ sym (ap (map (line_in l.names.arena)) c.lines_of-lines.ensures.lines)) in
      let reported = definition_reported c.args.language read p name c.args.i c.index.result.now c.is_some-is_member.result c.is_misfit-is_misfit.result
      c.is_first-is_first.result c.is_modules-is_modules.result c.only_extends_member-may_follow.result a.has a.number symbol_summary member
      c.is_misfit-is_misfit.ensures c.is_first-is_first.ensures
      (c.is_modules-is_modules.ensures.value read name h w.1) follow in
      let file = ap (λ g. g.file) group ∙ sym a.file in
      let lines = ap (map (line_in l.names.arena)) c.lines_of-lines.ensures.lines ∙ sym a.attributes in
      let kind = c.kind.ensures ∙ kind_is read name c.index.result.now symbol_summary in
      c.first_symbol_fault.ensures.fault read p.group name h (c.is_modules-is_modules.ensures.value read name h w.1) (sym file)
      ∙ ap (λ ls. slice_get (faults_of_lines p.group (attribute_faults (contents_of read) name c.kind.result) false ls) 0) lines
      ∙ ap (λ k. slice_get (faults_of_lines p.group (attribute_faults (contents_of read) name k) false p.group.attributes) 0) kind
      ∙ sym (config_first c.args.language (contents_of read) p name w.2
      ∙ ap (λ o. option_or (option_map (fault_of p.group p.group.at.line) o)
      (slice_get (faults_of_lines p.group (attribute_faults (contents_of read) name (kind_of (contents_of read) name)) false p.group.attributes) 0))
      (sym reported ∙ sym c.in_default.ensures));
}

pub first_symbol_fault-requires-clause-held : goal.first_symbol_fault-requires-clause-held
first_symbol_fault-requires-clause-held c = grind (arith, elements)
