use Rattle.kc_checks.proofs.Common.{false, map, sym, ap, ◌∙◌, slice_get, get_or_read, contents_of, member_names, names_defined, choice_faults, faults_of_lines, line_in, group_at, no_group, RepresentsListing}
use Rattle.kc_checks.proofs.FaultSearch.{choice_first, choice_there, place_at}
use Rattle.kc_checks.proofs.search.choice_fault.Goals as goal

pub returns : goal.returns
unfolding RepresentsListing
returns c = record {
  fault = λ read p h at marked language.
      let l = c.args.listing.now in
      let names = names_defined read in
      let members = member_names (contents_of read) p.group.number in
      let a = place_at l.names.arena names l.texts.items l.lines.items l.groups.items read h.groups_are c.args.i p c.requires.here at in
      let w = choice_there l.names.arena names l.texts.items (group_at l.groups.items c.args.i).head p.group.head a.head c.requires.head in
      let file = ap (λ g. g.file) (get_or_read l.groups.items _ _ c.requires.here c.index.ensures no_group) ∙ sym a.file in
      let lines = ap (map (line_in l.names.arena)) c.lines_of.ensures.lines ∙ sym a.attributes in
      c.first_choice_fault.ensures.fault read p.group members h marked (sym file)
      ∙ ap (λ ls. slice_get (faults_of_lines p.group (choice_faults members) false ls) 0) lines
      ∙ sym (choice_first language (contents_of read) p w);
}
