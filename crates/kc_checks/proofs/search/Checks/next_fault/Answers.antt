use Rattle.kc_checks.proofs.Common.{◌≡◌, ◌+◌, cond, refl, sym, subst, ap, ◌∙◌, get_or_read, names_defined, AreSmall, group_at, is_choice_code, no_group, RepresentsListing}
use Rattle.kc_checks.proofs.Rounds.{one_counted}
use Rattle.kc_checks.proofs.FaultSearch.{at_most_count, fault_here, reported_first}
use Rattle.kc_checks.proofs.search.Checks.next_fault.Goals as goal

pub returns : goal.returns
unfolding RepresentsListing
returns c =
    let l = c.args.listing.now in
    let i = c.args.i in
    let k = c.requires.before in
    let choices = c.args.self.now.choices in
    let what = ap (λ g. g.head) (get_or_read l.groups.items _ _ c.requires.here c.index.ensures no_group) in
    let count : c.count_choices-self.result ≡ cond (is_choice_code (group_at l.groups.items i).head) (choices + 1) choices = c.count_choices-self.ensures.value
    ∙ ap (λ w. cond (is_choice_code w) (choices + 1) choices) what in
    record {
      choices = count;
      after = λ none. record {
        few = at_most_count (is_choice_code (group_at l.groups.items i).head) _ choices i count k.few;
        members = k.members;
        many = c.group_fault-found.ensures.many;
        small = subst (AreSmall c.group_fault-found.new.marks.items) (sym count) c.group_fault-found.ensures.marks;
        counted = λ read h. one_counted l.names.arena (names_defined read) l.texts.items l.lines.items l.groups.items read h.groups_are i choices _
            (group_at l.groups.items i).head c.requires.here refl (k.counted read h) count;
        none = λ read h.
            sym (fault_here l.names.arena l.texts.items l.lines.items l.groups.items read h.groups_are c.args.language i c.group_fault-found.result
            c.requires.here (k.none read h) (λ p at. c.group_fault-found.ensures.fault read p h at)) ∙ none;
      };
      fault = λ read h.
          reported_first c.args.language read (i + 1) c.group_fault-found.result
          (fault_here l.names.arena l.texts.items l.lines.items l.groups.items read h.groups_are c.args.language i c.group_fault-found.result
          c.requires.here (k.none read h) (λ p at. c.group_fault-found.ensures.fault read p h at));
    }
