use Rattle.kc_dotconfig.proofs.Common.{◌+◌, refl, ap, meaning_view}
use Rattle.kc_rules_model.specs.declared.values.UserValue.TheVariants.{Tri as TriUser, Text as TextUser, Member as MemberUser}
use Rattle.kc_dotconfig.proofs.LineAccumulation.{takes_user, takes_escaped, none_chosen, takes_unchosen, takes_line, takes_notice, takes_nothing}
use Rattle.kc_dotconfig.proofs.accumulate.take.Goals as goal

pub returns-in-Tri-clause-ok : goal.returns-in-Tri-clause-ok
returns-in-Tri-clause-ok c =
    takes_user c.take_assignment.result c.args.accumulator.now c.take_assignment.new.accumulator c.in-Tri.unit (TriUser c.in-Tri.tri) c.args.meaning
    (ap meaning_view c.in-Tri.is) tt c.take_assignment.ensures.entries c.take_assignment.ensures.members c.take_assignment.ensures.notices
    (none_chosen c.take_assignment.result c.args.accumulator.now c.take_assignment.new.accumulator c.take_assignment.ensures.chosen) c.take_assignment.ensures.lines

pub returns-in-Text-clause-ok : goal.returns-in-Text-clause-ok
returns-in-Text-clause-ok c =
    takes_user c.take_assignment-in-Text.result c.args.accumulator.now c.take_assignment-in-Text.new.accumulator c.in-Text.unit (TextUser c.in-Text.text) c.args.meaning
    (ap meaning_view c.in-Text.is) tt c.take_assignment-in-Text.ensures.entries c.take_assignment-in-Text.ensures.members c.take_assignment-in-Text.ensures.notices
    (none_chosen c.take_assignment-in-Text.result c.args.accumulator.now c.take_assignment-in-Text.new.accumulator c.take_assignment-in-Text.ensures.chosen)
    c.take_assignment-in-Text.ensures.lines

pub returns-in-Escaped-clause-ok : goal.returns-in-Escaped-clause-ok
returns-in-Escaped-clause-ok c =
    takes_escaped c.take_escaped.result c.args.accumulator.now c.take_escaped.new.accumulator c.in-Escaped.unit c.in-Escaped.text c.args.meaning
    c.in-Escaped.is c.take_escaped.ensures.entries c.take_escaped.ensures.members c.take_escaped.ensures.notices
    c.take_escaped.ensures.chosen c.take_escaped.ensures.lines

pub returns-in-Member-clause-ok : goal.returns-in-Member-clause-ok
returns-in-Member-clause-ok c =
    takes_user c.take_chosen.result c.args.accumulator.now c.take_chosen.new.accumulator c.in-Member.unit (MemberUser c.in-Member.s) c.args.meaning
    (ap meaning_view c.in-Member.is) tt c.take_chosen.ensures.entries c.take_chosen.ensures.members c.take_chosen.ensures.notices
    c.take_chosen.ensures.listed c.take_chosen.ensures.lines

pub returns-in-Unchosen-clause-ok : goal.returns-in-Unchosen-clause-ok
returns-in-Unchosen-clause-ok c =
    takes_unchosen c.take_unchosen.result c.args.accumulator.now c.take_unchosen.new.accumulator c.in-Unchosen.unit c.in-Unchosen.s c.args.meaning
    c.in-Unchosen.is c.take_unchosen.ensures.entries c.take_unchosen.ensures.members c.take_unchosen.ensures.notices
    c.take_unchosen.ensures.listed c.take_unchosen.ensures.lines

pub returns-in-Line-clause-ok : goal.returns-in-Line-clause-ok
returns-in-Line-clause-ok c =
    takes_line c.take_member.result c.args.accumulator.now c.take_member.new.accumulator c.in-Line.unit c.in-Line.line c.args.meaning c.in-Line.is
    c.take_member.ensures.entries c.take_member.ensures.members c.take_member.ensures.notices c.take_member.ensures.chosen
    c.take_member.ensures.lines

pub returns-in-Noted-clause-ok : goal.returns-in-Noted-clause-ok
returns-in-Noted-clause-ok c =
    takes_notice c.take_notice.result c.args.accumulator.now c.take_notice.new.accumulator c.in-Noted.kind c.args.meaning c.in-Noted.is c.take_notice.ensures.entries
    c.take_notice.ensures.members c.take_notice.ensures.notices c.take_notice.ensures.chosen c.take_notice.ensures.lines

pub returns-in-Nothing-clause-ok : goal.returns-in-Nothing-clause-ok
returns-in-Nothing-clause-ok c =
    takes_nothing c.args.accumulator.now (record {
      assigns = c.args.accumulator.now.assigns;
      members = c.args.accumulator.now.members;
      chosen = c.args.accumulator.now.chosen;
      notices = c.args.accumulator.now.notices;
      lines = c.args.accumulator.now.lines
          + 1;
      next = c.args.accumulator.now.next;
    }) c.args.meaning c.in-Nothing.is refl refl refl refl refl
