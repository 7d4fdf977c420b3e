use Rattle.kc_config_reasons.proofs.Common.{ap, refl, unchosen, silent, meaning_view}
use Rattle.kc_rules_model.specs.declared.values.UserValue.TheVariants.{Tri as TriUser, Text as TextUser, Member as MemberUser}
use Rattle.kc_dotconfig_model.specs.ConfigLines.{notice}
use Rattle.kc_config_reasons.proofs.KeptLines.{takes_user, takes_escaped, takes_member, takes_none}
use Rattle.kc_config_reasons.proofs.file_lines.FileLines.keep.Goals as goal

pub returns-in-Tri : goal.returns-in-Tri
returns-in-Tri c =
    takes_user c.put_unit.result c.args.number c.in-Tri.unit (TriUser c.in-Tri.tri) c.args.meaning c.args.self.now c.put_unit.new.self (λ s. refl)
    (ap meaning_view c.in-Tri.is) c.put_unit.ensures.units c.put_unit.ensures.members

pub returns-in-Text : goal.returns-in-Text
returns-in-Text c =
    takes_user c.put_unit-in-Text.result c.args.number c.in-Text.unit (TextUser c.in-Text.text) c.args.meaning c.args.self.now c.put_unit-in-Text.new.self (λ s. refl)
    (ap meaning_view c.in-Text.is) c.put_unit-in-Text.ensures.units c.put_unit-in-Text.ensures.members

pub returns-in-Escaped : goal.returns-in-Escaped
returns-in-Escaped c =
    takes_escaped c.put_unit-in-Escaped.result c.args.number c.in-Escaped.unit c.in-Escaped.text c.args.meaning c.args.self.now c.put_unit-in-Escaped.new.self
    (ap meaning_view c.in-Escaped.is) c.put_unit-in-Escaped.ensures.units c.put_unit-in-Escaped.ensures.members

pub returns-in-Member : goal.returns-in-Member
returns-in-Member c =
    takes_user c.put_unit-in-Member.result c.args.number c.in-Member.unit (MemberUser c.in-Member.s) c.args.meaning c.args.self.now c.put_unit-in-Member.new.self (λ s. refl)
    (ap meaning_view c.in-Member.is) c.put_unit-in-Member.ensures.units c.put_unit-in-Member.ensures.members

pub returns-in-Line : goal.returns-in-Line
returns-in-Line c =
    takes_member c.put_member.result c.args.number c.in-Line._unit c.in-Line.line c.args.meaning c.args.self.now c.put_member.new.self
    (ap meaning_view c.in-Line.is) c.put_member.ensures.units c.put_member.ensures.members

pub returns-in-Unchosen : goal.returns-in-Unchosen
returns-in-Unchosen c = takes_none c.args.number (unchosen c.in-Unchosen._unit c.in-Unchosen._s) c.args.meaning c.args.self.now (ap meaning_view c.in-Unchosen.is) (λ w. refl)

pub returns-in-Noted : goal.returns-in-Noted
returns-in-Noted c = takes_none c.args.number (notice c.in-Noted._kind) c.args.meaning c.args.self.now (ap meaning_view c.in-Noted.is) (λ w. refl)

pub returns-in-Nothing : goal.returns-in-Nothing
returns-in-Nothing c = takes_none c.args.number silent c.args.meaning c.args.self.now (ap meaning_view c.in-Nothing.is) (λ w. refl)
