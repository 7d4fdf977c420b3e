use Rattle.kc_checks.proofs.Common.{◌≡◌, Some, ap, sym, subst, ◌∙◌, not, option_map, attribute_in, default_in, default_of, is_no_member}
use Rattle.std.specs.Prelude.{IfSome}
use Rattle.kc_statements.specs.between.StatementViews.{DefaultNodesExist}
use Rattle.kc_statements.proofs.AttributeViews.{default_same, default_held}
use Rattle.kc_checks.proofs.FaultKinds.{choice_is}
use Rattle.kc_checks.proofs.attribute_checks.choice_attribute_fault.Goals as goal
use Rattle.kc_checks.proofs.attribute_checks.choice_attribute_fault.Goals.{in-Some, in-None}

pub returns : goal.returns
returns c = record {
  fault = λ read members h m.
      let e = c.args.listing.now.names.arena in
      let a = attribute_in e c.args.attribute.now in
      let no : c.match-default_given.is_no_member ≡ is_no_member members (default_of a) =
      elim c.match-default_given.branch [
        | in-Some w ↦ w.is_no_member-is ∙ ap not (w.names_member.ensures.value read members h m)
            ∙ ap (is_no_member members) (sym (ap (option_map (default_in e)) w.in-Some.is) ∙ (ap (option_map (default_in e)) c.default_given.ensures ∙ default_same e c.args.attribute.now))
        | in-None w ↦ w.is_no_member-is ∙ ap (is_no_member members) (sym (ap (option_map (default_in e)) w.in-None.is) ∙ (ap (option_map (default_in e)) c.default_given.ensures ∙ default_same e c.args.attribute.now))
      ] in
      c.choice_attribute_kind.ensures e ∙ choice_is members c.args.prompted c.match-default_given.is_no_member a no;
}

pub names_member-requires-clause-held : goal.names_member-requires-clause-held
names_member-requires-clause-held c =
    let e = c.args.listing.now.names.arena in
    let given : default_of c.args.attribute.now ≡ Some c.in-Some.valued = sym c.default_given.ensures ∙ c.in-Some.is in
    subst (λ o. IfSome o (DefaultNodesExist e)) given (default_held e c.args.attribute.now c.requires.held)
