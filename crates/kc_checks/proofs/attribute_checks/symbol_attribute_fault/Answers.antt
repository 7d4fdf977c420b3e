use Rattle.kc_checks.proofs.Common.{ap, sym, ◌∙◌, arith, elements, slice_get, attribute_in, contents_of, attribute_faults}
use Rattle.kc_checks.proofs.FaultKinds.{typed_is}
use Rattle.kc_checks.proofs.attribute_checks.symbol_attribute_fault.Goals as goal

pub returns-in-Some : goal.returns-in-Some
returns-in-Some c = record {
  fault = λ read name h m.
      let e = c.args.listing.now.names.arena in
      c.typed_attribute_fault.ensures e
      ∙ typed_is (contents_of read) name c.in-Some.kind c.args.prompted c.args.is_modules c.is_wrong_reverse_dependency-is_wrong.result
      (attribute_in e c.args.attribute.now) m (c.is_wrong_reverse_dependency-is_wrong.ensures.value read h)
      ∙ ap (λ k. slice_get (attribute_faults (contents_of read) name k c.args.prompted (attribute_in e c.args.attribute.now)) 0) (sym c.in-Some.is);
}

pub returns-in-None-2 : goal.returns-in-None-2
returns-in-None-2 c = record { fault = grind (arith, elements) }
