use Rattle.kc_builder.proofs.Common.{◌≡◌, ◌⊎◌, Err, IfErr, None, Some, rules, sym, subst, ◌∙◌, slice_get, no_memory, IsFaultRead, IsWalkOf, AreParts, tree_faults, reading, IsSummary}
use Rattle.kc_builder.proofs.builder.tree_parts.Goals as goal

pub checked_parts-requires-clause-walked : goal.checked_parts-requires-clause-walked
checked_parts-requires-clause-walked c =
    let r = c.requires.walk in
    let w = c.args.walked.now in
    ((reading r.0 r.1).read, subst (λ x. IsWalkOf x w.listing w.groups.items w.conditions.items (reading r.0 r.1).read) (sym r.2.written) r.2.walk)

pub symbol_rows-requires-clause-symbols : goal.symbol_rows-requires-clause-symbols
unfolding IsSummary
symbol_rows-requires-clause-symbols c = λ read s. c.as_slice.ensures.value ∙ (c.requires.summary read s).symbols

pub symbol_rows-requires-clause-shown : goal.symbol_rows-requires-clause-shown
symbol_rows-requires-clause-shown c =
    let r = c.requires.walk in
    record { read = (reading r.0 r.1).read; shows = r.2.walk.shows }

pub returns-in_err-groups-clause-fault : goal.returns-in_err-groups-clause-fault
returns-in_err-groups-clause-fault c = λ files root k.
    let fault = c.in_err-groups.field-0.0 in
    let read = (reading files root).read in
    let returned : c.from_residual.result ≡ Err fault = search rules in
    subst (λ r. IfErr r (IsFaultRead files root)) (sym returned)
    (subst (λ x. (fault ≡ no_memory) ⊎ (Some fault ≡ slice_get (tree_faults x read) 0)) k.written (c.in_err-groups.ensures.fault read k.walk.shows))

pub returns-in-Ok : goal.returns-in-Ok
returns-in-Ok c = record {
  faultless = λ files root k. subst (λ x. None ≡ slice_get (tree_faults x (reading files root).read) 0) k.written (c.in_ok-groups.ensures.faultless (reading files root).read k.walk.shows);
  groups = λ files root k.
      let w = c.args.walked.now in
      let read = (reading files root).read in
      subst (λ x. AreParts x w.listing read c.in_ok-groups.groups) k.written (c.in_ok-groups.ensures.parts read
      (subst (λ x. IsWalkOf x w.listing w.groups.items w.conditions.items read) (sym k.written) k.walk));
  symbols = λ files root k. c.in-Ok.ensures.ok (reading files root).read k.walk.shows;
  fault = λ files root k. tt;
}
