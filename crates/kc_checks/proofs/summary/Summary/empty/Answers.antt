use Rattle.kc_checks.proofs.Common.{◌≡◌, length, replicate, refl, ap, ◌∙◌, arith, names_defined, as_many_names, nothing_known, RepresentsListing, IsSummedTo}
use Rattle.kc_checks.proofs.SummarySteps.{none_summed}
use Rattle.kc_checks.proofs.summary.Summary.empty.Goals as goal

pub returns : goal.returns
unfolding RepresentsListing IsSummedTo
returns c = λ read h.
    let l = c.args.listing.now in
    let many = as_many_names l.names.arena l.names.symbols.items l.names.numbers.items (names_defined read) h.names in
    let n : c.len.result ≡ length (names_defined read) = omega arith in
    none_summed read _ (c.in_ok-symbols.ensures.items_if_clones_equal (λ y e. e) ∙ ap (λ k. replicate k nothing_known) n)
    refl c.new.ensures.keys c.new.ensures.items c.new-2.ensures.keys c.new-2.ensures.items c.in_ok-units.ensures.items
