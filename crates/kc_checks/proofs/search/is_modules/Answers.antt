use Rattle.kc_checks.proofs.Common.{ap, ◌∙◌, arith, bytes_eq, get_or_read, names_defined, text_of_name, modules_name, RepresentsListing}
use Rattle.kc_checks.proofs.FaultSearch.{word_is}
use Rattle.kc_checks.proofs.search.is_modules.Goals as goal

pub name-requires : goal.name-requires
unfolding RepresentsListing
name-requires c = record {
  there = let l = c.args.listing.now in
      let h = c.requires.shown.shows in
      let id = get_or_read l.names.symbols.items _ _ c.requires.here c.index-id.ensures 0 in
      let below = h.names.held c.args.s 0 c.requires.here in
      omega arith;
}

pub returns : goal.returns
unfolding RepresentsListing
returns c = record {
  value = λ read name h at.
      let l = c.args.listing.now in
      let id = get_or_read l.names.symbols.items _ _ c.requires.here c.index-id.ensures 0 in
      let word = word_is l.names.arena l.names.symbols.items l.names.numbers.items (names_defined read) c.args.s name 0 h.names at in
      c.eq.ensures ∙ ap (λ x. bytes_eq x modules_name) (c.name.ensures.value ∙ ap (text_of_name l.names.arena) id ∙ word);
}
