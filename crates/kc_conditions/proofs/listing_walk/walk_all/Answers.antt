use Rattle.std.proofs.Common.{[], sym, append-nil}
use Rattle.kc_parser.specs.between.ListingView.{RepresentsListing}
use Rattle.kc_parser.proofs.AppendSteps.{lists_grown, grows_same}
use Rattle.kc_tree_model.specs.Limits.{names_defined}
use Rattle.kc_conditions.proofs.listing_walk.walk_all.Goals as goal

pub walk_through-requires-clause-shown : goal.walk_through-requires-clause-shown
unfolding RepresentsListing
walk_through-requires-clause-shown c =
    let l = c.args.listing in
    let k = c.requires.shown.shows in
    rw (c.deref.ensures.value, c.deref-2.ensures.value) (names_defined c.requires.shown.read, l.texts.items, c.requires.shown.read, k.groups_are)

pub walk_through-requires-clause-held : goal.walk_through-requires-clause-held
unfolding RepresentsListing
walk_through-requires-clause-held c = rw c.deref-2.ensures.value c.requires.shown.shows.held

pub returns-clause-shows : goal.returns-clause-shows
unfolding RepresentsListing
returns-clause-shows c = λ read h.
    let l = c.args.listing in
    lists_grown l.names.arena c.in_ok-walk.walk.arena l.names.symbols.items l.names.numbers.items l.texts.items [] l.texts.items l.lines.items l.groups.items
    read c.in_ok-walk.ensures.grows (sym (append-nil l.texts.items)) h

pub returns-clause-walked : goal.returns-clause-walked
unfolding RepresentsListing
returns-clause-walked c = λ read h.
    let l = c.args.listing in
    let f = rw (c.deref.ensures.value, c.deref-2.ensures.value) at c.in_ok-walk.ensures.walked in
    (f (names_defined read) l.texts.items read h.groups_are c.in_ok-walk.walk.arena (grows_same c.in_ok-walk.walk.arena)).groups_are

pub returns-clause-no : goal.returns-clause-no
unfolding RepresentsListing
returns-clause-no c =
    let l = c.args.listing in
    let read = c.requires.shown.read in
    let f = rw (c.deref.ensures.value, c.deref-2.ensures.value) at c.in_ok-walk.ensures.walked in
    (f (names_defined read) l.texts.items read c.requires.shown.shows.groups_are c.in_ok-walk.walk.arena (grows_same c.in_ok-walk.walk.arena)).no_is
