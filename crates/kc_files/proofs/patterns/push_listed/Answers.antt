use Rattle.kc_files.proofs.Common.{◌≡◌, sym, arith, ℕ, map, ◌<◌, ◌≤◌, ◌+◌, length, subst, ◌++◌, filter, Vec, Global, list_folder, does, returned, MAX_LISTED_NAMES, found, matches_name, matching_listed, items_of, Comes, known_of, found_of}
use Rattle.std.proofs.lemmas.List.{length-map}
use Rattle.kc_files.proofs.PatternLemmas.{finds_listed, too_many_listed, folder_stops, more_stops_as, more_is_many, less_is_few}
use Rattle.kc_files.proofs.patterns.push_listed.Goals as goal

pub returns-in_err-names-clause-finds : goal.returns-in_err-names-clause-finds
returns-in_err-names-clause-finds g c = λ at.
    let known = known_of c.list.new.self in
    let before = found_of c.args.found.now in
    more_stops_as known at (does (list_folder c.args.folder.now) (matching_listed at c.args.piece.now c.args.folder.now c.args.found.now.listed))
    c.in_err-names.field-0.0 before before _ c.from_residual-in_err-names.ensures.1
    (folder_stops known at c.args.piece.now c.args.folder.now c.args.found.now.listed (Unit {0}) before before c.in_err-names.field-0.0
    c.in_err-names.ensures.stop)

pub returns-then-listed-gt-MAX_LISTED_NAMES-clause-finds : goal.returns-then-listed-gt-MAX_LISTED_NAMES-clause-finds
returns-then-listed-gt-MAX_LISTED_NAMES-clause-finds g c = λ at.
    let ns = c.in_ok-names.names.now in
    let len : length (items_of ns) ≡ length ns = length-map ns (λ (v : Vec ℕ Global). v.items) in
    let many : MAX_LISTED_NAMES < c.args.found.now.listed + length (items_of ns) = omega (arith, c.saturating_add-listed.ensures) in
    too_many_listed (known_of c.list.new.self) at c.args.piece.now c.args.folder.now c.args.found.now.listed (items_of ns) c.in_ok-names.ensures.value
    (more_is_many (c.args.found.now.listed + length (items_of ns)) many)

pub returns-clause-finds : goal.returns-clause-finds
returns-clause-finds g c = λ at.
    let ns = c.in_ok-names.names.now in
    let piece = c.args.piece.now in
    let folder = c.args.folder.now in
    let listed = c.args.found.now.listed in
    let more = map (λ n. folder ++ n) (filter (matches_name piece) (items_of ns)) in
    let len : length (items_of ns) ≡ length ns = length-map ns (λ (v : Vec ℕ Global). v.items) in
    let sum : c.saturating_add-listed.result ≡ listed + length (items_of ns) = omega (arith, c.saturating_add-listed.ensures) in
    let few : listed + length (items_of ns) ≤ MAX_LISTED_NAMES = omega arith in
    let comes = finds_listed (known_of c.list.new.self) at piece folder listed (items_of ns) c.in_ok-names.ensures.value
    (less_is_few (listed + length (items_of ns)) few) in (
      more,
      c.in_ok-push_matching.ensures,
      subst (λ l. Comes (known_of c.list.new.self) (does (list_folder folder) (matching_listed at piece folder listed))
          (returned (found more l))) (sym sum) comes,
    )
