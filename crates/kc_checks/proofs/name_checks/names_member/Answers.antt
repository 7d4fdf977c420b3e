use Rattle.kc_checks.proofs.Common.{◌≡◌, Some, sym, ap, ◌∙◌, arith, default_in, get_below, place-get, bare_name, names_defined, as_many_names, RepresentsListing}
use Rattle.kc_expr.specs.between.Arena.{node_expr}
use Rattle.kc_checks.proofs.Symbols.{bare_is, name_some}
use Rattle.kc_checks.proofs.name_checks.names_member.Goals as goal

pub bounds-marks-s : goal.bounds-marks-s
unfolding RepresentsListing
bounds-marks-s c =
    let r = c.requires.shown in
    let l = c.args.listing.now in
    let at = place-get c.name.result.now (names_defined r.read) c.in-Some-symbol_number_of_name.s
    (sym (c.in-Some-symbol_number_of_name.ensures r.read r.shows)) in
    let below = get_below (names_defined r.read) c.in-Some-symbol_number_of_name.s c.name.result.now at in
    let h = r.shows in
    let many = as_many_names l.names.arena l.names.symbols.items l.names.numbers.items (names_defined r.read) h.names in
    let m = c.requires.many in
    omega arith

pub returns-in-Some-symbol_number_of_name : goal.returns-in-Some-symbol_number_of_name
returns-in-Some-symbol_number_of_name c = record {
  value = λ read members h marked.
      let e = c.args.listing.now.names.arena in
      let x = c.name.result.now in
      let at = place-get x (names_defined read) c.in-Some-symbol_number_of_name.s (sym (c.in-Some-symbol_number_of_name.ensures read h)) in
      let bare : bare_name (node_expr e c.args.valued.now.value) ≡ Some x = sym (bare_is (node_expr e c.args.valued.now.value)) ∙ sym c.in-Some.ensures.name
      ∙ ap Some (sym c.name.ensures.value) in
      marked.marked c.in-Some-symbol_number_of_name.s x at ∙ sym (name_some members (default_in e c.args.valued.now) x c.if-not-valued.false bare);
}
