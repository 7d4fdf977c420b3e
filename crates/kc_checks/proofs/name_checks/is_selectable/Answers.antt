use Rattle.kc_checks.proofs.Common.{None, get_or, sym, ◌∙◌, place-get, contents_of, names_defined, SymbolSummary}
use Rattle.kc_checks.proofs.Symbols.{symbol_summary_is, kind_is, symbol_below, undefined_selectable, selectable_some, selectable_none}
use Rattle.kc_checks.proofs.name_checks.is_selectable.Goals as goal

abbrev nothing : SymbolSummary
nothing = record { first = None; given = None; choice = None }

pub bounds-symbols-s : goal.bounds-symbols-s
bounds-symbols-s c =
    let r = c.requires.shown in
    symbol_below r.read c.args.symbols.now (c.requires.symbols r.read r.shows) c.in-Some.s c.args.name.now
    (place-get c.args.name.now (names_defined r.read) c.in-Some.s (sym (c.in-Some.ensures r.read r.shows)))

pub returns-in-Some-kind : goal.returns-in-Some-kind
returns-in-Some-kind c = record {
  value = λ read h.
      let at = place-get c.args.name.now (names_defined read) c.in-Some.s (sym (c.in-Some.ensures read h)) in
      let symbol_summary = symbol_summary_is read c.args.symbols.now (c.requires.symbols read h) c.in-Some.s c.args.name.now nothing at in
      c.is_tri_kind.ensures ∙ sym (selectable_some (contents_of read) c.args.name.now c.in-Some-kind.kind
      (sym (kind_is read c.args.name.now (get_or c.args.symbols.now c.in-Some.s nothing) symbol_summary) ∙ sym c.in-Some-kind.ensures));
}

pub returns-in-None-kind : goal.returns-in-None-kind
returns-in-None-kind c = record {
  value = λ read h.
      let at = place-get c.args.name.now (names_defined read) c.in-Some.s (sym (c.in-Some.ensures read h)) in
      let symbol_summary = symbol_summary_is read c.args.symbols.now (c.requires.symbols read h) c.in-Some.s c.args.name.now nothing at in
      sym (selectable_none (contents_of read) c.args.name.now (sym (kind_is read c.args.name.now (get_or c.args.symbols.now c.in-Some.s nothing) symbol_summary)
      ∙ sym c.in-None-kind.ensures));
}

pub returns-in-None : goal.returns-in-None
returns-in-None c = record { value = λ read h. sym (undefined_selectable read c.args.name.now (sym (c.in-None.ensures read h))) }
