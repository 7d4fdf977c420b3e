use Rattle.kc_symbol_lines.proofs.Common.{◌≡◌, get_or_read, names_defined, no_group, group_at, shown_at}
use Rattle.kc_checks.specs.between.Summaries.{attributes_end}
use Rattle.kc_symbol_lines.proofs.contexts.lines_at.Goals as goal

pub part-requires-clause-rising : goal.part-requires-clause-rising
part-requires-clause-rising c =
    let lines = c.args.lines.now in
    let r = c.requires.read in
    let s = shown_at r.exprs (names_defined r.read) r.has.texts lines.lines.items lines.groups.items r.read r.has.groups_are c.args.i c.requires.there in
    let own : c.index.result.now ≡ group_at lines.groups.items c.args.i = get_or_read lines.groups.items _ _ c.requires.there c.index.ensures no_group in
    let end : c.end_of-end.result ≡ attributes_end lines.groups.items lines.lines.items c.args.i = rw (c.deref.ensures.value, c.deref-2.ensures.value) at c.end_of-end.ensures.value in
    rw (own, end) s.rising

pub part-requires-clause-within : goal.part-requires-clause-within
part-requires-clause-within c =
    let lines = c.args.lines.now in
    let r = c.requires.read in
    let s = shown_at r.exprs (names_defined r.read) r.has.texts lines.lines.items lines.groups.items r.read r.has.groups_are c.args.i c.requires.there in
    let end : c.end_of-end.result ≡ attributes_end lines.groups.items lines.lines.items c.args.i = rw (c.deref.ensures.value, c.deref-2.ensures.value) at c.end_of-end.ensures.value in
    rw (end, c.deref-3.ensures.value) s.within
