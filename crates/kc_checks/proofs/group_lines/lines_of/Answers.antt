use Rattle.kc_checks.proofs.Common.{◌≡◌, ◌-◌, length, drop, sym, ap, subst, ◌∙◌, All, slice_range, get_or_read, names_defined, no_group, attributes_end, group_at}
use Rattle.std.proofs.lemmas.List.Elements.{All-take, All-drop}
use Rattle.kc_parser.specs.between.ListingView.{RepresentsListing, LineNodesExist}
use Rattle.kc_checks.specs.between.Summaries.{own_lines}
use Rattle.kc_checks.proofs.GroupPlaces.{shown_at}
use Rattle.kc_checks.proofs.group_lines.lines_of.Goals as goal

pub part-requires : goal.part-requires
unfolding RepresentsListing
part-requires c =
    let l = c.args.listing.now in
    let h = c.requires.shown.shows in
    let s = shown_at l.names.arena (names_defined c.requires.shown.read) l.texts.items l.lines.items l.groups.items c.requires.shown.read h.groups_are c.args.i
    c.requires.here in
    let g : c.index.result.now.attributes ≡ (group_at l.groups.items c.args.i).attributes = ap (λ g. g.attributes)
    (get_or_read l.groups.items _ _ c.requires.here c.index.ensures no_group) in
    let e : c.end_of-end.result ≡ attributes_end l.groups.items l.lines.items c.args.i =
    c.end_of-end.ensures.value ∙ ap (λ gs. attributes_end gs c.deref-2.result.now c.args.i) c.deref.ensures.value
    ∙ ap (λ ls. attributes_end l.groups.items ls c.args.i) c.deref-2.ensures.value in
    let n : length c.deref-3.result.now ≡ length l.lines.items = ap length c.deref-3.ensures.value in
    record { rising = rw (g, e) s.rising; within = rw (e, n) s.within }

pub returns : goal.returns
unfolding RepresentsListing
returns c =
    let l = c.args.listing.now in
    let h = c.requires.shown.shows in
    let g : c.index.result.now.attributes ≡ (group_at l.groups.items c.args.i).attributes = ap (λ g. g.attributes)
    (get_or_read l.groups.items _ _ c.requires.here c.index.ensures no_group) in
    let e : c.end_of-end.result ≡ attributes_end l.groups.items l.lines.items c.args.i =
    c.end_of-end.ensures.value ∙ ap (λ gs. attributes_end gs c.deref-2.result.now c.args.i) c.deref.ensures.value
    ∙ ap (λ ls. attributes_end l.groups.items ls c.args.i) c.deref-2.ensures.value in
    let is : c.part.result.now ≡ own_lines l c.args.i =
    c.part.ensures.value
    ∙ ap (λ ls. slice_range ls c.index.result.now.attributes c.end_of-end.result) c.deref-3.ensures.value
    ∙ ap (λ a. slice_range l.lines.items a c.end_of-end.result) g
    ∙ ap (λ b. slice_range l.lines.items (group_at l.groups.items c.args.i).attributes b) e in
    let begin = (group_at l.groups.items c.args.i).attributes in
    let end = attributes_end l.groups.items l.lines.items c.args.i in
    record {
      lines = is;
      held = subst (All (LineNodesExist l.names.arena)) (sym is) (All-take (LineNodesExist l.names.arena) (end - begin) (drop begin l.lines.items)
          (All-drop (LineNodesExist l.names.arena) begin l.lines.items h.held));
    }
