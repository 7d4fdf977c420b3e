use Rattle.kc_tree.proofs.Common.{◌<◌, length, refl, slice_get_read, entry_from_row}
use Rattle.kc_tree_model.proofs.Consistency.Lists.{map-get}
use Rattle.kc_tree.specs.between.StoredFits.{EntryRowFits}
use Rattle.kc_tree.proofs.RowViews.{entry_there, symbols_length, choices_length}
use Rattle.kc_tree.proofs.UnitLists.{all_got}
use Rattle.kc_tree.proofs.tree.Tree.entry.Goals as goal

pub returns-in-Definition-clause-entry : goal.returns-in-Definition-clause-entry
returns-in-Definition-clause-entry c =
    let t = c.self.inside in
    let below : c.args.i < length t.entries.items = entry_there t _ c.self.view_is c.args.i c.requires.there in
    let at = slice_get_read t.entries.items _ c.args.i c.index.result.now refl below c.index.ensures in
    rw (← c.self.view_is) (map-get (entry_from_row t.arena t.titles.items) t.entries.items c.args.i _ (rw c.in-Definition.is at at))

pub returns-in-ChoiceBegins-clause-entry : goal.returns-in-ChoiceBegins-clause-entry
returns-in-ChoiceBegins-clause-entry c =
    let t = c.self.inside in
    let below : c.args.i < length t.entries.items = entry_there t _ c.self.view_is c.args.i c.requires.there in
    let at = slice_get_read t.entries.items _ c.args.i c.index.result.now refl below c.index.ensures in
    rw (← c.self.view_is) (map-get (entry_from_row t.arena t.titles.items) t.entries.items c.args.i _ (rw c.in-ChoiceBegins.is at at))

pub returns-in-MenuBegins-clause-entry : goal.returns-in-MenuBegins-clause-entry
returns-in-MenuBegins-clause-entry c =
    let t = c.self.inside in
    let below : c.args.i < length t.entries.items = entry_there t _ c.self.view_is c.args.i c.requires.there in
    let at = slice_get_read t.entries.items _ c.args.i c.index.result.now refl below c.index.ensures in
    rw (← c.self.view_is, c.title_at.ensures.value, c.deref.ensures.value) (map-get (entry_from_row t.arena t.titles.items) t.entries.items c.args.i _ (rw c.in-MenuBegins.is at at))

pub returns-in-MenuEnds-clause-entry : goal.returns-in-MenuEnds-clause-entry
returns-in-MenuEnds-clause-entry c =
    let t = c.self.inside in
    let below : c.args.i < length t.entries.items = entry_there t _ c.self.view_is c.args.i c.requires.there in
    let at = slice_get_read t.entries.items _ c.args.i c.index.result.now refl below c.index.ensures in
    rw (← c.self.view_is, c.title_at-in-MenuEnds.ensures.value, c.deref-in-MenuEnds.ensures.value) (map-get (entry_from_row t.arena t.titles.items) t.entries.items c.args.i _ (rw c.in-MenuEnds.is at at))

pub returns-in-Comment-clause-entry : goal.returns-in-Comment-clause-entry
returns-in-Comment-clause-entry c =
    let t = c.self.inside in
    let below : c.args.i < length t.entries.items = entry_there t _ c.self.view_is c.args.i c.requires.there in
    let at = slice_get_read t.entries.items _ c.args.i c.index.result.now refl below c.index.ensures in
    rw (← c.self.view_is, c.title_at-in-Comment.ensures.value, c.deref-in-Comment.ensures.value) (map-get (entry_from_row t.arena t.titles.items) t.entries.items c.args.i _ (rw c.in-Comment.is at at))

pub returns-in-Definition-clause-fits : goal.returns-in-Definition-clause-fits
returns-in-Definition-clause-fits c =
    let t = c.self.inside in
    let below : c.args.i < length t.entries.items = entry_there t _ c.self.view_is c.args.i c.requires.there in
    let at = slice_get_read t.entries.items _ c.args.i c.index.result.now refl below c.index.ensures in
    rw (← c.self.view_is, symbols_length t) (all_got (EntryRowFits (length t.arena.nodes) (length t.symbols.items) (length t.choices.items) (length t.titles.items)) t.entries.items c.args.i _ c.self.invariant.fits.entries (rw c.in-Definition.is at at))

pub returns-in-ChoiceBegins-clause-fits : goal.returns-in-ChoiceBegins-clause-fits
returns-in-ChoiceBegins-clause-fits c =
    let t = c.self.inside in
    let below : c.args.i < length t.entries.items = entry_there t _ c.self.view_is c.args.i c.requires.there in
    let at = slice_get_read t.entries.items _ c.args.i c.index.result.now refl below c.index.ensures in
    rw (← c.self.view_is, choices_length t) (all_got (EntryRowFits (length t.arena.nodes) (length t.symbols.items) (length t.choices.items) (length t.titles.items)) t.entries.items c.args.i _ c.self.invariant.fits.entries (rw c.in-ChoiceBegins.is at at))
