use Rattle.kc_macros.proofs.Common.{◌≤◌, ◌+◌, ◌*◌, false, length, drop, MAX_TEXT_BYTES, items, piece_values, texts_of_slices, values_left, pieces_left, Leads, frame_place, frame_item, frame_value, frame_items}
use Rattle.kc_macros.proofs.text_values.+expansion.Given as goal

abbrev pub decreases-expanded : goal.decreases-expanded
decreases-expanded l = 8 * l.frame.now.more

abbrev pub decreases-text_items : goal.decreases-text_items
decreases-text_items l = 8 * l.frame.now.more + 7

abbrev pub decreases-push_reference : goal.decreases-push_reference
decreases-push_reference l = 8 * l.frame.now.more + 6

abbrev pub decreases-reference_value : goal.decreases-reference_value
decreases-reference_value l = 8 * l.frame.now.more + 5

abbrev pub decreases-call_value : goal.decreases-call_value
decreases-call_value l = 8 * l.frame.now.more + 4

abbrev pub decreases-named_value : goal.decreases-named_value
decreases-named_value l = 8 * l.frame.now.more + 3

abbrev pub decreases-piece_values : goal.decreases-piece_values
decreases-piece_values l = 8 * l.frame.now.more + 1

-- the value of the whole text is the value in `out` joined with the values of the items of `rest`
abbrev pub invariant-text_items-items : goal.invariant-text_items-items
invariant-text_items-items l = record {
  within : length l.out.bytes.items ≤ MAX_TEXT_BYTES;
  left : Leads l.fn.run (frame_items l.frame l.fn.text) l.run (values_left (frame_place l.frame) (frame_item l.frame) l.out.known l.out.bytes.items
      (items false 0 l.rest));
}

abbrev pub decreases-text_items-items : goal.decreases-text_items-items
decreases-text_items-items l = length l.rest

-- the values of all pieces of the reference are those found so far and the values of the pieces left
abbrev pub invariant-piece_values-pieces : goal.invariant-piece_values-pieces
invariant-piece_values-pieces l = Leads l.fn.run (piece_values (frame_value l.frame) (texts_of_slices l.pieces)) l.run
    (pieces_left (frame_value l.frame) l.values.items (texts_of_slices (drop l.piece-index l.pieces)))
