-- The programs of texts that are expanded in a frame.
use Rattle.std.specs.Prelude.{ℕ, false, List}
use Rattle.kc_macros_model.specs.Programs.{Place, Program, returns, ◌>>=◌}
use Rattle.kc_macros_model.specs.References.{Item, items}
use Rattle.kc_macros_model.specs.Variables.{Value, value_length, Bindings}
use Rattle.kc_macros_model.specs.Expansion.{Expander, spends, item_value, item_values, piece_values, call_value, expanded}
use Rattle.kc_macros.specs.declared.frame.Frame.{Frame}
use Rattle.kc_macros.specs.between.Variables.{bindings_of}
use Rattle.kc_macros.specs.Runs.{place_of}
use Rattle.kc_macros.specs.between.SliceTexts.{texts_of_slices}

-- the file and the line of the text that is expanded in a frame, as a place of `kc_macros_model`
abbrev pub frame_place : Frame → Place
frame_place f = place_of f.at

-- the variables of a frame of the expansion, as bindings of `kc_macros_model`
abbrev pub frame_bindings : Frame → Bindings
frame_bindings f = bindings_of f.bindings.now

-- the names of the variables whose values are being expanded in a frame, the innermost first
abbrev pub frame_names : Frame → List (List ℕ)
frame_names f = texts_of_slices f.names.now

-- the expander of a frame: what gives the value of a text, by the names that are being expanded and the arguments
abbrev pub frame_expander : Frame → Expander
frame_expander f = expanded f.more (frame_place f) (frame_bindings f)

-- the program that gives the value of a text in a frame of the expansion
abbrev pub frame_value : Frame → List ℕ → Program Value
frame_value f text = frame_expander f (frame_names f) f.args.now text

-- the program that gives the value of an item of a text in a frame of the expansion
abbrev pub frame_item : Frame → Item → Program Value
frame_item f i = item_value (frame_expander f) (frame_place f) (frame_bindings f) (frame_names f) f.args.now i

-- the program that gives the value of a text in a frame of the expansion, as the joined values of its items
abbrev pub frame_items : Frame → List ℕ → Program Value
frame_items f text = item_values (frame_place f) (frame_item f) 0 (items false 0 text)

-- the program that spends the length of a value as work, and then returns the value
abbrev pub paid : Place → Value → Program Value
paid at v = spends at (value_length v) (returns v)

-- the program that gives the value of a text in a frame of the expansion, and spends its length as work
abbrev pub paid_items : Frame → List ℕ → Program Value
paid_items f text = frame_items f text >>= paid (frame_place f)

-- the program that gives the value of a reference in a frame of the expansion, by its pieces
abbrev pub frame_call : Frame → List (List ℕ) → Program Value
frame_call f pieces = piece_values (frame_value f) pieces >>= call_value (frame_expander f) (frame_place f) (frame_bindings f) (frame_names f)
