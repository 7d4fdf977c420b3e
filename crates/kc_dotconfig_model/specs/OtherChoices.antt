-- Choices of which the lines of configuration files select another member by the rules from Linux 6.10 on, where a tree has the
-- rules before and its language doesn't say which of the two are meant.
use Rattle.std.specs.Prelude.{ℕ, ◌+◌, Bool, true, false, not, ◌&&◌, ◌==◌, List, [], ◌∷◌, ◌++◌, Option, Some, None, length, map, filter, slice_get, option_and_then, if◌then◌else◌}
use Rattle.std.specs.List.{filter_map, range_with_len}
use Rattle.std.specs.Option.{option_map, option_or}
use Rattle.kc_tokens.specs.declared.language.Language.{Language}
use Rattle.kc_tokens.specs.declared.language.Language.TheVariants.{Strict, Linux}
use Rattle.kc_tokens.specs.declared.language.LinuxVersion.TheVariants.{Unknown, V6_1, V6_12}
use Rattle.kc_tree_model.specs.Trees.{Tree, Choice}
use Rattle.kc_tree_model.specs.declared.ids.Unit.{Unit as TreeUnit}
use Rattle.kc_tree_model.specs.declared.ids.Unit.TheVariants.{Symbol as of_symbol, Choice as of_choice}
use Rattle.kc_rules_model.specs.declared.values.UnitValue.{UnitValue}
use Rattle.kc_rules_model.specs.declared.values.UnitValue.TheVariants.{Member as MemberValue}
use Rattle.kc_rules_model.specs.declared.values.UserValue.TheVariants.{Tri as TriUser, Text as TextUser, Member as MemberUser, Lines as LinesUser}
use Rattle.kc_rules_model.specs.declared.values.MemberLine.{MemberLine}
use Rattle.kc_rules_model.specs.MemberLines.{is_listed, selected_by_lines}
use Rattle.kc_rules_model.specs.SymbolValues.{member_of}
use Rattle.kc_rules_model.specs.Equality.{value_is}
use Rattle.kc_rules_model.specs.Rule.{is_shown, is_visible_member, default_member}
use Rattle.kc_dotconfig_model.specs.declared.choice_line.ChoiceLine.{ChoiceLine}
use Rattle.kc_dotconfig_model.specs.ConfigLines.{LineMeaning, assigns, assigns_escaped, unchosen, notice, silent}

-- whether a tree in a language has the rules of Linux before 6.10, and doesn't say that they are meant
abbrev pub has_no_version : Language → Bool
has_no_version Strict = false
has_no_version (Linux Unknown) = true
has_no_version (Linux V6_1) = false
has_no_version (Linux V6_12) = false

-- what the line of this number and this meaning gives to a member of a choice, if it gives it something, in a tree with the rules
-- of Linux before 6.10
abbrev pub choice_line_of : ℕ → LineMeaning → List ChoiceLine
choice_line_of n (assigns u (MemberUser s)) = record { unit = u; given = record { member = s; is_y = true }; line = n } ∷ []
choice_line_of n (assigns u (TriUser t)) = []
choice_line_of n (assigns u (TextUser text)) = []
choice_line_of n (assigns u (LinesUser lines)) = []
choice_line_of n (assigns_escaped u text) = []
choice_line_of n (unchosen u s) = record { unit = u; given = record { member = s; is_y = false }; line = n } ∷ []
choice_line_of n (notice kind) = []
choice_line_of n silent = []

-- the lines of a file that give a member of a choice `y` or `n`, where its first line has the number `n`
abbrev pub choice_lines_from : ℕ → List LineMeaning → List ChoiceLine
choice_lines_from n [] = []
choice_lines_from n (meaning ∷ meanings) = choice_line_of n meaning ++ choice_lines_from (n + 1) meanings

-- the lines of members in several files, each with the number of its file, where the first file has the number `f`
abbrev pub placed_from : ℕ → List (List ChoiceLine) → List (ℕ × ChoiceLine)
placed_from f [] = []
placed_from f (lines ∷ files) = map (λ (l : ChoiceLine). (f, l)) lines ++ placed_from (f + 1) files

-- those of the choice whose unit is `u`
abbrev pub lines_of : ℕ → List (ℕ × ChoiceLine) → List (ℕ × ChoiceLine)
lines_of u lines = filter (λ (l : ℕ × ChoiceLine). l.1.unit == u) lines

-- of what lines give to members the last of each member, in order
abbrev pub kept_last : List MemberLine → List MemberLine
kept_last [] = []
kept_last (l ∷ lines) = if is_listed lines l.member then kept_last lines else l ∷ kept_last lines

-- what lines of a choice give to its members
abbrev pub given_by : List (ℕ × ChoiceLine) → List MemberLine
given_by lines = map (λ (l : ℕ × ChoiceLine). l.1.given) lines

-- the last line of a member, if it has one
abbrev pub last_line : ℕ → List (ℕ × ChoiceLine) → Option (ℕ × ChoiceLine)
last_line s [] = None
last_line s (l ∷ lines) = option_or (last_line s lines) (if l.1.given.member == s then Some l else None)

-- the last line of a member, if that gives it `n`
abbrev pub last_n_line : ℕ → List (ℕ × ChoiceLine) → Option (ℕ × ChoiceLine)
last_n_line s lines = option_and_then (λ (l : ℕ × ChoiceLine). if l.1.given.is_y then None else Some l) (last_line s lines)

-- the line with the notice on a choice, from the member that it selects and the other one: the last line of the member that it
-- selects, if that gives it `n`, else the last line of the other one
abbrev pub noticed_line : (own other : Option ℕ) → List (ℕ × ChoiceLine) → Option (ℕ × ChoiceLine)
noticed_line own other lines = option_or (option_and_then (λ s. last_n_line s lines) own) (option_and_then (λ s. last_line s lines) other)

-- the member of a choice that its lines select by the rules from Linux 6.10 on, with the values that the rules before give
abbrev pub other_member : Tree → List UnitValue → Choice → List (ℕ × ChoiceLine) → Option ℕ
other_member tree values choice lines =
    selected_by_lines (is_visible_member tree values) choice.members (default_member tree choice values) (kept_last (given_by lines))

-- the line with the notice on a choice of this value, if there is a notice: the choice is shown, and its lines select another
-- member by the rules from Linux 6.10 on. Where a choice isn't shown it has no selection by the rules before, whatever its lines
-- are, and so no notice.
abbrev pub other_line : Tree → List UnitValue → Choice → Option UnitValue → List (ℕ × ChoiceLine) → Option (ℕ × ChoiceLine)
other_line tree values choice value lines =
    let other = other_member tree values choice lines in
    if is_shown tree values choice && not (value_is value (MemberValue other)) then noticed_line (member_of value) other lines else None

-- the line with the notice on the unit `u`, if it is a choice with a notice
abbrev pub other_line_of_unit : Tree → List UnitValue → ℕ → Option TreeUnit → List (ℕ × ChoiceLine) → Option (ℕ × ChoiceLine)
other_line_of_unit tree values u None lines = None
other_line_of_unit tree values u (Some (of_symbol s)) lines = None
other_line_of_unit tree values u (Some (of_choice c)) lines =
    option_and_then (λ (choice : Choice). other_line tree values choice (slice_get values u) (lines_of u lines)) (slice_get tree.choices c)

-- the place of a line: the number of its file, from 0, and its own, from 1
abbrev pub place_of : ℕ × ChoiceLine → ℕ × ℕ
place_of l = (l.0, l.1.line)

-- the places of the notices on all choices that these lines have, in order of the choices
abbrev pub other_places : Tree → List UnitValue → List (ℕ × ChoiceLine) → List (ℕ × ℕ)
other_places tree values lines =
    map place_of (filter_map (λ u. other_line_of_unit tree values u (slice_get tree.units u) lines) (range_with_len 0 (length tree.units)))

-- those places, where the tree's language doesn't say its version; else none
abbrev pub other_choices_of : Tree → List UnitValue → List (ℕ × ChoiceLine) → List (ℕ × ℕ)
other_choices_of tree values lines = if has_no_version tree.language then other_places tree values lines else []

-- the places of the notices on choices, with these values, in files whose lines have these meanings
abbrev pub other_choices : Tree → List UnitValue → List (List LineMeaning) → List (ℕ × ℕ)
other_choices tree values files = other_choices_of tree values (placed_from 0 (map (choice_lines_from 1) files))
