-- Lines of a configuration file are kept one after another.
use Rattle.std.specs.Prelude.{◌≡◌, ℕ, ◌+◌, ◌<◌, List, [], ◌∷◌, Some, option_map}
use Rattle.std.specs.Option.{option_or}
use Rattle.kc_tree_model.specs.Trees.{Tree}
use Rattle.kc_tree_model.specs.TreeLookup.{unit_of}
use Rattle.kc_rules_model.specs.declared.values.MemberLine.{MemberLine}
use Rattle.kc_rules_model.specs.declared.values.UserValue.{UserValue}
use Rattle.kc_rules_model.specs.declared.values.UserValue.TheVariants.{Tri as TriUser, Text as TextUser, Member as MemberUser, Lines as LinesUser}
use Rattle.kc_dotconfig_model.specs.ConfigLines.{LineMeaning, assigns, assigns_escaped, unchosen, notice, silent}
use Rattle.kc_reasons_model.specs.AssigningLines.{said_to, user_by_line, line_giving}
use Rattle.kc_config_reasons.specs.declared.file_lines.AskingLine.{AskingLine}
use Rattle.kc_config_reasons.specs.declared.file_lines.FileLines.{FileLines}
use Rattle.kc_config_reasons.specs.between.FileLines.{line_view, line_at, line_kept}

-- the numbers of the lines kept are below n
abbrev pub AreBelow : ℕ → List (ℕ × AskingLine) → Type 0
AreBelow n kept = (k : ℕ) (l : AskingLine) → line_at kept k ≡ Some l → l.number < n

abbrev pub NumbersBelow : ℕ → FileLines → Type 0
NumbersBelow n f = AreBelow n f.units.entries × AreBelow n f.members.entries

-- assignments of members are of one member, and its choice's unit
abbrev pub OwnUser : Tree → ℕ → UserValue → Type 0
OwnUser tree u (TriUser t) = Unit {0}
OwnUser tree u (TextUser text) = Unit {0}
OwnUser tree u (MemberUser s) = Unit {0}
OwnUser tree u (LinesUser lines) = (l : MemberLine) × (lines ≡ l ∷ []) × (u ≡ unit_of tree l.member)

abbrev pub IsOwn : Tree → LineMeaning → Type 0
IsOwn tree (assigns u x) = OwnUser tree u x
IsOwn tree (assigns_escaped u text) = Unit {0}
IsOwn tree (unchosen u s) = Unit {0}
IsOwn tree (notice kind) = Unit {0}
IsOwn tree silent = Unit {0}

-- the line of this number and meaning is kept over the lines that were kept before it
abbrev pub Keeps : ℕ → LineMeaning → FileLines → FileLines → Type 0
Keeps n meaning f g = (tree : Tree) → IsOwn tree meaning → NumbersBelow n f
    → ((s : ℕ) → option_map line_view (line_kept g (unit_of tree s) s)
    ≡ option_or (line_giving n (said_to s (user_by_line (unit_of tree s) meaning))) (option_map line_view (line_kept f (unit_of tree s) s)))
    × NumbersBelow (n + 1) g
