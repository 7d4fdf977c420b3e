-- The meaning of a configuration file: its assignment and its notices (Kconfiglib's `load_config`).
use Rattle.std.specs.Prelude.{ℕ, Bool, ◌+◌, List, [], ◌∷◌, Option, Some, None, length, slice_set, replicate}
use Rattle.std.specs.List.{AllZip, list_all}
use Rattle.std.specs.Str.{is_utf8}
use Rattle.kc_value.specs.Lines.{pieces}
use Rattle.kc_tree_model.specs.Trees.{Tree}
use Rattle.kc_solver.specs.Solutions.{user_of}
use Rattle.kc_rules_model.specs.declared.values.UserValue.{UserValue}
use Rattle.kc_rules_model.specs.declared.values.UserValue.TheVariants.{Tri as TriUser, Text as TextUser, Member as MemberUser, Lines as LinesUser}
use Rattle.kc_rules_model.specs.declared.values.MemberLine.{MemberLine}
use Rattle.kc_rules_model.specs.MemberLines.{merged_lines}
use Rattle.kc_dotconfig_model.specs.Formats.{FileFormat}
use Rattle.kc_dotconfig_model.specs.declared.notice.NoticeKind.{NoticeKind}
use Rattle.kc_dotconfig_model.specs.declared.notice.NoticeKind.TheVariants.{Escape}
use Rattle.kc_dotconfig_model.specs.ConfigLines.{LineMeaning, assigns, assigns_escaped, notice, Means}
use Rattle.kc_tree_model.specs.LogicalLines.{without_white_end}

-- the lines of a configuration file, without their newlines; the last line may lack its newline in the file
abbrev pub file_lines : List ℕ → List (List ℕ)
file_lines bytes = pieces 10 bytes

-- whether each line of a configuration file is UTF-8
abbrev pub has_utf8_lines : List ℕ → Bool
has_utf8_lines bytes = list_all is_utf8 (file_lines bytes)

-- a list of meanings has the meaning of each line of a configuration file, in order
abbrev pub FileMeans : FileFormat → Tree → List ℕ → List LineMeaning → Type 0
FileMeans format tree bytes meanings =
    AllZip (λ line meaning. Means format tree (without_white_end line) meaning) (file_lines bytes) meanings

-- assignments of members over an earlier user value: merged with it, if that too is assignments of members; over another user
-- value, which no unit with assignments of members has, they change nothing
abbrev pub user_with_lines : List MemberLine → UserValue → UserValue
user_with_lines later (LinesUser earlier) = LinesUser (merged_lines later earlier)
user_with_lines later (TriUser t) = TriUser t
user_with_lines later (TextUser text) = TextUser text
user_with_lines later (MemberUser s) = MemberUser s

-- a user value over an earlier one of the same unit, if there is one: it replaces it, but assignments of members are merged with it
abbrev pub merged_user : UserValue → Option UserValue → UserValue
merged_user (LinesUser later) (Some earlier) = user_with_lines later earlier
merged_user (LinesUser later) None = LinesUser later
merged_user (TriUser t) earlier = TriUser t
merged_user (TextUser text) earlier = TextUser text
merged_user (MemberUser s) earlier = MemberUser s

-- the assignment of user values after a line of a configuration file, from the assignment before the line
abbrev pub assigned : LineMeaning → List (Option UserValue) → List (Option UserValue)
assigned (assigns u x) users = slice_set users u (Some (merged_user x (user_of users u)))
assigned (assigns_escaped u text) users = slice_set users u (Some (TextUser text))
assigned _ users = users

-- the assignment of user values after the lines of a file, each over the assignment before it (`merged_user`)
abbrev pub assigned_over : List LineMeaning → List (Option UserValue) → List (Option UserValue)
assigned_over [] users = users
assigned_over (meaning ∷ meanings) users = assigned_over meanings (assigned meaning users)

-- the assignment that gives no unit a user value
abbrev pub empty_assignment : Tree → List (Option UserValue)
empty_assignment tree = replicate (length tree.units) None

-- the assignment of user values by a configuration file alone, from the meanings of its lines
abbrev pub file_assignment : Tree → List LineMeaning → List (Option UserValue)
file_assignment tree meanings = assigned_over meanings (empty_assignment tree)

-- the first assignment merged with the second: a unit has the user value of the first over that of the second (`merged_user`), or that of
-- the second if the first has none for it
abbrev pub merged_users : List (Option UserValue) → List (Option UserValue) → List (Option UserValue)
merged_users [] users = users
merged_users (y ∷ later) [] = []
merged_users (None ∷ later) (x ∷ users) = x ∷ merged_users later users
merged_users (Some y ∷ later) (x ∷ users) = Some (merged_user y x) ∷ merged_users later users

-- an assignment, overridden by those of several configuration files, one after another
abbrev pub merged_files : Tree → List (Option UserValue) → List (List LineMeaning) → List (Option UserValue)
merged_files tree users [] = users
merged_files tree users (meanings ∷ others) = merged_files tree (merged_users (file_assignment tree meanings) users) others

-- the assignment of several configuration files, each of which overrides those before it
abbrev pub files_assignment : Tree → List (List LineMeaning) → List (Option UserValue)
files_assignment tree meanings = merged_files tree (empty_assignment tree) meanings

-- the notices among the meanings of a file's lines, with the numbers of their lines, where the first line has the number `n`
abbrev pub notices_from : ℕ → List LineMeaning → List (ℕ × NoticeKind)
notices_from n [] = []
notices_from n (assigns_escaped u text ∷ meanings) = (n, Escape) ∷ notices_from (n + 1) meanings
notices_from n (notice kind ∷ meanings) = (n, kind) ∷ notices_from (n + 1) meanings
notices_from n (_ ∷ meanings) = notices_from (n + 1) meanings
