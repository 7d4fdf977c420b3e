-- The meanings and the assignments of small files.
use Rattle.kc_dotconfig_model.proofs.Common.{◌≡◌, ℕ, List, [], ◌∷◌, Option, Some, None, refl, codes, N, Y, Tree, UserValue, sets, tree_a, tree_pick, Linux, V6_12, NoticeKind, UnknownSymbol, NotOfType, Escaped, Raw, FileFormat, LineMeaning, assigns, notice, silent, file_assignment, assigned_over}
use Rattle.kc_dotconfig_model.proofs.Common.{merged_users, file_meanings}
use Rattle.std.specs.Option.{option_map}
use Rattle.kc_rules_model.specs.declared.values.UserValue.TheVariants.{Tri as TriUser, Member as MemberUser}
use Rattle.kc_rules_model.proofs.RowTrees.{writes, tree_string}
use Rattle.kc_tokens.specs.declared.language.LinuxVersion.{LinuxVersion}
use Rattle.kc_tokens.specs.declared.language.LinuxVersion.TheVariants.{Unknown, V6_1}
use Rattle.kc_dotconfig_model.specs.declared.notice.NoticeKind.TheVariants.{Escape}
use Rattle.kc_dotconfig_model.specs.ConfigFiles.{notices_from}
use Rattle.kc_dotconfig_model.specs.between.LineMeanings.{line_meaning}

-- a file's assignment and its notices, if no line is malformed
abbrev read : FileFormat → Tree → List ℕ → Option (List (Option UserValue) × List (ℕ × NoticeKind))
read format tree bytes =
    option_map (λ (meanings : List LineMeaning). (file_assignment tree meanings, notices_from 1 meanings)) (file_meanings format tree bytes)

abbrev escaped : List ℕ → FileFormat
escaped prefix = record { prefix = prefix; strings = Escaped }

abbrev config : FileFormat
config = escaped (codes "CONFIG_")

-- where strings are raw
abbrev raw : FileFormat
raw = record { prefix = codes "CONFIG_"; strings = Raw }

abbrev assigning : List (Option UserValue) → Option (List (Option UserValue) × List (ℕ × NoticeKind))
assigning users = Some (users, [])

strings : (read config tree_string (codes "CONFIG_S=\"\"\n") ≡ assigning (writes [] ∷ []))
    × (read config tree_string (codes "CONFIG_S=\"a\\\"b\\\\c\"\n") ≡ assigning (writes (codes "a\"b\\c") ∷ []))
    × (read config tree_string (codes "CONFIG_S=\"a\"b\"\n") ≡ Some (None ∷ [], (1, NotOfType) ∷ []))
    × (read config tree_string (codes "CONFIG_S=\"a\"b\n") ≡ Some (None ∷ [], (1, NotOfType) ∷ []))
    × (read config tree_string (codes "CONFIG_S=\"ab") ≡ Some (None ∷ [], (1, NotOfType) ∷ []))
unfolding line_meaning
strings = (refl, refl, refl, refl, refl)

-- the tree of one string in a language of Linux
abbrev linux_string : LinuxVersion → Tree
linux_string version = record tree_string { language = Linux version }

-- a text with the notice Escape on line 1
abbrev noticed : List ℕ → Option (List (Option UserValue) × List (ℕ × NoticeKind))
noticed text = Some (writes text ∷ [], (1, Escape) ∷ [])

-- a `\` before another byte than `"` and `\` is noticed, and assigns what it does without the notice
escapes : (read config (linux_string Unknown) (codes "CONFIG_S=\"a\\nb\"\n") ≡ noticed (codes "anb"))
    × (read config (linux_string V6_1) (codes "CONFIG_S=\"\\x\"\n") ≡ noticed (codes "x"))
    × (read config (linux_string V6_12) (codes "CONFIG_S=\"\\ \"\n") ≡ noticed (codes " "))
    × (read config (linux_string Unknown) (codes "CONFIG_S=\"\\\\\\\"\\\\n\"\n") ≡ assigning (writes (codes "\\\"\\n") ∷ []))
    × (read config (linux_string Unknown) (codes "CONFIG_S=\"\\\\\\n\"\n") ≡ noticed (codes "\\n"))
    × (read config (linux_string Unknown) (codes "CONFIG_S=\"\\n\\n\"\n") ≡ noticed (codes "nn"))
    × (read config (linux_string Unknown) (codes "CONFIG_S=\"\\na\"b\"\n") ≡ Some (None ∷ [], (1, NotOfType) ∷ []))
    × (read config (linux_string Unknown) (codes "CONFIG_S=\"a\\\"\n") ≡ Some (None ∷ [], (1, NotOfType) ∷ []))
    × (read config (linux_string Unknown) (codes "CONFIG_T=\"\\n\"\n") ≡ Some (None ∷ [], (1, UnknownSymbol) ∷ []))
    × (read config (linux_string Unknown) (codes "CONFIG_S=\"\\n\"\nCONFIG_S=\"b\"\n") ≡ noticed (codes "b"))
    × (read config tree_string (codes "CONFIG_S=\"a\\nb\"\n") ≡ assigning (writes (codes "anb") ∷ []))
    × (read raw (linux_string Unknown) (codes "CONFIG_S=\"a\\nb\"\n") ≡ assigning (writes (codes "a\\nb") ∷ []))
unfolding line_meaning
escapes = (refl, refl, refl, refl, refl, refl, refl, refl, refl, refl, refl, refl)

-- of a raw string the first and the last byte are quotes, and the text is what is between them
raw_strings : (read raw tree_string (codes "CONFIG_S=\"\"\n") ≡ assigning (writes [] ∷ []))
    × (read raw tree_string (codes "CONFIG_S=\"a\\\"b\\\\c\"\n") ≡ assigning (writes (codes "a\\\"b\\\\c") ∷ []))
    × (read raw tree_string (codes "CONFIG_S=\"a\"b\" \n") ≡ assigning (writes (codes "a\"b") ∷ []))
    × (read raw tree_string (codes "CONFIG_S=\"\\\"\n") ≡ assigning (writes (codes "\\") ∷ []))
    × (read raw tree_string (codes "CONFIG_S=\"\"\"\n") ≡ assigning (writes (codes "\"") ∷ []))
unfolding line_meaning
raw_strings = (refl, refl, refl, refl, refl)

-- the member last assigned `y`; `n` of a member assigns nothing
members : (read config tree_pick (codes "CONFIG_A=y\nCONFIG_C=y\n") ≡ assigning (Some (MemberUser 2) ∷ None ∷ []))
    × (read config tree_pick (codes "CONFIG_C=y\nCONFIG_A=y\nCONFIG_A=n\n# CONFIG_A is not set\n") ≡ assigning (Some (MemberUser 0) ∷ None ∷ []))
    × (read config tree_pick (codes "# CONFIG_B is not set\n") ≡ assigning (None ∷ None ∷ []))
    × (read config tree_pick (codes "CONFIG_X=y\nCONFIG_C=y\n") ≡ assigning (Some (MemberUser 2) ∷ sets Y ∷ []))
unfolding line_meaning
members = (refl, refl, refl, refl)

-- a line that assigns nothing leaves what was assigned
notices_leave_assignments : (read config tree_a (codes "CONFIG_GONE=1\nCONFIG_A=m\n") ≡ Some (None ∷ [], (1, UnknownSymbol) ∷ (2, NotOfType) ∷ []))
    × (read config tree_a (codes "CONFIG_A=y\nCONFIG_A=m\n# CONFIG_GONE is not set\n") ≡ Some
    (sets Y ∷ [], (2, NotOfType) ∷ (3, UnknownSymbol) ∷ []))
unfolding line_meaning
notices_leave_assignments = (refl, refl)

names_are_as_written : (line_meaning config tree_a (codes "CONFIG_A =y") ≡ Some (notice UnknownSymbol))
    × (line_meaning config tree_a (codes "# CONFIG_A=B is not set") ≡ Some (notice UnknownSymbol))
    × (line_meaning config tree_a (codes "# CONFIG_A is not set is not set") ≡ Some silent)
    × (line_meaning config tree_a (codes " # CONFIG_A is not set") ≡ Some silent)
    × (line_meaning config tree_a (codes "#CONFIG_A is not set") ≡ Some silent)
unfolding line_meaning
names_are_as_written = (refl, refl, refl, refl, refl)

-- without a prefix a name is in the file as in the tree, and a line that begins with `#` is a comment or an unset line
names_without_prefix : (line_meaning (escaped []) tree_a (codes "A=y") ≡ Some (assigns 0 (TriUser Y)))
    × (line_meaning (escaped []) tree_a (codes "# A is not set") ≡ Some (assigns 0 (TriUser N)))
    × (line_meaning (escaped []) tree_a (codes "CONFIG_A=y") ≡ Some (notice UnknownSymbol))
    × (line_meaning (escaped []) tree_a (codes " A=y") ≡ Some (notice UnknownSymbol))
    × (line_meaning (escaped []) tree_a (codes "# A=y") ≡ Some silent) × (line_meaning (escaped []) tree_a (codes "\t#A=y") ≡ Some silent)
    × (line_meaning (escaped []) tree_a (codes " # A is not set") ≡ Some silent)
    × (line_meaning (escaped []) tree_a (codes "# A=y is not set") ≡ Some (notice UnknownSymbol))
    × (line_meaning (escaped []) tree_a (codes "=y") ≡ None) × (line_meaning (escaped []) tree_a (codes "A") ≡ None)
unfolding line_meaning
names_without_prefix = (refl, refl, refl, refl, refl, refl, refl, refl, refl, refl)

-- a later file over an earlier one
later_files_win : (assigned_over (assigns 0 (TriUser N) ∷ []) (file_assignment tree_a (assigns 0 (TriUser Y) ∷ [])) ≡ sets N ∷ [])
    × (merged_users (sets N ∷ []) (sets Y ∷ []) ≡ sets N ∷ []) × (merged_users (None ∷ []) (sets Y ∷ []) ≡ sets Y ∷ [])
later_files_win = (refl, refl, refl)
