-- A row on a tree in the language of Linux.
use Rattle.kc_tree_model.proofs.Common.{◌≡◌, ℕ, Bool, true, false, List, [], ◌∷◌, ◌++◌, Option, Some, None, refl, map, codes, option_map, Unknown, Expr, alone, quoted, both, TreeKind, TreeFault, LeftOut, Malformed, Files, Tree, Symbol, Default}
use Rattle.std.specs.Str.{is_utf8, chars}
use Rattle.kc_expr.specs.Lookup.{index_of_name}
use Rattle.kc_tokens.specs.Token.{next_token}
use Rattle.kc_expr.specs.Grammar.{read_expr}
use Rattle.kc_tree_model.specs.LogicalLines.{lines_of}
use Rattle.kc_tree_model.specs.Limits.{source_fault}
use Rattle.kc_tree_model.specs.TreeReading.{statement_on_line, reading}
use Rattle.kc_tree_model.specs.TreeFaults.{tree_faults, first_tree_fault}
use Rattle.kc_tree_model.specs.TreeFiles.{linux_files}
use Rattle.kc_tree_model.specs.Contents.{tree_of_groups, index_of_number}
use Rattle.kc_tree_model.proofs.Rows.Trees.{word}

-- a tree of one file in the language of Linux
abbrev linux_file : List ℕ → Files
linux_file text = linux_files Unknown ((codes "Kconfig", text) ∷ [])

abbrev linux_tree : List ℕ → Tree
linux_tree text = tree_of_groups (linux_file text).language (reading (linux_file text) (codes "Kconfig")).read

-- a later definition of a choice's member
abbrev member_again : List ℕ → List ℕ
member_again lines = codes "choice\n\tprompt \"c\"\nconfig A\n\tbool \"a\"\nconfig B\n\tbool \"b\"\nendchoice\nconfig S\n\tbool\nconfig A\n" ++ lines

selects_under_its_own_dependency : map (λ (x : Symbol). x.selectors) (linux_tree (member_again (codes "\tdepends on X\n\tselect S if Y\n"))).symbols
    ≡ [] ∷ [] ∷ (record { by = 0; condition = both (word (codes "X")) (word (codes "Y")) } ∷ []) ∷ []
unfolding next_token is_utf8 chars read_expr lines_of source_fault statement_on_line reading lib.Utf8.encode tree_of_groups index_of_name index_of_number
selects_under_its_own_dependency = refl

-- a default of the environment between two others, in the order of the lines
abbrev from_environment : List ℕ → List ℕ
from_environment lines = codes "config A\n\tstring\n\tdefault \"a\" if X\n\toption env " ++ lines ++ codes "\n\tdefault \"c\"\n"

an_environment_default : map (λ (x : Symbol). map {B = Expr × Bool} (λ (d : Default). (d.value, d.from_environment)) x.defaults) (linux_tree (from_environment (codes "\"b\""))).symbols
    ≡ ((alone (quoted (codes "a")), false) ∷ (alone (quoted (codes "b")), true) ∷ (alone (quoted (codes "c")), false) ∷ []) ∷ []
unfolding next_token is_utf8 chars read_expr lines_of source_fault statement_on_line reading lib.Utf8.encode tree_of_groups index_of_name index_of_number
an_environment_default = refl

-- the kind of the fault of a line `option env` with these tokens
abbrev environment_fault : List ℕ → Option TreeKind
environment_fault tokens = option_map (λ (f : TreeFault). f.kind) (first_tree_fault (linux_file (codes "config A\n\tstring\n\toption env" ++ tokens ++ codes "\n")) (codes "Kconfig"))

environment_faults : map environment_fault (codes " \"X\"" ∷ codes " 'X'" ∷ codes " \"X\" Y" ∷ codes "=\"X\"" ∷ codes " X" ∷ codes " " ∷ [])
    ≡ None ∷ None ∷ Some Malformed ∷ Some LeftOut ∷ Some LeftOut ∷ Some LeftOut ∷ []
unfolding next_token is_utf8 chars read_expr lines_of source_fault statement_on_line reading tree_faults first_tree_fault lib.Utf8.encode
environment_faults = refl
