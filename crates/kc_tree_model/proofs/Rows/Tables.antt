-- The statement or fault of each line in each place.
use Rattle.kc_tree_model.proofs.Common.{◌≡◌, ℕ, List, [], ◌∷◌, ◌++◌, Option, Some, None, refl, map, codes, option_map, strict_files, TreeKind, TreeFault, LeftOut, Malformed, Misplaced, ModulesType, NoType, StrayEnd, UnknownStatement}
use Rattle.std.specs.Str.{is_utf8, chars}
use Rattle.kc_tree_model.specs.Contents.{index_of_number}
use Rattle.kc_expr.specs.Lookup.{index_of_name}
use Rattle.kc_tokens.specs.Token.{next_token}
use Rattle.kc_expr.specs.Grammar.{read_expr}
use Rattle.kc_tree_model.specs.declared.fault.TreeKind.TheVariants.{RangeType, TypeConflict, Unclosed}
use Rattle.kc_tree_model.specs.LogicalLines.{lines_of}
use Rattle.kc_tree_model.specs.Limits.{source_fault}
use Rattle.kc_tree_model.specs.TreeReading.{statement_on_line, reading}
use Rattle.kc_tree_model.specs.TreeFaults.{tree_faults, first_tree_fault}

abbrev lines : List (List ℕ)
lines =
    (codes "config A")
    ∷ (codes "menuconfig A")
    ∷ (codes "choice")
    ∷ (codes "endchoice")
    ∷ (codes "menu \"m\"")
    ∷ (codes "endmenu")
    ∷ (codes "if A")
    ∷ (codes "endif")
    ∷ (codes "comment \"c\"")
    ∷ (codes "source \"a\"")
    ∷ (codes "source a")
    ∷ (codes "mainmenu \"m\"")
    ∷ (codes "bool")
    ∷ (codes "bool \"p\"")
    ∷ (codes "bool 'p' if A")
    ∷ (codes "tristate")
    ∷ (codes "string")
    ∷ (codes "hex")
    ∷ (codes "int")
    ∷ (codes "int \"p\"")
    ∷ (codes "def_bool y")
    ∷ (codes "def_tristate m if A")
    ∷ (codes "prompt \"p\"")
    ∷ (codes "default y")
    ∷ (codes "default A if B")
    ∷ (codes "depends on A")
    ∷ (codes "select B")
    ∷ (codes "imply B if A")
    ∷ (codes "range 1 2")
    ∷ (codes "visible if A")
    ∷ (codes "help")
    ∷ (codes "---help---")
    ∷ (codes "modules")
    ∷ (codes "option modules")
    ∷ (codes "option foo")
    ∷ (codes "option")
    ∷ (codes "option env=\"X\"")
    ∷ (codes "option defconfig_list")
    ∷ (codes "option allnoconfig_y")
    ∷ (codes "option \"env\"")
    ∷ (codes "def_int 1")
    ∷ (codes "def_hex 1")
    ∷ (codes "def_string \"x\"")
    ∷ (codes "rsource \"a\"")
    ∷ (codes "osource \"a\"")
    ∷ (codes "orsource \"a\"")
    ∷ (codes "optional")
    ∷ (codes "transitional")
    ∷ (codes "choice C")
    ∷ (codes "choice \"C\"")
    ∷ (codes "source \"a*\"")
    ∷ (codes "source \"a?\"")
    ∷ (codes "source 'a['")
    ∷ (codes "source x \"a*\"")
    ∷ (codes "foo")
    ∷ (codes "on")
    ∷ (codes "depends A")
    ∷ (codes "visible A")
    ∷ (codes "prompt")
    ∷ (codes "endif x")
    ∷ (codes "endmenu \"m\"")
    ∷ (codes "endchoice A")
    ∷ (codes "menu m")
    ∷ (codes "menu")
    ∷ (codes "if")
    ∷ (codes "comment")
    ∷ (codes "mainmenu m")
    ∷ (codes "source =")
    ∷ (codes "def_bool")
    ∷ (codes "default")
    ∷ (codes "range 1")
    ∷ (codes "range (1) 2")
    ∷ (codes "select")
    ∷ (codes "imply n")
    ∷ (codes "select \"B\"")
    ∷ (codes "config")
    ∷ (codes "config n")
    ∷ (codes "config m")
    ∷ (codes "config y")
    ∷ (codes "config A-B")
    ∷ (codes "config A B")
    ∷ (codes "config \"A\"")
    ∷ (codes "bool A")
    ∷ (codes "int x")
    ∷ (codes "help x")
    ∷ (codes "modules x")
    ∷ (codes "option modules x")
    ∷ (codes "depends on A if B")
    ∷ (codes "default A if")
    ∷ (codes "prompt \"p\" \"q\"")
    ∷ (codes "bool \"p\" if A B")
    ∷ (codes "visible if A if B")
    ∷ []

-- the kind of the fault of a tree of these lines, which may source two files
abbrev kind_of : List ℕ → List ℕ → Option TreeKind
kind_of front line = option_map (λ (f : TreeFault). f.kind) (first_tree_fault
    (strict_files ((codes "Kconfig", front ++ line) ∷ (codes "a", []) ∷ (codes "b", codes "if B\nendif\n") ∷ [])) (codes "Kconfig"))

outside : map (kind_of []) lines
    ≡ Some NoType ∷ Some NoType ∷ Some Unclosed ∷ Some StrayEnd ∷ Some Unclosed ∷ Some StrayEnd ∷ Some Unclosed ∷ Some StrayEnd ∷ None ∷ None ∷ None ∷ None
    ∷ Some Misplaced ∷ Some Misplaced ∷ Some Misplaced ∷ Some Misplaced ∷ Some Misplaced ∷ Some Misplaced ∷ Some Misplaced ∷ Some Misplaced ∷ Some Misplaced
    ∷ Some Misplaced ∷ Some Misplaced ∷ Some Misplaced ∷ Some Misplaced ∷ Some Misplaced ∷ Some Misplaced ∷ Some Misplaced ∷ Some Misplaced ∷ Some Misplaced
    ∷ Some Misplaced ∷ Some Misplaced ∷ Some Misplaced ∷ Some Misplaced ∷ Some Misplaced ∷ Some Misplaced ∷ Some LeftOut ∷ Some LeftOut ∷ Some LeftOut
    ∷ Some Misplaced ∷ Some LeftOut ∷ Some LeftOut ∷ Some LeftOut ∷ Some LeftOut ∷ Some LeftOut ∷ Some LeftOut ∷ Some LeftOut ∷ Some LeftOut ∷ Some LeftOut
    ∷ Some Malformed ∷ Some LeftOut ∷ Some LeftOut ∷ Some LeftOut ∷ Some Malformed ∷ Some UnknownStatement ∷ Some UnknownStatement ∷ Some Misplaced ∷ Some
    Misplaced ∷ Some Misplaced ∷ Some StrayEnd ∷ Some StrayEnd ∷ Some StrayEnd ∷ Some Malformed ∷ Some Malformed ∷ Some Malformed ∷ Some Malformed ∷ Some
    Malformed ∷ Some Malformed ∷ Some Misplaced ∷ Some Misplaced ∷ Some Misplaced ∷ Some Misplaced ∷ Some Misplaced ∷ Some Misplaced ∷ Some Misplaced ∷ Some
    Malformed ∷ Some Malformed ∷ Some Malformed ∷ Some Malformed ∷ Some Malformed ∷ Some Malformed ∷ Some Malformed ∷ Some Misplaced ∷ Some Misplaced ∷ Some
    Misplaced ∷ Some Misplaced ∷ Some Misplaced ∷ Some Misplaced ∷ Some Misplaced ∷ Some Misplaced ∷ Some Misplaced ∷ Some Misplaced ∷ []
unfolding next_token is_utf8 chars read_expr lines_of source_fault statement_on_line reading tree_faults first_tree_fault lib.Utf8.encode
outside = refl

in_a_config : map (kind_of (codes "config X\n\tbool\n")) lines
    ≡ Some NoType ∷ Some NoType ∷ Some Unclosed ∷ Some StrayEnd ∷ Some Unclosed ∷ Some StrayEnd ∷ Some Unclosed ∷ Some StrayEnd ∷ None ∷ None ∷ None ∷ None
    ∷ None ∷ None ∷ None ∷ Some TypeConflict ∷ Some TypeConflict ∷ Some TypeConflict ∷ Some TypeConflict ∷ Some TypeConflict ∷ None ∷ Some TypeConflict
    ∷ None ∷ None ∷ None ∷ None ∷ None ∷ None ∷ Some RangeType ∷ Some Misplaced ∷ None ∷ None ∷ Some ModulesType ∷ Some ModulesType ∷ Some Malformed ∷ Some
    Malformed ∷ Some LeftOut ∷ Some LeftOut ∷ Some LeftOut ∷ Some Malformed ∷ Some LeftOut ∷ Some LeftOut ∷ Some LeftOut ∷ Some LeftOut ∷ Some LeftOut
    ∷ Some LeftOut ∷ Some LeftOut ∷ Some LeftOut ∷ Some LeftOut ∷ Some Malformed ∷ Some LeftOut ∷ Some LeftOut ∷ Some LeftOut ∷ Some Malformed ∷ Some
    UnknownStatement ∷ Some UnknownStatement ∷ Some Malformed ∷ Some Misplaced ∷ Some Malformed ∷ Some StrayEnd ∷ Some StrayEnd ∷ Some StrayEnd ∷ Some
    Malformed ∷ Some Malformed ∷ Some Malformed ∷ Some Malformed ∷ Some Malformed ∷ Some Malformed ∷ Some Malformed ∷ Some Malformed ∷ Some Malformed ∷ Some
    Malformed ∷ Some Malformed ∷ Some Malformed ∷ Some Malformed ∷ Some Malformed ∷ Some Malformed ∷ Some Malformed ∷ Some Malformed ∷ Some Malformed ∷ Some
    Malformed ∷ Some Malformed ∷ Some Malformed ∷ Some Malformed ∷ Some Malformed ∷ Some Malformed ∷ Some Malformed ∷ Some Malformed ∷ Some Malformed ∷ Some
    Malformed ∷ Some Malformed ∷ Some Misplaced ∷ []
unfolding next_token is_utf8 chars read_expr lines_of source_fault statement_on_line reading tree_faults first_tree_fault lib.Utf8.encode
in_a_config = refl

in_a_choice : map (kind_of (codes "choice\n\tdepends on Q\n")) lines
    ≡ Some Unclosed ∷ Some Unclosed ∷ Some Misplaced ∷ None ∷ Some Misplaced ∷ Some StrayEnd ∷ Some Unclosed ∷ Some StrayEnd ∷ Some Unclosed ∷ Some Unclosed
    ∷ Some Unclosed ∷ Some Misplaced ∷ Some Unclosed ∷ Some Unclosed ∷ Some Unclosed ∷ Some LeftOut ∷ Some Misplaced ∷ Some Misplaced ∷ Some Misplaced
    ∷ Some Misplaced ∷ Some Misplaced ∷ Some Misplaced ∷ Some Unclosed ∷ Some Unclosed ∷ Some Unclosed ∷ Some Unclosed ∷ Some Misplaced ∷ Some Misplaced
    ∷ Some Misplaced ∷ Some Misplaced ∷ Some Unclosed ∷ Some Unclosed ∷ Some Misplaced ∷ Some Misplaced ∷ Some Misplaced ∷ Some Misplaced ∷ Some LeftOut
    ∷ Some LeftOut ∷ Some LeftOut ∷ Some Misplaced ∷ Some LeftOut ∷ Some LeftOut ∷ Some LeftOut ∷ Some LeftOut ∷ Some LeftOut ∷ Some LeftOut ∷ Some LeftOut
    ∷ Some LeftOut ∷ Some LeftOut ∷ Some Misplaced ∷ Some LeftOut ∷ Some LeftOut ∷ Some LeftOut ∷ Some Malformed ∷ Some UnknownStatement ∷ Some
    UnknownStatement ∷ Some Malformed ∷ Some Misplaced ∷ Some Malformed ∷ Some StrayEnd ∷ Some StrayEnd ∷ Some Malformed ∷ Some Misplaced ∷ Some Misplaced
    ∷ Some Malformed ∷ Some Malformed ∷ Some Misplaced ∷ Some Malformed ∷ Some Misplaced ∷ Some Malformed ∷ Some Misplaced ∷ Some Misplaced ∷ Some Misplaced
    ∷ Some Misplaced ∷ Some Misplaced ∷ Some Malformed ∷ Some Malformed ∷ Some Malformed ∷ Some Malformed ∷ Some Malformed ∷ Some Malformed ∷ Some Malformed
    ∷ Some Malformed ∷ Some Misplaced ∷ Some Malformed ∷ Some Misplaced ∷ Some Misplaced ∷ Some Malformed ∷ Some Malformed ∷ Some Malformed ∷ Some Malformed
    ∷ Some Misplaced ∷ []
unfolding next_token is_utf8 chars read_expr lines_of source_fault statement_on_line reading tree_faults first_tree_fault lib.Utf8.encode
in_a_choice = refl

in_a_menu : map (kind_of (codes "menu \"m\"\n")) lines
    ≡ Some Unclosed ∷ Some Unclosed ∷ Some Unclosed ∷ Some StrayEnd ∷ Some Unclosed ∷ None ∷ Some Unclosed ∷ Some StrayEnd ∷ Some Unclosed ∷ Some Unclosed
    ∷ Some Unclosed ∷ Some Misplaced ∷ Some Misplaced ∷ Some Misplaced ∷ Some Misplaced ∷ Some Misplaced ∷ Some Misplaced ∷ Some Misplaced ∷ Some Misplaced
    ∷ Some Misplaced ∷ Some Misplaced ∷ Some Misplaced ∷ Some Misplaced ∷ Some Misplaced ∷ Some Misplaced ∷ Some Unclosed ∷ Some Misplaced ∷ Some Misplaced
    ∷ Some Misplaced ∷ Some Unclosed ∷ Some Misplaced ∷ Some Misplaced ∷ Some Misplaced ∷ Some Misplaced ∷ Some Misplaced ∷ Some Misplaced ∷ Some LeftOut
    ∷ Some LeftOut ∷ Some LeftOut ∷ Some Misplaced ∷ Some LeftOut ∷ Some LeftOut ∷ Some LeftOut ∷ Some LeftOut ∷ Some LeftOut ∷ Some LeftOut ∷ Some LeftOut
    ∷ Some LeftOut ∷ Some LeftOut ∷ Some Malformed ∷ Some LeftOut ∷ Some LeftOut ∷ Some LeftOut ∷ Some Malformed ∷ Some UnknownStatement ∷ Some
    UnknownStatement ∷ Some Malformed ∷ Some Malformed ∷ Some Misplaced ∷ Some StrayEnd ∷ Some Malformed ∷ Some StrayEnd ∷ Some Malformed ∷ Some Malformed
    ∷ Some Malformed ∷ Some Malformed ∷ Some Misplaced ∷ Some Malformed ∷ Some Misplaced ∷ Some Misplaced ∷ Some Misplaced ∷ Some Misplaced ∷ Some Misplaced
    ∷ Some Misplaced ∷ Some Misplaced ∷ Some Malformed ∷ Some Malformed ∷ Some Malformed ∷ Some Malformed ∷ Some Malformed ∷ Some Malformed ∷ Some Malformed
    ∷ Some Misplaced ∷ Some Misplaced ∷ Some Misplaced ∷ Some Misplaced ∷ Some Misplaced ∷ Some Malformed ∷ Some Misplaced ∷ Some Misplaced ∷ Some Misplaced
    ∷ Some Malformed ∷ []
unfolding next_token is_utf8 chars read_expr lines_of source_fault statement_on_line reading tree_faults first_tree_fault lib.Utf8.encode
in_a_menu = refl

in_an_if : map (kind_of (codes "if X\n")) lines
    ≡ Some Unclosed ∷ Some Unclosed ∷ Some Unclosed ∷ Some StrayEnd ∷ Some Unclosed ∷ Some StrayEnd ∷ Some Unclosed ∷ None ∷ Some Unclosed ∷ Some Unclosed
    ∷ Some Unclosed ∷ Some Misplaced ∷ Some Misplaced ∷ Some Misplaced ∷ Some Misplaced ∷ Some Misplaced ∷ Some Misplaced ∷ Some Misplaced ∷ Some Misplaced
    ∷ Some Misplaced ∷ Some Misplaced ∷ Some Misplaced ∷ Some Misplaced ∷ Some Misplaced ∷ Some Misplaced ∷ Some Misplaced ∷ Some Misplaced ∷ Some Misplaced
    ∷ Some Misplaced ∷ Some Misplaced ∷ Some Misplaced ∷ Some Misplaced ∷ Some Misplaced ∷ Some Misplaced ∷ Some Misplaced ∷ Some Misplaced ∷ Some LeftOut
    ∷ Some LeftOut ∷ Some LeftOut ∷ Some Misplaced ∷ Some LeftOut ∷ Some LeftOut ∷ Some LeftOut ∷ Some LeftOut ∷ Some LeftOut ∷ Some LeftOut ∷ Some LeftOut
    ∷ Some LeftOut ∷ Some LeftOut ∷ Some Malformed ∷ Some LeftOut ∷ Some LeftOut ∷ Some LeftOut ∷ Some Malformed ∷ Some UnknownStatement ∷ Some
    UnknownStatement ∷ Some Misplaced ∷ Some Misplaced ∷ Some Misplaced ∷ Some Malformed ∷ Some StrayEnd ∷ Some StrayEnd ∷ Some Malformed ∷ Some Malformed
    ∷ Some Malformed ∷ Some Malformed ∷ Some Misplaced ∷ Some Malformed ∷ Some Misplaced ∷ Some Misplaced ∷ Some Misplaced ∷ Some Misplaced ∷ Some Misplaced
    ∷ Some Misplaced ∷ Some Misplaced ∷ Some Malformed ∷ Some Malformed ∷ Some Malformed ∷ Some Malformed ∷ Some Malformed ∷ Some Malformed ∷ Some Malformed
    ∷ Some Misplaced ∷ Some Misplaced ∷ Some Misplaced ∷ Some Misplaced ∷ Some Misplaced ∷ Some Misplaced ∷ Some Misplaced ∷ Some Misplaced ∷ Some Misplaced
    ∷ Some Misplaced ∷ []
unfolding next_token is_utf8 chars read_expr lines_of source_fault statement_on_line reading tree_faults first_tree_fault lib.Utf8.encode
in_an_if = refl

in_a_comment : map (kind_of (codes "comment \"c\"\n")) lines
    ≡ Some NoType ∷ Some NoType ∷ Some Unclosed ∷ Some StrayEnd ∷ Some Unclosed ∷ Some StrayEnd ∷ Some Unclosed ∷ Some StrayEnd ∷ None ∷ None ∷ None ∷ None
    ∷ Some Misplaced ∷ Some Misplaced ∷ Some Misplaced ∷ Some Misplaced ∷ Some Misplaced ∷ Some Misplaced ∷ Some Misplaced ∷ Some Misplaced ∷ Some Misplaced
    ∷ Some Misplaced ∷ Some Misplaced ∷ Some Misplaced ∷ Some Misplaced ∷ None ∷ Some Misplaced ∷ Some Misplaced ∷ Some Misplaced ∷ Some Misplaced ∷ Some
    Misplaced ∷ Some Misplaced ∷ Some Misplaced ∷ Some Misplaced ∷ Some Misplaced ∷ Some Misplaced ∷ Some LeftOut ∷ Some LeftOut ∷ Some LeftOut ∷ Some
    Misplaced ∷ Some LeftOut ∷ Some LeftOut ∷ Some LeftOut ∷ Some LeftOut ∷ Some LeftOut ∷ Some LeftOut ∷ Some LeftOut ∷ Some LeftOut ∷ Some LeftOut ∷ Some
    Malformed ∷ Some LeftOut ∷ Some LeftOut ∷ Some LeftOut ∷ Some Malformed ∷ Some UnknownStatement ∷ Some UnknownStatement ∷ Some Malformed ∷ Some
    Misplaced ∷ Some Misplaced ∷ Some StrayEnd ∷ Some StrayEnd ∷ Some StrayEnd ∷ Some Malformed ∷ Some Malformed ∷ Some Malformed ∷ Some Malformed ∷ Some
    Malformed ∷ Some Malformed ∷ Some Misplaced ∷ Some Misplaced ∷ Some Misplaced ∷ Some Misplaced ∷ Some Misplaced ∷ Some Misplaced ∷ Some Misplaced ∷ Some
    Malformed ∷ Some Malformed ∷ Some Malformed ∷ Some Malformed ∷ Some Malformed ∷ Some Malformed ∷ Some Malformed ∷ Some Misplaced ∷ Some Misplaced ∷ Some
    Misplaced ∷ Some Misplaced ∷ Some Misplaced ∷ Some Malformed ∷ Some Misplaced ∷ Some Misplaced ∷ Some Misplaced ∷ Some Misplaced ∷ []
unfolding next_token is_utf8 chars read_expr lines_of source_fault statement_on_line reading tree_faults first_tree_fault lib.Utf8.encode
in_a_comment = refl

in_a_member : map (kind_of (codes "choice\nconfig X\n")) lines
    ≡ Some Unclosed ∷ Some Unclosed ∷ Some Misplaced ∷ None ∷ Some Misplaced ∷ Some StrayEnd ∷ Some Unclosed ∷ Some StrayEnd ∷ Some Unclosed ∷ Some Unclosed
    ∷ Some Unclosed ∷ Some Misplaced ∷ Some Unclosed ∷ Some Unclosed ∷ Some Unclosed ∷ Some Unclosed ∷ Some Unclosed ∷ Some Unclosed ∷ Some Unclosed ∷ Some
    Unclosed ∷ Some Unclosed ∷ Some Unclosed ∷ Some Unclosed ∷ Some Unclosed ∷ Some Unclosed ∷ Some Unclosed ∷ Some Unclosed ∷ Some Unclosed ∷ Some Unclosed
    ∷ Some Misplaced ∷ Some Unclosed ∷ Some Unclosed ∷ Some Unclosed ∷ Some Unclosed ∷ Some Malformed ∷ Some Malformed ∷ Some LeftOut ∷ Some LeftOut ∷ Some
    LeftOut ∷ Some Malformed ∷ Some LeftOut ∷ Some LeftOut ∷ Some LeftOut ∷ Some LeftOut ∷ Some LeftOut ∷ Some LeftOut ∷ Some LeftOut ∷ Some LeftOut ∷ Some
    LeftOut ∷ Some Misplaced ∷ Some LeftOut ∷ Some LeftOut ∷ Some LeftOut ∷ Some Malformed ∷ Some UnknownStatement ∷ Some UnknownStatement ∷ Some Malformed
    ∷ Some Misplaced ∷ Some Malformed ∷ Some StrayEnd ∷ Some StrayEnd ∷ Some Malformed ∷ Some Misplaced ∷ Some Misplaced ∷ Some Malformed ∷ Some Malformed
    ∷ Some Misplaced ∷ Some Malformed ∷ Some Malformed ∷ Some Malformed ∷ Some Malformed ∷ Some Malformed ∷ Some Malformed ∷ Some Malformed ∷ Some Malformed
    ∷ Some Malformed ∷ Some Malformed ∷ Some Malformed ∷ Some Malformed ∷ Some Malformed ∷ Some Malformed ∷ Some Malformed ∷ Some Malformed ∷ Some Malformed
    ∷ Some Malformed ∷ Some Malformed ∷ Some Malformed ∷ Some Malformed ∷ Some Malformed ∷ Some Malformed ∷ Some Malformed ∷ Some Misplaced ∷ []
unfolding next_token is_utf8 chars read_expr lines_of source_fault statement_on_line reading tree_faults first_tree_fault
    lib.Utf8.encode index_of_name index_of_number
in_a_member = refl

in_an_if_of_a_choice : map (kind_of (codes "choice\nif X\n")) lines
    ≡ Some Unclosed ∷ Some Unclosed ∷ Some Misplaced ∷ Some StrayEnd ∷ Some Misplaced ∷ Some StrayEnd ∷ Some Unclosed ∷ Some Unclosed ∷ Some Unclosed ∷ Some
    Unclosed ∷ Some Unclosed ∷ Some Misplaced ∷ Some Misplaced ∷ Some Misplaced ∷ Some Misplaced ∷ Some Misplaced ∷ Some Misplaced ∷ Some Misplaced ∷ Some
    Misplaced ∷ Some Misplaced ∷ Some Misplaced ∷ Some Misplaced ∷ Some Misplaced ∷ Some Misplaced ∷ Some Misplaced ∷ Some Misplaced ∷ Some Misplaced ∷ Some
    Misplaced ∷ Some Misplaced ∷ Some Misplaced ∷ Some Misplaced ∷ Some Misplaced ∷ Some Misplaced ∷ Some Misplaced ∷ Some Misplaced ∷ Some Misplaced ∷ Some
    LeftOut ∷ Some LeftOut ∷ Some LeftOut ∷ Some Misplaced ∷ Some LeftOut ∷ Some LeftOut ∷ Some LeftOut ∷ Some LeftOut ∷ Some LeftOut ∷ Some LeftOut ∷ Some
    LeftOut ∷ Some LeftOut ∷ Some LeftOut ∷ Some Misplaced ∷ Some LeftOut ∷ Some LeftOut ∷ Some LeftOut ∷ Some Malformed ∷ Some UnknownStatement ∷ Some
    UnknownStatement ∷ Some Misplaced ∷ Some Misplaced ∷ Some Misplaced ∷ Some Malformed ∷ Some StrayEnd ∷ Some StrayEnd ∷ Some Misplaced ∷ Some Misplaced
    ∷ Some Malformed ∷ Some Malformed ∷ Some Misplaced ∷ Some Malformed ∷ Some Misplaced ∷ Some Misplaced ∷ Some Misplaced ∷ Some Misplaced ∷ Some Misplaced
    ∷ Some Misplaced ∷ Some Misplaced ∷ Some Malformed ∷ Some Malformed ∷ Some Malformed ∷ Some Malformed ∷ Some Malformed ∷ Some Malformed ∷ Some Malformed
    ∷ Some Misplaced ∷ Some Misplaced ∷ Some Misplaced ∷ Some Misplaced ∷ Some Misplaced ∷ Some Misplaced ∷ Some Misplaced ∷ Some Misplaced ∷ Some Misplaced
    ∷ Some Misplaced ∷ []
unfolding next_token is_utf8 chars read_expr lines_of source_fault statement_on_line reading tree_faults first_tree_fault lib.Utf8.encode
in_an_if_of_a_choice = refl

after_an_end : map (kind_of (codes "menu \"m\"\nendmenu\n")) lines
    ≡ Some NoType ∷ Some NoType ∷ Some Unclosed ∷ Some StrayEnd ∷ Some Unclosed ∷ Some StrayEnd ∷ Some Unclosed ∷ Some StrayEnd ∷ None ∷ None ∷ None ∷ None
    ∷ Some Misplaced ∷ Some Misplaced ∷ Some Misplaced ∷ Some Misplaced ∷ Some Misplaced ∷ Some Misplaced ∷ Some Misplaced ∷ Some Misplaced ∷ Some Misplaced
    ∷ Some Misplaced ∷ Some Misplaced ∷ Some Misplaced ∷ Some Misplaced ∷ Some Misplaced ∷ Some Misplaced ∷ Some Misplaced ∷ Some Misplaced ∷ Some Misplaced
    ∷ Some Misplaced ∷ Some Misplaced ∷ Some Misplaced ∷ Some Misplaced ∷ Some Misplaced ∷ Some Misplaced ∷ Some LeftOut ∷ Some LeftOut ∷ Some LeftOut
    ∷ Some Misplaced ∷ Some LeftOut ∷ Some LeftOut ∷ Some LeftOut ∷ Some LeftOut ∷ Some LeftOut ∷ Some LeftOut ∷ Some LeftOut ∷ Some LeftOut ∷ Some LeftOut
    ∷ Some Malformed ∷ Some LeftOut ∷ Some LeftOut ∷ Some LeftOut ∷ Some Malformed ∷ Some UnknownStatement ∷ Some UnknownStatement ∷ Some Misplaced ∷ Some
    Misplaced ∷ Some Misplaced ∷ Some StrayEnd ∷ Some StrayEnd ∷ Some StrayEnd ∷ Some Malformed ∷ Some Malformed ∷ Some Malformed ∷ Some Malformed ∷ Some
    Malformed ∷ Some Malformed ∷ Some Misplaced ∷ Some Misplaced ∷ Some Misplaced ∷ Some Misplaced ∷ Some Misplaced ∷ Some Misplaced ∷ Some Misplaced ∷ Some
    Malformed ∷ Some Malformed ∷ Some Malformed ∷ Some Malformed ∷ Some Malformed ∷ Some Malformed ∷ Some Malformed ∷ Some Misplaced ∷ Some Misplaced ∷ Some
    Misplaced ∷ Some Misplaced ∷ Some Misplaced ∷ Some Misplaced ∷ Some Misplaced ∷ Some Misplaced ∷ Some Misplaced ∷ Some Misplaced ∷ []
unfolding next_token is_utf8 chars read_expr lines_of source_fault statement_on_line reading tree_faults first_tree_fault lib.Utf8.encode
after_an_end = refl

after_a_source_in_a_menu : map (kind_of (codes "menu \"m\"\nsource b\n")) lines
    ≡ Some Unclosed ∷ Some Unclosed ∷ Some Unclosed ∷ Some StrayEnd ∷ Some Unclosed ∷ None ∷ Some Unclosed ∷ Some StrayEnd ∷ Some Unclosed ∷ Some Unclosed
    ∷ Some Unclosed ∷ Some Misplaced ∷ Some Misplaced ∷ Some Misplaced ∷ Some Misplaced ∷ Some Misplaced ∷ Some Misplaced ∷ Some Misplaced ∷ Some Misplaced
    ∷ Some Misplaced ∷ Some Misplaced ∷ Some Misplaced ∷ Some Misplaced ∷ Some Misplaced ∷ Some Misplaced ∷ Some Misplaced ∷ Some Misplaced ∷ Some Misplaced
    ∷ Some Misplaced ∷ Some Misplaced ∷ Some Misplaced ∷ Some Misplaced ∷ Some Misplaced ∷ Some Misplaced ∷ Some Misplaced ∷ Some Misplaced ∷ Some LeftOut
    ∷ Some LeftOut ∷ Some LeftOut ∷ Some Misplaced ∷ Some LeftOut ∷ Some LeftOut ∷ Some LeftOut ∷ Some LeftOut ∷ Some LeftOut ∷ Some LeftOut ∷ Some LeftOut
    ∷ Some LeftOut ∷ Some LeftOut ∷ Some Malformed ∷ Some LeftOut ∷ Some LeftOut ∷ Some LeftOut ∷ Some Malformed ∷ Some UnknownStatement ∷ Some
    UnknownStatement ∷ Some Misplaced ∷ Some Misplaced ∷ Some Misplaced ∷ Some StrayEnd ∷ Some Malformed ∷ Some StrayEnd ∷ Some Malformed ∷ Some Malformed
    ∷ Some Malformed ∷ Some Malformed ∷ Some Misplaced ∷ Some Malformed ∷ Some Misplaced ∷ Some Misplaced ∷ Some Misplaced ∷ Some Misplaced ∷ Some Misplaced
    ∷ Some Misplaced ∷ Some Misplaced ∷ Some Malformed ∷ Some Malformed ∷ Some Malformed ∷ Some Malformed ∷ Some Malformed ∷ Some Malformed ∷ Some Malformed
    ∷ Some Misplaced ∷ Some Misplaced ∷ Some Misplaced ∷ Some Misplaced ∷ Some Misplaced ∷ Some Misplaced ∷ Some Misplaced ∷ Some Misplaced ∷ Some Misplaced
    ∷ Some Misplaced ∷ []
unfolding next_token is_utf8 chars read_expr lines_of source_fault statement_on_line reading tree_faults first_tree_fault lib.Utf8.encode
after_a_source_in_a_menu = refl
