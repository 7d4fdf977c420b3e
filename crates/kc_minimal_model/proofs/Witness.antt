-- The headline's premises hold of a tree and files read from bytes.
use Rattle.std.proofs.Common.{Contains}
use Rattle.kc_solver.proofs.Lists.{get_from_Contains}
use Rattle.kc_minimal_model.proofs.Common.{◌≡◌, true, ℕ, List, [], ◌∷◌, Some, None, refl, sym, ◌-◌, length, arith, ap, subst, ◌∙◌, get-some, codes, Files, Tree, IsTreeOfFiles, tree_related, HasNoCycle, Present, Y, Escaped, FileFormat, assigns, file_lines, has_utf8_lines, IsAccepted, file_read}
use Rattle.kc_minimal_model.proofs.Common.{AreComparedByMinimalFiles}
use Rattle.std.specs.Str.{is_utf8, chars}
use Rattle.kc_tokens.specs.Token.{next_token}
use Rattle.kc_expr.specs.Grammar.{read_expr}
use Rattle.kc_expr.specs.Lookup.{index_of_name}
use Rattle.kc_tree_model.specs.LogicalLines.{lines_of}
use Rattle.kc_tree_model.specs.Limits.{source_fault}
use Rattle.kc_tree_model.specs.TreeReading.{statement_on_line, reading}
use Rattle.kc_tree_model.specs.Contents.{tree_of_groups, tree_of_files}
use Rattle.kc_tree_model.specs.TreeFaults.{tree_faults, first_tree_fault}
use Rattle.kc_tree_model.specs.TreeFiles.{strict_files}
use Rattle.kc_rules_model.specs.Dependencies.{dependencies}
use Rattle.kc_rules_model.specs.declared.values.UserValue.TheVariants.{Tri as TriUser}
use Rattle.kc_dotconfig_model.specs.between.LineMeanings.{line_meaning, file_meanings}
use Rattle.kc_minimal_model.proofs.FileAcceptance.{accepted_within}
use Rattle.kc_minimal_model.proofs.Headlines.{headline}

abbrev files : Files
files = strict_files ((codes "K", codes "config A\n\tbool \"a\"\n") ∷ [])

abbrev tree : Tree
tree = tree_of_files files (codes "K")

no_fault : first_tree_fault files (codes "K") ≡ None
unfolding next_token is_utf8 chars read_expr lines_of source_fault statement_on_line reading tree_faults first_tree_fault lib.Utf8.encode tree_of_groups
no_fault = refl

one_unit : length tree.units ≡ 1
unfolding next_token is_utf8 chars read_expr lines_of source_fault statement_on_line reading lib.Utf8.encode tree_of_groups tree_of_files index_of_name
one_unit = refl

no_needs : dependencies tree 0 ≡ []
unfolding dependencies next_token is_utf8 chars read_expr lines_of source_fault statement_on_line reading lib.Utf8.encode
    tree_of_groups tree_of_files index_of_name
no_needs = refl

empty_holds : (d : ℕ) (xs : List ℕ) → xs ≡ [] → Contains xs d → ⊥
empty_holds d xs e c = cannot d (subst (λ l. Contains l d) e c) where
  cannot : (d : ℕ) → Contains [] d → ⊥
  cannot d h = let at = get_from_Contains [] d h in cc

no_cycle : HasNoCycle (length tree.units) (dependencies tree)
no_cycle cycle is =
    let last = get-some cycle (length cycle - 1) (let h = is.some in omega arith) in
    let first = get-some cycle 0 is.some in
    let below = is.units (length cycle - 1) last.0 last.1 in
    let o = one_unit in
    let zero_is : 0 ≡ last.0 = omega (arith, below, o) in
    empty_holds first.0 (dependencies tree last.0) (ap (dependencies tree) (sym zero_is) ∙ no_needs) (is.closes last.0 first.0 last.1 first.1)

is_tree : IsTreeOfFiles files (codes "K") tree
is_tree = (tree_related files (codes "K") tree).0 (no_fault, refl)

-- a file, and its meaning
abbrev plain : FileFormat
plain = record { prefix = codes "CONFIG_"; strings = Escaped }

abbrev file : List ℕ
file = codes "CONFIG_A=y\n"

meaning : file_meanings plain tree file ≡ Some (assigns 0 (TriUser Y) ∷ [])
unfolding line_meaning next_token is_utf8 chars read_expr lines_of source_fault statement_on_line reading lib.Utf8.encode
    tree_of_groups tree_of_files index_of_name
meaning = refl

is_text : has_utf8_lines file ≡ true
unfolding is_utf8 chars lib.Utf8.encode
is_text = refl

file_accepted : IsAccepted plain tree file
file_accepted =
    let size : length file ≡ 11 = refl in
    let count : length (file_lines file) ≡ 1 = refl in
    accepted_within plain tree file (assigns 0 (TriUser Y) ∷ []) is_text ((file_read plain tree file (assigns 0 (TriUser Y) ∷ []) refl).0 meaning)
    (omega (arith, size)) (omega (arith, count)) refl

nothing_accepted : IsAccepted plain tree []
nothing_accepted = accepted_within plain tree [] [] refl tt (omega arith) (omega arith) refl

-- so the headline holds of them
both : AreComparedByMinimalFiles plain Present tree file []
both = headline files (codes "K") tree plain Present file [] refl is_tree no_cycle file_accepted nothing_accepted
