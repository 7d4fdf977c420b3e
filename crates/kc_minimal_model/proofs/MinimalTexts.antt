-- The minimal file of the values of any fitting assignment is canonical.
use Rattle.kc_minimal_model.proofs.Common.{◌≡◌, ◌↔◌, ℕ, ◌<◌, ◌≤◌, Bool, true, false, IsTrue, List, Option, length, filter, refl, sym, ap, subst, arith, list_all, Tree, FitsUsers, Solves, Profile, UnitValue, UserValue, value_of_symbol, symbol_numbers, FileFormat, is_name_prefix, MAX_CONFIG_BYTES}
use Rattle.kc_minimal_model.proofs.Common.{IsAccepted, ended_line, has_line, minimal_symbols, minimal_file, ReadsTo, HaveSameValues, DifferAtASymbol, has_short_lines, with_lines, IsOrderedTree, ordered_tree, file_lines, file_assignment, solutions_fit}
use Rattle.kc_rules_model.specs.Rule.{rule}
use Rattle.kc_rules_model.specs.Shapes.{user_fits}
use Rattle.kc_minimal_model.specs.FileValues.{Loads}
use Rattle.kc_minimal_model.specs.CanonicalText.{IsCanonicalText, MinimalTextsAreCanonical}
use Rattle.kc_minimal_model.proofs.LeastFile.{passes_filter}
use Rattle.kc_minimal_model.proofs.Canonical.{symbol_lines, all_of_filter, some_have_lines, fits_of, one, reads_back, same_files, needed}
use Rattle.kc_minimal_model.proofs.DifferingSymbols.{same_values, differ_somewhere}
use Rattle.kc_minimal_model.proofs.NeededUnits.{needs_units, needs_values}
use Rattle.kc_minimal_model.proofs.FilesAssign.{assigns_lines}
use Rattle.kc_minimal_model.proofs.LineNumbers.{keeps_symbol, lines_kept, line_count, symbol_dropped}
use Rattle.kc_minimal_model.proofs.FileAcceptance.{is_short, accepted_symbols, shorts_of_file, file_of_shorts, filter_shorter, flat_shorter}
use Rattle.kc_minimal_model.proofs.MinimalFileLimits.{few_lines, lines_are_short}

module _ (format : FileFormat) (valid : is_name_prefix format.prefix ≡ true) (profile : Profile) (tree : Tree) (settled : IsOrderedTree tree)
    (users : List (Option UserValue)) (values : List UnitValue)
    (fitting : FitsUsers (length tree.units) (λ u x. IsTrue (user_fits tree u x)) users)
    (solved : Solves (length tree.units) (rule profile tree) users values) where
  -- some lines of the minimal file alone are an accepted file, if all its lines are short and it is within the limit of bytes
  pub part_accepted : (keeps : ℕ → Bool) → length (minimal_file format profile tree values) ≤ MAX_CONFIG_BYTES
      → list_all (is_short format valid profile tree settled.consistent users values fitting solved) (minimal_symbols profile tree values) ≡ true
      → IsAccepted format tree (symbol_lines keeps format profile tree values)
  part_accepted keeps small short =
      let xs = minimal_symbols profile tree values in
      let some = some_have_lines format valid profile tree settled users values fitting solved keeps in
      let less = filter_shorter keeps xs in
      let few = few_lines profile tree values settled.consistent in
      let smaller = flat_shorter (ended_line format tree values) keeps xs in
      accepted_symbols format valid profile tree settled.consistent users values fitting solved (filter keeps xs) some
      (all_of_filter (is_short format valid profile tree settled.consistent users values fitting solved) keeps xs short) (omega (arith, less, few))
      (omega (arith, smaller, small))

  pub whole_accepted : length (minimal_file format profile tree values) ≤ MAX_CONFIG_BYTES
      → list_all (is_short format valid profile tree settled.consistent users values fitting solved) (minimal_symbols profile tree values) ≡ true
      → IsAccepted format tree (minimal_file format profile tree values)
  whole_accepted small short =
      accepted_symbols format valid profile tree settled.consistent users values fitting solved (minimal_symbols profile tree values)
      (passes_filter (has_line profile tree values) (symbol_numbers tree))
      short (few_lines profile tree values settled.consistent) small

  pub shorts : has_short_lines (minimal_file format profile tree values) ≡ true
      → list_all (is_short format valid profile tree settled.consistent users values fitting solved) (minimal_symbols profile tree values) ≡ true
  shorts short =
      shorts_of_file format valid profile tree settled.consistent users values fitting solved (minimal_symbols profile tree values)
      (passes_filter (has_line profile tree values) (symbol_numbers tree)) short

  -- without a line, and others or not, some symbol has another value
  differing : (keeps : ℕ → Bool) (s : ℕ) → has_line profile tree values s ≡ true → keeps s ≡ false
      → (others : List UnitValue) × ReadsTo format profile tree (symbol_lines keeps format profile tree values) others × DifferAtASymbol tree others values
  differing keeps s has dropped =
      let lost = needed format valid profile tree settled users values fitting solved keeps s has dropped in
      let bytes = symbol_lines keeps format profile tree values in
      let fits_lost = fits_of format valid profile tree settled bytes lost.1.meanings lost.1.utf8 lost.1.has_meaning in
      let others_fit = solutions_fit profile tree settled (file_assignment tree lost.1.meanings) fits_lost lost.0 lost.1.gives.solves in (
        lost.0,
        lost.1,
        differ_somewhere tree lost.0 values settled.consistent others_fit (solutions_fit profile tree settled users fitting values solved)
            lost.2,
      )

  -- a file gives every symbol the same value exactly if its minimal file is the same
  compared : (file : List ℕ) (others : List UnitValue) → ReadsTo format profile tree file others
      → HaveSameValues tree values others ↔ (minimal_file format profile tree values ≡ minimal_file format profile tree others)
  compared file others reads =
      let fits = fits_of format valid profile tree settled file reads.meanings reads.utf8 reads.has_meaning in
      let equal = same_files format valid profile tree settled users (file_assignment tree reads.meanings) values others fitting fits solved
      reads.gives.solves in
      let values_fit = solutions_fit profile tree settled users fitting values solved in
      let others_fit = solutions_fit profile tree settled (file_assignment tree reads.meanings) fits others reads.gives.solves in (
        λ same. equal.0 (same_values tree values others settled.consistent values_fit others_fit same),
        λ files. (let e = equal.1 files in λ s. ap (λ v. value_of_symbol tree v s) e),
      )

  short_file : (file : List ℕ) → Loads format profile tree file values → has_short_lines (minimal_file format profile tree values) ≡ true
  short_file file loads =
      file_of_shorts format valid profile tree settled.consistent users values fitting solved (minimal_symbols profile tree values)
      (passes_filter (has_line profile tree values) (symbol_numbers tree))
      (lines_are_short format profile tree file values valid settled loads.accepted loads.reads)

  kept_accepted : length (minimal_file format profile tree values) ≤ MAX_CONFIG_BYTES → has_short_lines (minimal_file format profile tree values) ≡ true
      → (keeps : ℕ → Bool)
      → IsAccepted format tree (with_lines keeps (minimal_file format profile tree values))
  kept_accepted small short keeps =
      subst (IsAccepted format tree) (sym (lines_kept format valid profile tree settled.consistent users values fitting solved keeps))
      (part_accepted (keeps_symbol format valid profile tree settled.consistent users values fitting solved keeps) small (shorts short))

  line_needed : (keeps : ℕ → Bool) (k : ℕ) → k < length (file_lines (minimal_file format profile tree values)) → keeps k ≡ false
      → (others : List UnitValue) × ReadsTo format profile tree (with_lines keeps (minimal_file format profile tree values)) others × DifferAtASymbol tree
      others values
  line_needed keeps k below dropped =
      let lost = symbol_dropped format valid profile tree settled.consistent users values fitting solved keeps k below dropped in
      let found = differing (keeps_symbol format valid profile tree settled.consistent users values fitting solved keeps) lost.0 lost.1 lost.2 in (
        found.0,
        subst (λ t. ReadsTo format profile tree t found.0) (sym
            (lines_kept format valid profile tree settled.consistent users values fitting solved keeps)) found.1,
        found.2,
      )

  pub canonical_text : IsCanonicalText format profile tree values (minimal_file format profile tree values)
  canonical_text = record {
    is = refl;
    same = compared;
    back = reads_back format valid profile tree settled users values fitting solved;
    once = λ again reads. ap (minimal_file format profile tree) (one format valid profile tree settled (minimal_file format profile tree values) again values
        reads (reads_back format valid profile tree settled users values fitting solved));
    needed = line_needed;
    least = λ any fewer keeps fits solves cut. needs_units profile tree any values settled fits solves fewer keeps cut;
    least_values = λ any fits solves. needs_values profile tree any values settled fits solves;
    assigns = λ file reads.
        let count = line_count format valid profile tree settled.consistent users values fitting solved in
        let assigned = assigns_lines format profile tree settled file values reads in
        let many = assigned.as_many in
        record { each = assigned.each; each_value = assigned.each_value; as_many = omega (arith, count, many) };
    accepted = λ small short. whole_accepted small (shorts short);
    part_accepted = kept_accepted;
    short = short_file;
  }

pub minimal_texts : MinimalTextsAreCanonical
minimal_texts format profile tree users values valid settled fitting solved =
    canonical_text format valid profile tree (ordered_tree tree settled) users values fitting solved
