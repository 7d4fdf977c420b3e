-- Configuration files with their last lines, one after another.
use Rattle.kmin_explain_command.proofs.Common.{◌≡◌, ℕ, Bool, true, List, [], ◌∷◌, ◌++◌, Option, map, length, sym, ap, ◌∙◌, subst, append_assoc, append-nil, AllZip, Bor, Tree, FileFormat, LineMeaning, notice_pair, Fragment, FileContent, KeepsLines, FileLines, SpelledBytes, TakesLines, AllowsNotices}
use Rattle.kmin_explain_command.proofs.Common.{IsLinedFile, AreLined}
use Rattle.std.proofs.lemmas.List.{nil_from_length}
use Rattle.kc_value.specs.FileContents.{AreKnownBytes}
use Rattle.kc_rules_model.specs.declared.values.UserValue.{UserValue}
use Rattle.kc_dotconfig_model.specs.PrefixGrammar.{is_name_prefix}
use Rattle.kc_dotconfig_model.specs.ConfigFiles.{FileMeans, has_utf8_lines, merged_users}
use Rattle.kc_dotconfig_model.specs.declared.choice_line.ChoiceLine.{ChoiceLine}
use Rattle.kc_dotconfig_model.proofs.AcceptedLines.{accepted_utf8}
use Rattle.kc_dotconfig.specs.Fragments.{users_of}
use Rattle.kmin_report.specs.StandardError as taking
use Rattle.kmin_outputs.specs.Outputs.{none}
use Rattle.kmin_outputs.specs.between.LoadResults.{IsLoaded}
use Rattle.kmin_outputs.specs.between.LoadStops.{fragment_notices}
use Rattle.kmin_tidy.specs.checker.Readings.{IsFragmentOf}
use Rattle.kmin_outputs.proofs.Sequences.{notices_are, loaded_one, read_one, loaded_append, read_append}

-- a file whose bytes were read and accepted, and whose notices were reported, is loaded
pub loaded_of : (content : FileContent) (format : FileFormat) (tree : Tree) (path bytes : List ℕ) (known : AreKnownBytes content bytes)
    (taken taken_after : SpelledBytes) (failed failed_after : ℕ) (fragment : Fragment) → IsFragmentOf format tree bytes fragment
    → TakesLines taken failed (fragment_notices tree path fragment) taken_after failed_after
    → IsLoaded content format tree path fragment taken failed taken_after failed_after
loaded_of content format tree path bytes known taken taken_after failed failed_after fragment f t = record {
  bytes = bytes;
  meanings = f.meanings;
  matches = known;
  accepted = f.accepted;
  means = f.means;
  users = f.users;
  noted = f.noted;
  chosen = f.chosen;
  reported = subst (λ lines. TakesLines taken failed lines taken_after failed_after) (notices_are tree path fragment f.meanings f.noted) t;
}

-- and so with its last lines
pub lined_whole : (content : FileContent) (format : FileFormat) (tree : Tree) (path bytes : List ℕ) (known : AreKnownBytes content bytes)
    (taken taken_after : SpelledBytes) (failed failed_after : ℕ) (fragment : Fragment) (lines : FileLines)
    → is_name_prefix format.prefix ≡ true → IsFragmentOf format tree bytes fragment
    → TakesLines taken failed (fragment_notices tree path fragment) taken_after failed_after
    → ((meanings : List LineMeaning) → has_utf8_lines bytes ≡ true → FileMeans format tree bytes meanings → KeepsLines tree meanings lines)
    → IsLinedFile content format tree path (record { fragment = fragment; lines = lines }) taken failed taken_after failed_after
unfolding loaded_of
lined_whole content format tree path bytes known taken taken_after failed failed_after fragment lines valid f t keeps = record {
  loaded = loaded_of content format tree path bytes known taken taken_after failed failed_after fragment f t;
  kept = keeps f.meanings (accepted_utf8 format tree bytes valid f.accepted) f.means;
}

zip_append : {A B : Type 0} (R : A → B → Type 0) (xs : List A) (ys : List B) (more : List A) (others : List B) → AllZip R xs ys → AllZip R more others
    → AllZip R (xs ++ more) (ys ++ others)
zip_append R [] [] more others h k = k
zip_append R [] (y ∷ ys) more others h k = absurd h
zip_append R (x ∷ xs) [] more others h k = absurd h
zip_append R (x ∷ xs) (y ∷ ys) more others h k = (h.0, zip_append R xs ys more others h.1 k)

module _ (content_of : List ℕ → FileContent) (format : FileFormat) (strict : Bool) (tree : Tree) where
  -- one more file
  pub lined_one : (path : List ℕ) (before after : List (Option UserValue)) (fragment : Fragment) (own : FileLines) (lists_before lists : List (List ChoiceLine))
      (lines_before lines : List FileLines) (taken taken_after : SpelledBytes) (failed failed_after : ℕ)
      → IsLinedFile (content_of path) format tree path (record { fragment = fragment; lines = own }) taken failed taken_after failed_after
      → AllowsNotices strict (map notice_pair fragment.notices.items)
      → after ≡ merged_users (users_of tree fragment.assigns.items) before → lists ≡ lists_before ++ fragment.chosen.items ∷ []
      → lines ≡ lines_before ++ own ∷ []
      → AreLined content_of format strict tree (path ∷ []) before after lists_before lists lines_before lines taken failed taken_after failed_after
  unfolding loaded_one read_one
  lined_one path before after fragment own lists_before lists lines_before lines taken taken_after failed failed_after f a e m l = record {
    read = read_one content_of format strict tree path before after fragment lists_before lists taken taken_after failed failed_after f.loaded a e m;
    more = own ∷ [];
    lines_are = l;
    kept = (f.kept, tt);
  }

  -- files after files
  pub lined_append : (xs ys : List (List ℕ)) (before between after : List (Option UserValue)) (lists_before lists_between lists : List (List ChoiceLine))
      (lines_before lines_between lines : List FileLines) (taken middle taken_after : SpelledBytes) (failed failed_middle failed_after : ℕ)
      → AreLined content_of format strict tree xs before between lists_before lists_between lines_before lines_between taken failed middle failed_middle
      → AreLined content_of format strict tree ys between after lists_between lists lines_between lines middle failed_middle taken_after failed_after
      → AreLined content_of format strict tree (xs ++ ys) before after lists_before lists lines_before lines taken failed taken_after failed_after
  unfolding loaded_append read_append
  lined_append xs ys before between after lists_before lists_between lists lines_before lines_between lines taken middle taken_after failed failed_middle failed_after h k = record {
    read =
        read_append content_of format strict tree xs ys before between after lists_before lists_between lists taken middle taken_after failed failed_middle
        failed_after h.read k.read;
    more = h.more ++ k.more;
    lines_are = k.lines_are ∙ ap (λ (ls : List FileLines). ls ++ k.more) h.lines_are ∙ append_assoc lines_before h.more k.more;
    kept = zip_append (KeepsLines tree) h.read.loaded.meanings h.more k.read.loaded.meanings k.more h.kept k.kept;
  }

  -- no files
  pub lined_none : (paths : List (Bor (List ℕ))) (before users : List (Option UserValue)) (lists_before lists : List (List ChoiceLine))
      (lines_before lines : List FileLines) (taken : SpelledBytes) (failed : ℕ)
      → length paths ≡ 0 → users ≡ before → lists ≡ lists_before → lines ≡ lines_before
      → AreLined content_of format strict tree (map (λ (path : Bor (List ℕ)). path.now) paths) before users lists_before lists lines_before lines taken failed taken failed
  lined_none paths before users lists_before lists lines_before lines taken failed n e m l =
      rw (nil_from_length paths n)
      (record {
        read = record {
          loaded = record { meanings = []; mean = none; users_are = e; reported = taking.none };
          chosen_are = m ∙ sym (append-nil lists_before);
        };
        more = [];
        lines_are = l ∙ sym (append-nil lines_before);
        kept = tt;
      })
