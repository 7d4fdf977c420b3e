-- Trees that are expanded again.
use Rattle.std.specs.Str.{is_utf8}
use Rattle.kc_expansion.proofs.Common.{◌≡◌, ℕ, Bool, true, false, ◌||◌, cond, List, [], ◌∷◌, Some, None, refl, sym, ap, ◌∙◌, bytes_eq, codes, lookup, is_in_list, ExpandedFile, has_key, World, paths_read, text_of_key, IsFileOf}
use Rattle.std.specs.Str.{chars}
use Rattle.std.specs.Fmt.{digits}
use Rattle.std.proofs.lemmas.List.Elements.{All-weaker}
use Rattle.kc_tokens.specs.Token.{next_token}
use Rattle.kc_tokens.specs.declared.language.LinuxVersion.{LinuxVersion}
use Rattle.kc_expr.specs.Grammar.{read_expr}
use Rattle.kc_tree_model.specs.LogicalLines.{lines_of}
use Rattle.kc_tree_model.specs.Limits.{source_fault}
use Rattle.kc_tree_model.specs.TreeReading.{statement_on_line, reading}
use Rattle.kc_tree_model.specs.TreeFaults.{tree_faults, first_tree_fault}
use Rattle.kc_macros_model.specs.Expansion.{text_value}
use Rattle.kc_macros_model.specs.TreeExpansion.{tree_read}
use Rattle.kc_macros_model.specs.Worlds.{expansion}
use Rattle.kc_expansion.specs.TreeLaws.{by_key, ExpandedTreesStay, AllFilesStay, LosesAFile}
use Rattle.kc_expansion.proofs.AcceptedLines.{turned}
use Rattle.kc_expansion.proofs.AcceptedTrees.{accepted_trees_stay}

pub expanded_trees_stay : ExpandedTreesStay
expanded_trees_stay version w again root files e accepted among = accepted_trees_stay again (by_key version files) root accepted among

-- a key that no file has
no_text : (files : List ExpandedFile) (key : List ℕ) → has_key files key ≡ false → text_of_key files key ≡ None
no_text [] key h = refl
no_text (f ∷ fs) key h = by_test (bytes_eq f.key key) refl h (no_text fs key)
  where
    by_test : (b : Bool) → bytes_eq f.key key ≡ b → (b || has_key fs key) ≡ false → (has_key fs key ≡ false → text_of_key fs key ≡ None)
        → text_of_key (f ∷ fs) key ≡ None
    by_test true e h ih = let z : ⊥ = cc in absurd z
    by_test false e h ih = ap (λ b. cond b (Some f.text) (text_of_key fs key)) (turned key f.key ∙ e) ∙ ih h

pub all_files_stay : AllFilesStay
all_files_stay version w again root files e accepted among each =
    let g = expanded_trees_stay version w again root files e accepted among in
    record {
      expanded = g.expanded;
      ending = g.ending;
      paths = All-weaker (IsFileOf (by_key version files)) (λ (f : ExpandedFile). f.key ≡ f.path)
          (λ f h. h.key) g.expanded g.own;
      texts = λ key. g.texts key ∙ by_test key (is_in_list key (paths_read (by_key version files) root)) refl;
    }
  where
    by_key_there : (key : List ℕ) (b : Bool) → has_key files key ≡ b → is_in_list key (paths_read (by_key version files) root) ≡ false → b ≡ false
    by_key_there key false h n = refl
    by_key_there key true h n = let z = each key h in cc

    by_test : (key : List ℕ) (b : Bool) → is_in_list key (paths_read (by_key version files) root) ≡ b → cond b (text_of_key files key) None ≡ text_of_key files key
    by_test key true h = refl
    by_test key false h = sym (no_text files key (by_key_there key (has_key files key) refl h))

-- a tree of which the reader loses a file
lost_list : List (List ℕ × List ℕ)
lost_list = (codes "a", codes "config A\n\tbool\n\thelp\n\t  text\n$(empty)\n\t  source \"b\"\n") ∷ (codes "b", codes "config B\n\tbool\n") ∷ []

lost_world : World
lost_world = record { answer = λ question. Some None; bytes = λ path. lookup (bytes_eq path) lost_list; unreadable = λ path. false; names = λ folder. Some [] }

lost_files : List ExpandedFile
lost_files =
    record { key = codes "b"; path = codes "b"; text = codes "config B\n\tbool\n" } ∷ record {
      key = codes "a";
      path = codes "a";
      text = codes "config A\n\tbool\n\thelp\n\t  text\n \n\t  source \"b\"\n";
    } ∷ []

pub loses_a_file : (version : LinuxVersion) → LosesAFile version
unfolding lost_list lost_world lost_files tree_read text_value expansion next_token read_expr lines_of source_fault statement_on_line reading tree_faults
    first_tree_fault is_utf8 chars digits lib.Utf8.encode
loses_a_file version = record { world = lost_world; root = codes "a"; files = lost_files; key = codes "b"; ending = refl; accepted = refl; there = refl; lost = refl }
