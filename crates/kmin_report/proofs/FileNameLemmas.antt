-- The names of files in messages, with and without expanded files.
use Rattle.std.proofs.Common.{◌≡◌, ℕ, List, Option, Some, None, refl, sym, ap, ◌∙◌}
use Rattle.std.specs.Prelude.{slice_get, option_map}
use Rattle.std.specs.Borrow.{Bor}
use Rattle.std.proofs.lemmas.Option.{slice_get-map}
use Rattle.kc_tree_model.specs.TreeFiles.{Files, path_at}
use Rattle.kc_macros_model.specs.ReadingStates.{ExpandedFile}
use Rattle.kmin_report.specs.FileNames.{name_of_key, named_texts}
use Rattle.kmin_report.specs.between.ReportLines.{names_among}

-- the name, in messages, of the file of a number is the name of its key
named_at : (files : List ExpandedFile) (texts : Files) (number : ℕ) → path_at (named_texts files texts) number
    ≡ option_map (name_of_key files) (path_at texts number)
named_at files texts number =
    ap (option_map (λ (f : List ℕ × List ℕ). f.0)) (slice_get-map (λ (f : List ℕ × List ℕ). (name_of_key files f.0, f.1)) texts.list number)
    ∙ twice (slice_get texts.list number)
  where
    twice : (o : Option (List ℕ × List ℕ)) → option_map (λ (f : List ℕ × List ℕ). f.0) (option_map (λ (f : List ℕ × List ℕ). (name_of_key files f.0, f.1)) o)
        ≡ option_map (name_of_key files) (option_map (λ (f : List ℕ × List ℕ). f.0) o)
    twice None = refl
    twice (Some f) = refl

pub absent_name : (texts : Files) (expanded : Option (Bor (List ExpandedFile))) (number : ℕ) → path_at texts number ≡ None
    → path_at (names_among texts expanded) number ≡ None
absent_name texts None number e = e
absent_name texts (Some files) number e = named_at files.now texts number ∙ ap (option_map (name_of_key files.now)) e

pub plain_name : (texts : Files) (expanded : Option (Bor (List ExpandedFile))) (number : ℕ) (key : List ℕ) → expanded ≡ None
    → Some key ≡ path_at texts number → Some key ≡ path_at (names_among texts expanded) number
plain_name texts expanded number key e k = rw e k

pub found_name : (texts : Files) (expanded : Option (Bor (List ExpandedFile))) (files : Bor (List ExpandedFile)) (number : ℕ) (key name : List ℕ)
    → expanded ≡ Some files
    → Some key ≡ path_at texts number → name ≡ name_of_key files.now key → Some name ≡ path_at (names_among texts expanded) number
found_name texts expanded files number key name e k h =
    rw e (ap (λ (n : List ℕ). Some n) h ∙ ap (option_map (name_of_key files.now)) k ∙ sym (named_at files.now texts number))
