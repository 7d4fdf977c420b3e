-- Files that are read.
use Rattle.kmin_tidy.proofs.Common.{◌≡◌, ◌≢◌, ℕ, List, ◌++◌, Option, Some, Result, Ok, Err, IfOk, refl, sym, subst, ◌⊎◌, inl, inr, Tree, LoadKind, Read, OutOfMemory, one_failure_more, AreKnownBytes}
use Rattle.kmin_tidy.proofs.Common.{IsFragmentOf, IsFaulty, refused, unread, for_memory, whole_content}
use Rattle.kc_dotconfig_model.specs.Formats.{FileFormat}
use Rattle.kc_dotconfig_model.specs.declared.fault.LoadKind.TheVariants.{Malformed, NotUtf8, LineTooLong, TooManyLines, TooLarge}
use Rattle.kc_dotconfig.specs.Fragments.{FitsTree}
use Rattle.kc_dotconfig.specs.ReadResults.{IsReadKeeping, IsFileRefused, ReportsFault}
use Rattle.kc_value.specs.FileContents.{FileContent, OpensAs}
use Rattle.kmin_tidy.specs.checker.Readings.{IsAcceptedAs}
use Rattle.kmin_tidy.specs.declared.accepted_file.AcceptedFile.{AcceptedFile}
use Rattle.kc_value.proofs.KnownContents.{rest_of}

-- a file that was read to its end, with its bytes kept, is accepted as what is known of it says
pub accepted_as : (format : FileFormat) (tree : Tree) (content : FileContent) (before after : Option (List ℕ)) (file : AcceptedFile) (Empty : Type 0)
    → Empty → OpensAs content (Some before) → IsReadKeeping format tree before after (λ bytes. Empty → file.bytes.items ≡ bytes) file.fragment
    → FitsTree tree file.fragment.assigns.items → IsAcceptedAs format tree content file
accepted_as format tree content before after file Empty empty opens (r, keeps) fits =
    record {
      read = subst (λ (bytes : List ℕ). AreKnownBytes content bytes) (sym (keeps empty)) (whole_content content before after r.known opens r.consumed r.ended);
      fragment = subst (λ (bytes : List ℕ). IsFragmentOf format tree bytes file.fragment) (sym (keeps empty)) (record {
        accepted = r.accepted;
        meanings = r.meanings;
        means = r.has_meaning;
        users = r.users;
        noted = r.noted;
        chosen = r.chosen;
        fits = fits;
      });
    }

module _ (format : FileFormat) (tree : Tree) (known : FileContent) (before after : Option (List ℕ)) (opens : OpensAs known (Some before)) where
  refused_as : (kind : LoadKind) (number : ℕ) → kind ≢ Read → IsFileRefused format tree before after kind number → IsFaulty format tree known kind number
  refused_as kind number other r = elim r.first [
    | inl whole ↦ refused r.known (whole_content known before after r.known opens r.consumed whole.0) other whole.1
    | inr any ↦ let (rest, all) = rest_of known before after r.known opens r.consumed in refused (r.known ++ rest) all other (any rest)
  ]

  -- what is reported of the bytes of an opened file is a fault of that file
  pub faulty_as : (failed failed_after : ℕ) (kind : LoadKind) (number : ℕ) → ReportsFault format tree before after failed failed_after kind number
      → IsFaulty format tree known kind number
  faulty_as f g OutOfMemory number t = for_memory refl
  faulty_as f g Read number t =
      let (rest, all) = rest_of known before after t.0.known opens t.0.consumed in unread t.0.known rest all t.0.first refl
  faulty_as f g Malformed number t = refused_as Malformed number (λ e. (cc)) t
  faulty_as f g NotUtf8 number t = refused_as NotUtf8 number (λ e. (cc)) t
  faulty_as f g LineTooLong number t = refused_as LineTooLong number (λ e. (cc)) t
  faulty_as f g TooManyLines number t = refused_as TooManyLines number (λ e. (cc)) t
  faulty_as f g TooLarge number t = refused_as TooLarge number (λ e. (cc)) t

-- a file with a fault had one failed read or none
pub failed_once : {kind : LoadKind} {before after : ℕ} → (kind ≡ Read) ⊎ (after ≡ before) → (kind ≡ Read → after ≡ one_failure_more before)
    → (after ≡ before) ⊎ (after ≡ one_failure_more before)
failed_once (inl is) counted = inr (counted is)
failed_once (inr same) counted = inl same

pub both_ok : {T E : Type 0} (r : Result T E) (P Q R : T → Type 0) → ((x : T) → P x → Q x → R x) → IfOk r P → IfOk r Q → IfOk r R
both_ok (Ok x) P Q R f h k = f x h k
both_ok (Err e) P Q R f h k = tt
