-- A file that was read is minimised, whole or in part.
use Rattle.std.proofs.Common.{◌^◌}
use Rattle.std.specs.Io.KnownBytes.{Appends}
use Rattle.kc_minimal.proofs.Common.{◌≡◌, ℕ, ◌<◌, ◌-◌, true, List, Option, length, take, subst, Tree, UniquelySolves, Profile, UnitValue, rule, FileFormat, is_name_prefix, IsCanonicalText, Loads}
use Rattle.kc_dotconfig_model.proofs.AcceptedLines.{accepted_utf8}
use Rattle.kc_dotconfig.specs.declared.fragment.Fragment.{Fragment}
use Rattle.kc_dotconfig.specs.Fragments.{users_of}
use Rattle.kc_dotconfig.specs.ReadResults.{IsReadAs}
use Rattle.kc_minimal.specs.Minimisation.{IsMinimised, IsCutOff}

module _ (format : FileFormat) (valid : is_name_prefix format.prefix ≡ true) (profile : Profile) (tree : Tree)
    (before after : Option (List ℕ)) (f : Fragment) (read : IsReadAs format tree before after f) (values : List UnitValue) (text : List ℕ)
    (gives : UniquelySolves (length tree.units) (rule profile tree) (users_of tree f.assigns.items) values)
    (canonical : IsCanonicalText format profile tree values text) where
  abbrev loaded : Loads format profile tree read.known values
  loaded = record {
    accepted = read.accepted;
    reads = record {
      utf8 = accepted_utf8 format tree read.known valid read.accepted;
      meanings = read.meanings;
      has_meaning = read.has_meaning;
      gives = subst (λ users. UniquelySolves (length tree.units) (rule profile tree) users values) read.users gives;
    };
  }

  -- a configuration file is minimised where the writer took the whole text of its minimal file
  pub minimised : (taken taken_after : Option (List ℕ)) → Appends taken taken_after text
      → IsMinimised format profile tree before after taken taken_after f.notices.items
  minimised taken taken_after written = record {
    known = read.known;
    consumed = read.consumed;
    ended = read.ended;
    values = values;
    loads = loaded;
    noted = read.noted;
    text = text;
    written = written;
    canonical = canonical;
  }

  -- the minimising of a configuration file is cut off where the writer took only a part of the text of its minimal file
  pub cut_off : (taken taken_after : Option (List ℕ)) (failed failed_after written : ℕ) → written < length text → Appends taken taken_after (take written text)
      → (failed < 2 ^ 64 - 1 → failed < failed_after)
      → IsCutOff format profile tree before after taken taken_after failed failed_after written
  cut_off taken taken_after failed failed_after written part took rose = record {
    known = read.known;
    consumed = read.consumed;
    ended = read.ended;
    values = values;
    loads = loaded;
    part = subst (λ t. written < length t) canonical.is part;
    took = subst (λ t. Appends taken taken_after (take written t)) canonical.is took;
    rose = rose;
  }
