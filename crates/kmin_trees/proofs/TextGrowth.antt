-- The texts of a tree, as they come in.
use Rattle.std.proofs.Common.{Vec, Decides}
use Rattle.std.proofs.lemmas.Slice.Eq.{bytes_eq-Decides}
use Rattle.std.proofs.lemmas.List.{append-nil}
use Rattle.std.proofs.Math.Seq.{take-append_seam}
use Rattle.std.specs.Prelude.{IfSome}
use Rattle.std.specs.Io.KnownBytes.{Consumes, IsAtEnd}
use Rattle.std.specs.declared.alloc.Global.{Global}
use Rattle.std.specs.declared.alloc.AllocError.{AllocError}
use Rattle.kmin_trees.proofs.Common.{◌≡◌, ◌≤◌, ℕ, Bool, true, false, List, [], ◌∷◌, ◌++◌, Option, Some, None, Result, Ok, Err, length, take, ◌⊎◌, inl, inr, refl, sym, ap, ◌∙◌, take_all, bytes_eq, IfOk, if◌then◌else◌, lookup, Language, Files, file_at, with_path, with_file, FileContent}
use Rattle.kmin_trees.proofs.Common.{MatchContentStart, AreTextsBelow, path_below, OpensAs}
use Rattle.kc_value.specs.FileContents.{unknown, absent, known}
use Rattle.kc_value.specs.declared.limits.TheConstants.{MAX_FILE_BYTES}

-- bytes that were read up to the end, or up to the limit, begin a file
front_of : (b : List ℕ) (after : Option (List ℕ)) (bytes : List ℕ) → Consumes (Some b) after bytes → length bytes ≤ MAX_FILE_BYTES
    → (length bytes ≡ MAX_FILE_BYTES) ⊎ IsAtEnd after → bytes ≡ take MAX_FILE_BYTES b
front_of b None bytes h l e = absurd h
front_of b (Some ys) bytes h l (inl n) = sym (ap (λ k. take k b) (sym n) ∙ ap (take (length bytes)) h ∙ take-append_seam bytes ys)
front_of b (Some ys) bytes h l (inr e) =
    let whole : b ≡ bytes = h ∙ ap (λ z. bytes ++ z) e ∙ append-nil bytes in
    sym (ap (take MAX_FILE_BYTES) whole ∙ take_all MAX_FILE_BYTES bytes l)

front_matches : (content : FileContent) (before after : Option (List ℕ)) (bytes : List ℕ) → OpensAs content (Some before)
    → Consumes before after bytes → length bytes ≤ MAX_FILE_BYTES → (length bytes ≡ MAX_FILE_BYTES) ⊎ IsAtEnd after
    → MatchContentStart content bytes
front_matches unknown before after bytes o h l e = tt
front_matches absent before after bytes o h l e = let f : Some before ≡ None = o in cc
front_matches (known b) before after bytes o h l e =
    let s : before ≡ Some b = cc in
    let k : Consumes (Some b) after bytes = rw s at h in
    front_of b after bytes k l e

pub front_read : (content : FileContent) (before after : Option (List ℕ)) (r : Result (Option (Vec ℕ Global)) AllocError) → OpensAs content (Some before)
    → IfOk r (λ found. IfSome found (λ bytes. Consumes before after bytes.items × (length bytes.items ≤ MAX_FILE_BYTES)
    × ((length bytes.items ≡ MAX_FILE_BYTES) ⊎ IsAtEnd after)))
    → IfOk r (λ found. IfSome found (λ bytes. MatchContentStart content bytes.items))
front_read content before after (Err e) o h = tt
front_read content before after (Ok None) o h = tt
front_read content before after (Ok (Some v)) o h = front_matches content before after v.items o h.0 h.1 h.2

-- the bytes at a path after an insertion: the new ones, or those before
module _ (p b q c : List ℕ) where
  on_new : (t : Bool) → Decides t (q ≡ p) → (if t then Some b else None) ≡ Some c → ((q ≡ p) × (b ≡ c)) ⊎ (None ≡ Some c)
  on_new true d h = inl (d.0 refl, cc)
  on_new false d h = inr h

  on_same : (t : Bool) (old first : List ℕ) (rest : Option (List ℕ)) → Decides t (q ≡ first) → p ≡ first → (if t then Some b else rest) ≡ Some c
      → ((q ≡ p) × (b ≡ c)) ⊎ ((if t then Some old else rest) ≡ Some c)
  on_same true old first rest d e h = inl (d.0 refl ∙ sym e, cc)
  on_same false old first rest d e h = inr h

  on_other : (t : Bool) (old : List ℕ) (rest after : Option (List ℕ)) → (after ≡ Some c → ((q ≡ p) × (b ≡ c)) ⊎ (rest ≡ Some c))
      → (if t then Some old else after) ≡ Some c
      → ((q ≡ p) × (b ≡ c)) ⊎ ((if t then Some old else rest) ≡ Some c)
  on_other true old rest after r h = inr h
  on_other false old rest after r h = r h

  on_path : (t : Bool) (f : List ℕ × List ℕ) (fs : List (List ℕ × List ℕ)) → Decides t (p ≡ f.0)
      → (lookup (bytes_eq q) (with_path fs p b) ≡ Some c → ((q ≡ p) × (b ≡ c)) ⊎ (lookup (bytes_eq q) fs ≡ Some c))
      → lookup (bytes_eq q) (if t then (f.0, b) ∷ fs else f ∷ with_path fs p b) ≡ Some c
      → ((q ≡ p) × (b ≡ c)) ⊎ (lookup (bytes_eq q) (f ∷ fs) ≡ Some c)
  on_path true f fs d r h = on_same (bytes_eq q f.0) f.1 f.0 (lookup (bytes_eq q) fs) (bytes_eq-Decides q f.0) (d.0 refl) h
  on_path false f fs d r h = on_other (bytes_eq q f.0) f.1 (lookup (bytes_eq q) fs) (lookup (bytes_eq q) (with_path fs p b)) r h

  at_inserted : (fs : List (List ℕ × List ℕ)) → lookup (bytes_eq q) (with_path fs p b) ≡ Some c → ((q ≡ p) × (b ≡ c)) ⊎ (lookup (bytes_eq q) fs ≡ Some c)
  at_inserted [] h = on_new (bytes_eq q p) (bytes_eq-Decides q p) h
  at_inserted (f ∷ fs) h = on_path (bytes_eq p f.0) f fs (bytes_eq-Decides p f.0) (at_inserted fs) h

inserted_one : (content_of : List ℕ → FileContent) (root p b q c : List ℕ) (texts : Files) → AreTextsBelow content_of root texts.language texts
    → MatchContentStart (content_of (path_below root p)) b
    → ((q ≡ p) × (b ≡ c)) ⊎ (file_at texts q ≡ Some c) → MatchContentStart (content_of (path_below root q)) c
inserted_one content_of root p b q c texts h k (inl e) = rw (e.0, ← e.1) k
inserted_one content_of root p b q c texts h k (inr e) = h.content q c e

pub inserted : (content_of : List ℕ → FileContent) (root p b : List ℕ) (texts : Files) → AreTextsBelow content_of root texts.language texts
    → MatchContentStart (content_of (path_below root p)) b
    → AreTextsBelow content_of root texts.language (with_file texts p b)
inserted content_of root p b texts h k = record {
  in_language = refl;
  content = λ q c e. inserted_one content_of root p b q c texts h k
      (at_inserted p b q c texts.list e);
}

-- texts without files match what is known of the files below any root
pub below_none : (content_of : List ℕ → FileContent) (root : List ℕ) (language : Language) (texts : Files) → texts.language ≡ language → texts.list ≡ []
    → AreTextsBelow content_of root language texts
below_none content_of root language texts e f = record {
  in_language = e;
  content = λ path bytes h. (let z : file_at (record { language = texts.language; list = [] }) path ≡ Some bytes =
      ap (λ (fs : List (List ℕ × List ℕ)). file_at (record { language = texts.language; list = fs }) path) (sym f) ∙ h in cc);
}
