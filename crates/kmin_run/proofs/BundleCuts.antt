-- A bundle cut at its marker.
use Rattle.std.proofs.Common.{◌≡◌, ℕ, Bool, true, false, ◌&&◌, ◌-◌, ◌<◌, ◌==◌, ◌⊎◌, inl, inr, List, [], ◌∷◌, ◌++◌, IsTrue, refl, sym, ◌∙◌, append_assoc, append-nil, cond, length, length-append, take, arith, bytes_eq}
use Rattle.std.specs.List.{list_all, onto_first}
use Rattle.std.proofs.Math.Seq.{take-append_seam}
use Rattle.std.proofs.lemmas.Slice.Eq.{bytes_eq-Decides}
use Rattle.kc_dotconfig_model.specs.ConfigFiles.{file_lines}
use Rattle.kc_value.specs.Lines.{has_no_byte, HasWholeLines}
use Rattle.kmin_lines.specs.Lines.{BeginsWithPiece}
use Rattle.kmin_lines.proofs.PieceLemmas.{pieces_parted}
use Rattle.kmin_run.specs.Bundles.{marker, has_no_marker, IsBundle, parted}

-- a line with its newline is one line
line_alone : (line : List ℕ) → has_no_byte 10 line ≡ true → file_lines (line ++ 10 ∷ []) ≡ line ∷ []
line_alone line alone = pieces_parted 10 line [] alone

-- lines after a newline are lines of their own
append_cases : (c : ℕ) (b : Bool) (ls ms ns : List (List ℕ)) → ls ≡ ms ++ ns → 0 < length ms
    → cond b ([] ∷ ls) (onto_first c ls) ≡ cond b ([] ∷ ms) (onto_first c ms) ++ ns
append_cases c b ls [] ns e h = absurd (omega arith)
append_cases c true ls (m ∷ ms) ns e h = rw e refl
append_cases c false ls (m ∷ ms) ns e h = rw e refl

some_front : (c : ℕ) (b : Bool) (ls : List (List ℕ)) → 0 < length (cond b ([] ∷ ls) (onto_first c ls))
some_front c true ls = omega arith
some_front c false [] = omega arith
some_front c false (l ∷ ls) = omega arith

some_lines : (front : List ℕ) → 0 < length (file_lines (front ++ 10 ∷ []))
some_lines [] = omega arith
some_lines (c ∷ cs) = some_front c (c == 10) (file_lines (cs ++ 10 ∷ []))

pub lines_after_newline : (front rest : List ℕ) → file_lines (front ++ 10 ∷ rest) ≡ file_lines (front ++ 10 ∷ []) ++ file_lines rest
lines_after_newline [] rest = refl
lines_after_newline (c ∷ cs) rest =
    append_cases c (c == 10) (file_lines (cs ++ 10 ∷ rest)) (file_lines (cs ++ 10 ∷ [])) (file_lines rest) (lines_after_newline cs rest) (some_lines cs)

-- the lines of a text that begins with whole lines are those, and then those of the rest
pub lines_whole : (front rest : List ℕ) → HasWholeLines front → file_lines (front ++ rest) ≡ file_lines front ++ file_lines rest
lines_whole front rest (inl e) = rw e refl
lines_whole front rest (inr w) = rw (w.1, append_assoc) (lines_after_newline w.0 rest)

all_both : (f : List ℕ → Bool) (ls ms : List (List ℕ)) → list_all f ls ≡ true → list_all f ms ≡ true → list_all f (ls ++ ms) ≡ true
all_both f [] ms h k = k
all_both f (l ∷ ls) ms h k =
    elim (f l) as (λ b. (b && list_all f ls) ≡ true → (b && list_all f (ls ++ ms)) ≡ true) [ true ↦ λ t. all_both f ls ms t k | false ↦ λ t. cc ] h

-- one more line that isn't the marker
one_more : (front line : List ℕ) (text : List ℕ) → HasWholeLines front → IsTrue (has_no_marker front) → file_lines text ≡ line ∷ []
    → bytes_eq line marker ≡ false → IsTrue (has_no_marker (front ++ text))
one_more front line text w h e n = rw (lines_whole front text w, e) (all_both _ (file_lines front) (line ∷ []) h (rw n refl))

pub passed : (bundle front rest line after : List ℕ) → IsTrue (has_no_marker front) → HasWholeLines front ⊎ (rest ≡ []) → bundle ≡ front ++ rest
    → BeginsWithPiece 10 rest line after → length after < length rest → has_no_byte 10 line ≡ true → file_lines rest ≡ line ∷ file_lines after
    → bytes_eq line marker ≡ false
    → (x : List ℕ) × IsTrue (has_no_marker x) × (HasWholeLines x ⊎ (after ≡ [])) × (bundle ≡ x ++ after)
passed bundle front rest line after h (inr r) b parts s i ls n = absurd (let z : length rest ≡ 0 = rw r refl in omega arith)
passed bundle front rest line after h (inl w) b (inl p) s i ls n = (
  front ++ (line ++ 10 ∷ []),
  one_more front line (line ++ 10 ∷ []) w h (line_alone line i) n,
  inl
      (inr (front ++ line, sym (append_assoc front line (10 ∷ [])))),
  rw (b, p, append_assoc, append_assoc) refl,
)
passed bundle front rest line after h (inl w) b (inr p) s i ls n =
    (front ++ rest, one_more front line rest w h (rw p.1 at ls) n, inr p.1, rw (p.1, append-nil) b)

front_is : (bundle front rest : List ℕ) → bundle ≡ front ++ rest → take (length bundle - length rest) bundle ≡ front
front_is bundle front rest b =
    rw b (let n : length (front ++ rest) - length rest ≡ length front = omega (arith, length-append front rest) in rw n (take-append_seam front rest))

pub found : (bundle front rest line after tree : List ℕ) → IsTrue (has_no_marker front) → HasWholeLines front ⊎ (rest ≡ []) → bundle ≡ front ++ rest
    → BeginsWithPiece 10 rest line after → length after < length rest → bytes_eq line marker ≡ true → tree ≡ take (length bundle - length rest) bundle
    → IsBundle bundle tree after
found bundle front rest line after tree h (inr r) b parts s n t = absurd (let z : length rest ≡ 0 = rw r refl in omega arith)
found bundle front rest line after tree h (inl w) b parts s n t =
    let f : tree ≡ front = t ∙ front_is bundle front rest b in
    let m : line ≡ marker = (bytes_eq-Decides line marker).0 n in
    rw f (parted rest h w b (rw m at parts))
