-- Texts that a writer takes, one after another.
use Rattle.std.proofs.Common.{◌≡◌, ℕ, suc, ◌+◌, ◌<◌, List, [], ◌∷◌, ◌++◌, Option, get_or, map, take, drop, length, length-append, refl, sym, ap, ◌∙◌, subst, arith, append-nil, append_assoc, drop-cons, take-append-drop, Result, Ok, Err, OnErr}
use Rattle.std.specs.List.{flat_map}
use Rattle.std.specs.Io.KnownBytes.{Appends}
use Rattle.std.proofs.KnownBytes.{Appends-trans}
use Rattle.std.proofs.lemmas.Grind.{flat_map-append}
use Rattle.std.proofs.lemmas.List.{take-append-le, map-append}
use Rattle.std.proofs.Math.Seq.{take-append-add, take-suc}
use Rattle.kmin_report.specs.Reports.{ErrorLine}
use Rattle.kmin_report.specs.StandardError.{SpelledBytes, TakesWhole, TakesPart, TakesLine, TakesLines, none, one_more}
use Rattle.kc_files.specs.TreeContents.{HasRisen}

pub whole_whole : (before middle after : Option (List ℕ)) (failed failed_middle failed_after : ℕ) (text more : List ℕ)
    → TakesWhole before failed text middle failed_middle → TakesWhole middle failed_middle more after failed_after
    → TakesWhole before failed (text ++ more) after failed_after
whole_whole before middle after failed failed_middle failed_after text more h k =
    record { appends = Appends-trans before middle after text more h.appends k.appends; unfailed = k.unfailed ∙ h.unfailed }

pub whole_part : (before middle after : Option (List ℕ)) (failed failed_middle failed_after : ℕ) (text more : List ℕ)
    → TakesWhole before failed text middle failed_middle → TakesPart middle failed_middle more after failed_after
    → TakesPart before failed (text ++ more) after failed_after
whole_part before middle after failed failed_middle failed_after text more h k = record {
  written = length text + k.written;
  within = let w = k.within in omega (arith, length-append text more);
  appends = subst (λ bytes. Appends before after bytes) (sym (take-append-add text more k.written))
      (Appends-trans before middle after text (take k.written more) h.appends k.appends);
  rose = subst (λ n. HasRisen n failed_after) h.unfailed k.rose;
}

pub part_more : (before after : Option (List ℕ)) (failed failed_after : ℕ) (text more : List ℕ)
    → TakesPart before failed text after failed_after → TakesPart before failed (text ++ more) after failed_after
part_more before after failed failed_after text more h = record {
  written = h.written;
  within = let w = h.within in omega (arith, length-append text more);
  appends = subst (λ bytes. Appends before after bytes) (sym (take-append-le h.written text more (let w = h.within in omega arith))) h.appends;
  rose = h.rose;
}

-- joined texts, cut at one of them
flat_map_at : {A : Type 0} (f : A → List ℕ) (xs : List A) (i : ℕ) (d : A) → i < length xs
    → flat_map f xs ≡ (flat_map f (take i xs) ++ f (get_or xs i d)) ++ flat_map f (drop (suc i) xs)
flat_map_at f xs i d h =
    ap (flat_map f) (sym (take-append-drop i xs)) ∙ flat_map-append f (take i xs) (drop i xs)
    ∙ ap (λ ys. flat_map f (take i xs) ++ flat_map f ys) (drop-cons xs i d h)
    ∙ sym (append_assoc (flat_map f (take i xs)) (f (get_or xs i d)) (flat_map f (drop (suc i) xs)))

pub part_next : {A : Type 0} (f : A → List ℕ) (xs : List A) (i : ℕ) (d : A) (before middle after : Option (List ℕ)) (failed failed_middle failed_after : ℕ)
    → i < length xs
    → TakesWhole before failed (flat_map f (take i xs)) middle failed_middle → TakesPart middle failed_middle (f (get_or xs i d)) after failed_after
    → TakesPart before failed (flat_map f xs) after failed_after
part_next f xs i d before middle after failed failed_middle failed_after n h k =
    subst (λ text. TakesPart before failed text after failed_after) (sym (flat_map_at f xs i d n))
    (part_more before after failed failed_after _ _ (whole_part before middle after failed failed_middle failed_after _ _ h k))

-- standard error that took one line took the list of that line alone
pub lines_one : (before after : SpelledBytes) (failed failed_after : ℕ) (line : ErrorLine)
    → TakesLine before failed line after failed_after → TakesLines before failed (line ∷ []) after failed_after
lines_one before after failed failed_after line h = one_more [] (line ∷ []) line before after failed failed_after none h refl

-- standard error that took some lines and then more took all of them, in order
pub lines_append : (before middle : SpelledBytes) (failed failed_middle : ℕ) (lines more : List ErrorLine) (after : SpelledBytes) (failed_after : ℕ)
    → TakesLines before failed lines middle failed_middle → TakesLines middle failed_middle more after failed_after
    → TakesLines before failed (lines ++ more) after failed_after
lines_append before middle failed failed_middle lines more after failed_after h none =
    subst (λ all. TakesLines before failed all middle failed_middle) (sym (append-nil lines)) h
lines_append before middle failed failed_middle lines more after failed_after h (one_more some all line last final failed_last failed_final k t e) =
    one_more (lines ++ some) (lines ++ all) line last final failed_last failed_final
    (lines_append before middle failed failed_middle lines some last failed_last h k) t
    (ap (λ all. lines ++ all) e ∙ sym (append_assoc lines some (line ∷ [])))

-- standard error that took the lines of the first i elements of a list, and then the next one, took those of the first i + 1
pub lines_next : {A : Type 0} (f : A → ErrorLine) (xs : List A) (i : ℕ) (d : A) (before middle after : SpelledBytes) (failed failed_middle failed_after : ℕ)
    → i < length xs
    → TakesLines before failed (map f (take i xs)) middle failed_middle → TakesLine middle failed_middle (f (get_or xs i d)) after failed_after
    → TakesLines before failed (map f (take (i + 1) xs)) after failed_after
lines_next f xs i d before middle after failed failed_middle failed_after n h k =
    let m : i + 1 ≡ suc i = omega arith in
    one_more (map f (take i xs)) (map f (take (i + 1) xs)) (f (get_or xs i d)) middle after failed_middle failed_after h k
    (rw m (ap (map f) (take-suc xs i d n) ∙ map-append f (take i xs) (get_or xs i d ∷ [])))

-- a fact that doesn't depend on the error holds where a result is an `Err`
pub on_err : {T E : Type 0} (r : Result T E) (P : Type 0) → P → OnErr r P
on_err (Ok x) P h = tt
on_err (Err e) P h = h

pub on_err_map : {T E : Type 0} (r : Result T E) (P Q : Type 0) → (P → Q) → OnErr r P → OnErr r Q
on_err_map (Ok x) P Q f h = tt
on_err_map (Err e) P Q f h = f h
