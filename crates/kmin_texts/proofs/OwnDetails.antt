-- Details that are those of lines.
use Rattle.kmin_texts.proofs.Common.{◌≡◌, inl, inr, ℕ, Bool, true, false, ◌||◌, ◌&&◌, cond, List, [], ◌∷◌, Option, Some, None, Ok, Err, refl, sym, ap, subst, ◌∙◌, Detail, IsLineOf, KnownFile, is_given, is_one_of, no_detail, line_at, Unreadable, FailedRead, MayBe, IsDetailOf}
use Rattle.std.proofs.Math.Bool.{or-true}
use Rattle.std.proofs.lemmas.Slice.Eq.{bytes_eq-Decides}
use Rattle.kmin_messages.specs.ShownTexts.{shown}
use Rattle.kmin_report.specs.Reports.{ErrorLine}
use Rattle.kmin_texts.specs.KnownLines.{KnownLines}
use Rattle.kmin_texts.specs.LineDetails.{are_same_names, is_detail_of, is_same_detail}
use Rattle.kmin_details.specs.ReportMessages.{line_in}
use Rattle.kmin_texts.specs.Spellings.{AskedForm}
use Rattle.kmin_texts.specs.between.Wordings.{IsSpelled}

-- each detail is the same as itself
same_names : (xs : List (List ℕ)) → are_same_names xs xs ≡ true
same_names [] = refl
same_names (x ∷ xs) = ap (λ b. b && are_same_names xs xs) ((bytes_eq-Decides x x).1 refl) ∙ same_names xs

pub same_detail : (d : Detail) → is_same_detail d d ≡ true
same_detail d = ap (λ b. b && are_same_names d.names d.names) ((bytes_eq-Decides d.text d.text).1 refl) ∙ same_names d.names

pub first_one : (d : Detail) (others : List Detail) → is_one_of (d ∷ others) d ≡ true
first_one d others = ap (λ b. b || is_one_of others d) (same_detail d)

pub later_one : (d e : Detail) (others : List Detail) → is_one_of others d ≡ true → is_one_of (e ∷ others) d ≡ true
later_one d e others h = ap (λ b. is_same_detail d e || b) h ∙ or-true (is_same_detail d e)

-- what a line gives, a file that is known so far may give, if it may have that line
pub by_line : (known : KnownFile) (number : ℕ) (line : Option (List ℕ)) (f : Option (List ℕ) → List Detail) (of_reason : Unreadable → List Detail) (d : Detail)
    → IsLineOf known number line → is_one_of (f line) d ≡ true → is_given known (λ bytes. f (line_at bytes number)) of_reason d ≡ true
by_line None number line f of_reason d h is = refl
by_line (Some (Err why)) number line f of_reason d h is = absurd h
by_line (Some (Ok bytes)) number line f of_reason d h is =
    subst (λ l. (is_one_of (of_reason FailedRead) d || is_one_of (f l) d) ≡ true) (sym h)
    (ap (λ b. is_one_of (of_reason FailedRead) d || b) is ∙ or-true (is_one_of (of_reason FailedRead) d))

-- a detail that passes a test passes one that is implied
pub may_also : (p q : Detail → Bool) (d : Detail) → (p d ≡ true → q d ≡ true) → MayBe p d → MayBe q d
may_also p q d f (inl none) = inl none
may_also p q d f (inr is) = inr (f is)

-- a line of a report with a detail of it is spelled
same_either : (b : Bool) (d : Detail) → cond b d d ≡ d
same_either true d = refl
same_either false d = refl

pub spelled : (asked : AskedForm) (known : KnownLines) (line : ErrorLine) (d : Detail) (bytes : List ℕ) → IsDetailOf asked known line d
    → bytes ≡ line_in asked.form asked.root line (shown d.text) d.names → IsSpelled asked known line bytes
spelled asked known line d bytes (inl none) e = (
  Some no_detail,
  e ∙ ap (λ (own : Detail). line_in asked.form asked.root line (shown own.text) own.names)
      (none ∙ sym (same_either (is_detail_of asked.root asked.language asked.prefix known line no_detail) no_detail)),
)
spelled asked known line d bytes (inr is) e = (
  Some d,
  e ∙ ap (λ (own : Detail). line_in asked.form asked.root line (shown own.text) own.names) (sym (ap (λ b. cond b d no_detail) is)),
)

-- a detail is its text and its names
pub same_parts : (a : Detail) (text : List ℕ) (names : List (List ℕ)) → text ≡ a.text → names ≡ a.names
    → ◌≡◌ {A = Detail} (record { text = text; names = names }) a
same_parts a text names e f = rw (e, f) refl
