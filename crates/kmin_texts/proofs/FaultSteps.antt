-- The details of faults, by their lines.
use Rattle.std.proofs.Common.{Result, IfOk}
use Rattle.kmin_texts.proofs.Common.{◌≡◌, inl, inr, ℕ, Bool, true, false, ◌||◌, ◌==◌, cond, List, [], ◌∷◌, Option, Some, None, Ok, Err, refl, sym, ap, subst, flat_map, TooMany, Detail, KnownFile, is_given, is_of_macro_fault, is_of_missing, is_one_of, never, no_detail, of_line, on_expanded_line}
use Rattle.kmin_texts.proofs.Common.{sourced_on, unread, line_at, Unreadable, FailedRead, MayBe, kept_detail}
use Rattle.std.specs.Str.Lossy.{utf8_lossy}
use Rattle.kc_tokens.specs.declared.language.Language.{Language}
use Rattle.kc_macros_model.specs.Programs.{Fault}
use Rattle.kmin_faults.specs.SourcedPaths.{is_open}
use Rattle.kmin_faults.specs.declared.passed_limits.Limit.TheVariants.{TreeBytes}
use Rattle.kmin_texts.specs.KnownLines.{MayBeReason, MayBeUnread}
use Rattle.kmin_texts.specs.LineDetails.{has_macro, of_limit, path_details, reasons, sourced, words}
use Rattle.kmin_details.specs.Texts.{missing_text, unreadable_text}
use Rattle.kmin_details.specs.declared.places.Unreadable.TheVariants.{NotThere, NoPermission, Folder}
use Rattle.kmin_texts.specs.declared.kept_details.KeptDetail.{KeptDetail}
use Rattle.kmin_texts.specs.between.KeptDetails.{HasMacroAt, hidden_kept}
use Rattle.kmin_texts.proofs.OwnDetails.{first_one, later_one}

-- words of a line
pub words_of : (f : List ℕ → List ℕ) (text given : List ℕ) → given ≡ f text → is_one_of (of_line (λ t. words (f t) ∷ []) (Some text)) (words given) ≡ true
words_of f text given e = subst (λ g. is_one_of (words (f text) ∷ []) (words g) ≡ true) (sym e) (first_one (words (f text)) [])

pub plain_path : (known_of : List ℕ → KnownFile) (path : List ℕ) (d : Detail) → is_open path ≡ false → is_one_of (path_details (known_of path) path) d ≡ true
    → is_one_of (sourced known_of (Some path)) d ≡ true
plain_path known_of path d o h =
    subst (λ b. is_one_of (cond b (words (utf8_lossy path) ∷ []) (path_details (known_of path) path)) d ≡ true) (sym o) h

-- the details for some reasons
abbrev for_reasons : (path : List ℕ) → List Unreadable → List Detail
for_reasons path whys = flat_map (λ why. words (missing_text path why) ∷ words (unreadable_text why) ∷ []) whys

first_shown : (path : List ℕ) (why : Unreadable) (others : List Unreadable) → is_one_of (for_reasons path (why ∷ others)) (words (missing_text path why)) ≡ true
first_shown path why others = first_one (words (missing_text path why)) (words (unreadable_text why) ∷ for_reasons path others)

first_hidden : (path : List ℕ) (why : Unreadable) (others : List Unreadable) → is_one_of (for_reasons path (why ∷ others)) (words (unreadable_text why)) ≡ true
first_hidden path why others =
    later_one (words (unreadable_text why)) (words (missing_text path why)) (words (unreadable_text why) ∷ for_reasons path others)
    (first_one (words (unreadable_text why)) (for_reasons path others))

later_reason : (path : List ℕ) (why : Unreadable) (others : List Unreadable) (d : Detail) → is_one_of (for_reasons path others) d ≡ true
    → is_one_of (for_reasons path (why ∷ others)) d ≡ true
later_reason path why others d h =
    later_one d (words (missing_text path why)) (words (unreadable_text why) ∷ for_reasons path others)
    (later_one d (words (unreadable_text why)) (for_reasons path others) h)

-- a detail of any reason is one for all reasons, and so is one of a path alone
any_reason : (path : List ℕ) (say : Unreadable → Detail) (why : Unreadable)
    → ((w : Unreadable) (others : List Unreadable) → is_one_of (for_reasons path (w ∷ others)) (say w) ≡ true)
    → is_one_of (for_reasons path (reasons None)) (say why) ≡ true
any_reason path say NotThere first = first NotThere (NoPermission ∷ Folder ∷ FailedRead ∷ [])
any_reason path say NoPermission first =
    later_reason path NotThere (NoPermission ∷ Folder ∷ FailedRead ∷ []) (say NoPermission) (first NoPermission (Folder ∷ FailedRead ∷ []))
any_reason path say Folder first =
    later_reason path NotThere (NoPermission ∷ Folder ∷ FailedRead ∷ []) (say Folder)
    (later_reason path NoPermission (Folder ∷ FailedRead ∷ []) (say Folder) (first Folder (FailedRead ∷ [])))
any_reason path say FailedRead first =
    later_reason path NotThere (NoPermission ∷ Folder ∷ FailedRead ∷ []) (say FailedRead)
    (later_reason path NoPermission (Folder ∷ FailedRead ∷ []) (say FailedRead)
    (later_reason path Folder (FailedRead ∷ []) (say FailedRead) (first FailedRead [])))

-- a detail for a reason that a file may have
for_path : (known : KnownFile) (path : List ℕ) (say : Unreadable → Detail) (why : Unreadable) → MayBeUnread known why
    → ((w : Unreadable) (others : List Unreadable) → is_one_of (for_reasons path (w ∷ others)) (say w) ≡ true)
    → is_one_of (path_details known path) (say why) ≡ true
for_path None path say why h first =
    later_one (say why) (words (utf8_lossy path)) (for_reasons path (reasons None)) (any_reason path say why first)
for_path (Some (Err known)) path say why h first = subst (λ w. is_one_of (for_reasons path (w ∷ [])) (say why) ≡ true) h (first why [])
for_path (Some (Ok bytes)) path say why h first =
    later_one (say why) (words (utf8_lossy path)) (for_reasons path (FailedRead ∷ []))
    (subst (λ w. is_one_of (for_reasons path (w ∷ [])) (say why) ≡ true) h (first why []))

pub shown_reason : (known : KnownFile) (path : List ℕ) (why : Unreadable) → MayBeUnread known why
    → is_one_of (path_details known path) (words (missing_text path why)) ≡ true
shown_reason known path why h = for_path known path (λ w. words (missing_text path w)) why h (first_shown path)

pub hidden_reason : (known : KnownFile) (path : List ℕ) (why : Unreadable) → MayBeUnread known why
    → is_one_of (path_details known path) (words (unreadable_text why)) ≡ true
hidden_reason known path why h = for_path known path (λ w. words (unreadable_text w)) why h (first_hidden path)

pub may_hide_reason : (known : KnownFile) (path : List ℕ) (why : Unreadable) → MayBeUnread known why
    → MayBe (is_one_of (path_details known path)) (words (unreadable_text why))
may_hide_reason known path why h = inr (hidden_reason known path why h)

-- a copy of a path, with the reason that was found for it
module _ (known : KnownFile) (path copy : List ℕ) (found : Option Unreadable) (why : Unreadable) (is : found ≡ Some why) (may : MayBeReason known found) where
  pub shown_copy : copy ≡ path → is_one_of (path_details known path) (words (missing_text copy why)) ≡ true
  shown_copy same = rw same (shown_reason known path why (rw is at may))

  pub hidden_copy : MayBe (is_one_of (path_details known path)) (words (unreadable_text why))
  hidden_copy = may_hide_reason known path why (rw is at may)

-- a path alone, of a file that may be one that can be read
pub alone : (known : KnownFile) (path : List ℕ) → MayBeReason known None → is_one_of (path_details known path) (words (utf8_lossy path)) ≡ true
alone None path h = first_one (words (utf8_lossy path)) (for_reasons path (reasons None))
alone (Some (Err why)) path h = absurd h
alone (Some (Ok bytes)) path h = first_one (words (utf8_lossy path)) (for_reasons path (FailedRead ∷ []))

-- a file that an expansion can't open: any path where the line has a macro, else as without one
pub of_macro : (language : Language) (known_of : List ℕ → KnownFile) (known : KnownFile) (path : List ℕ) (number : ℕ) (d : Detail) → HasMacroAt known number
    → is_of_missing language known_of known path number d ≡ true
of_macro language known_of None path number d h = refl
of_macro language known_of (Some (Err why)) path number d h = absurd h
of_macro language known_of (Some (Ok bytes)) path number d h =
    ap (λ b. b || is_one_of (unread FailedRead) d || is_one_of (sourced_on known_of language path (line_at bytes number)) d) h

pub of_missing : (language : Language) (known_of : List ℕ → KnownFile) (known : KnownFile) (path : List ℕ) (number : ℕ) (d : Detail)
    → is_given known (λ bytes. sourced_on known_of language path (line_at bytes number)) unread d ≡ true
    → is_of_missing language known_of known path number d ≡ true
of_missing language known_of None path number d h = refl
of_missing language known_of (Some (Err why)) path number d h = h
of_missing language known_of (Some (Ok bytes)) path number d h = either_way (has_macro (line_at bytes number)) (is_one_of (unread FailedRead) d) _ h
  where
    either_way : (a b c : Bool) → (b || c) ≡ true → (a || b || c) ≡ true
    either_way true b c h = refl
    either_way false b c h = h

pub of_expanded : (language : Language) (known_of : List ℕ → KnownFile) (fault : Fault) (d : Detail) → (fault.at.line == 0) ≡ false
    → is_given (known_of fault.at.file) (λ bytes. on_expanded_line (line_at bytes fault.at.line)) never d ≡ true → is_of_macro_fault language known_of fault TooMany d ≡ true
of_expanded language known_of fault d z h =
    subst (λ b. cond b (is_one_of (of_limit (Some TreeBytes)) d) (is_given (known_of fault.at.file) (λ bytes. on_expanded_line (line_at bytes fault.at.line)) never d) ≡ true) (sym z) h

-- a path alone, where no reason was found for it
pub alone_shown : {E : Type 0} (known : KnownFile) (path : List ℕ) (found : Option Unreadable) (r : Result KeptDetail E) → found ≡ None → MayBeReason known found
    → IfOk r (λ detail. kept_detail detail ≡ words (utf8_lossy path)) → IfOk r (λ detail. is_one_of (path_details known path) (kept_detail detail) ≡ true)
alone_shown known path found (Ok detail) is may same = rw same (alone known path (rw is at may))
alone_shown known path found (Err e) is may same = tt

pub alone_hidden : {E : Type 0} (known : KnownFile) (path : List ℕ) (r : Result KeptDetail E) → IfOk r (λ detail. hidden_kept detail ≡ no_detail)
    → IfOk r (λ detail. MayBe (is_one_of (path_details known path)) (hidden_kept detail))
alone_hidden known path (Ok detail) same = inl same
alone_hidden known path (Err e) same = tt
