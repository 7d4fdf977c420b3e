-- The lines that are left over, from the first line on.
use Rattle.std.proofs.Common.{◌≡◌, ℕ, ◌+◌, ◌<◌, Bool, true, false, cond, List, [], ◌∷◌, ◌++◌, append_assoc, append-nil, refl, sym, ap, ◌∙◌, arith}
use Rattle.std.specs.Str.{bytes_eq}
use Rattle.std.specs.Borrow.{Bor}
use Rattle.std.proofs.lemmas.Cmp.{nat_list_eq_equiv}
use Rattle.std.proofs.lemmas.List.{map-append}
use Rattle.kmin_lines.specs.Lines.{without_one, left_over}
use Rattle.kmin_lines.specs.checker.Bags.{times_among}
use Rattle.kmin_lines.specs.between.Texts.{texts_of}
use Rattle.kmin_lines.proofs.BagLemmas.{absent}

-- of no lines none is left
pub none_left : (others : List (List ℕ)) → left_over [] others ≡ []
none_left [] = refl
none_left (other ∷ others) = none_left others

-- a line that is among the others goes, and takes one of them with it
gone_by : (others : List (List ℕ)) (other line : List ℕ) (lines : List (List ℕ)) (b : Bool) → bytes_eq line other ≡ b
    → 0 < cond b 1 0 + times_among others line
    → ((rest : List (List ℕ)) → 0 < times_among others line → left_over (line ∷ rest) others ≡ left_over rest (without_one line others))
    → left_over (cond b lines (line ∷ without_one other lines)) others ≡ left_over lines (cond b others (other ∷ without_one line others))
gone_by others other line lines true e some next = refl
gone_by others other line lines false e some next = next (without_one other lines) (omega arith)

pub gone : (others : List (List ℕ)) (line : List ℕ) (lines : List (List ℕ)) → 0 < times_among others line
    → left_over (line ∷ lines) others ≡ left_over lines (without_one line others)
gone [] line lines some = absurd (omega arith)
gone (other ∷ others) line lines some =
    ap (λ b. left_over (cond b lines (line ∷ without_one other lines)) others) (nat_list_eq_equiv.symm other line)
    ∙ gone_by others other line lines (bytes_eq line other) refl some (λ rest h. gone others line rest h)

-- a line that isn't among the others stays
stays_by : (others : List (List ℕ)) (other line : List ℕ) (lines : List (List ℕ)) (b : Bool) → cond b 1 0 + times_among others line ≡ 0
    → ((rest : List (List ℕ)) → times_among others line ≡ 0 → left_over (line ∷ rest) others ≡ line ∷ left_over rest others)
    → left_over (cond b lines (line ∷ without_one other lines)) others ≡ line ∷ left_over (without_one other lines) others
stays_by others other line lines true none next = absurd (omega arith)
stays_by others other line lines false none next = next (without_one other lines) (omega arith)

pub stays : (others : List (List ℕ)) (line : List ℕ) (lines : List (List ℕ)) → times_among others line ≡ 0
    → left_over (line ∷ lines) others ≡ line ∷ left_over lines others
stays [] line lines none = refl
stays (other ∷ others) line lines none =
    ap (λ b. left_over (cond b lines (line ∷ without_one other lines)) others) (nat_list_eq_equiv.symm other line)
    ∙ stays_by others other line lines (bytes_eq line other) none (λ rest h. stays others line rest h)

-- a line that stays is listed
pub listed : (old new : List (Bor (List ℕ))) (line : Bor (List ℕ)) (rest lines others all : List (List ℕ)) → new ≡ old ++ line ∷ [] → rest ≡ line.now ∷ lines
    → times_among others line.now ≡ 0 → texts_of old ++ left_over rest others ≡ all → texts_of new ++ left_over lines (without_one line.now others) ≡ all
listed old new line rest lines others all e cut none h =
    ap (λ items. texts_of items ++ left_over lines (without_one line.now others)) e
    ∙ ap (λ texts. texts ++ left_over lines (without_one line.now others)) (map-append (λ (text : Bor (List ℕ)). text.now) old (line ∷ []))
    ∙ append_assoc (texts_of old) (line.now ∷ []) (left_over lines (without_one line.now others))
    ∙ ap (λ left. texts_of old ++ line.now ∷ left_over lines left) (absent line.now others none)
    ∙ ap (λ left. texts_of old ++ left) (sym (stays others line.now lines none) ∙ ap (λ ls. left_over ls others) (sym cut))
    ∙ h

-- a line that goes isn't
pub passed : (texts : List (List ℕ)) (line : List ℕ) (rest lines others all : List (List ℕ)) → rest ≡ line ∷ lines → 0 < times_among others line
    → texts ++ left_over rest others ≡ all → texts ++ left_over lines (without_one line others) ≡ all
passed texts line rest lines others all cut some h =
    ap (λ left. texts ++ left) (sym (gone others line lines some) ∙ ap (λ ls. left_over ls others) (sym cut)) ∙ h

-- where no line is left to look at, all are listed
pub all_listed : (texts rest others all : List (List ℕ)) → rest ≡ [] → texts ++ left_over rest others ≡ all → texts ≡ all
all_listed texts rest others all none h =
    sym (append-nil texts) ∙ ap (λ left. texts ++ left) (sym (ap (λ ls. left_over ls others) none ∙ none_left others)) ∙ h
