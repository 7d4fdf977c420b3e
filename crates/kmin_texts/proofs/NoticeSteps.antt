-- The details of notices, by their lines.
use Rattle.std.specs.Prelude.{IfSome, IfNone, option_map}
use Rattle.kmin_texts.proofs.Common.{◌≡◌, inl, inr, ℕ, Bool, true, false, ◌&&◌, List, [], ◌∷◌, Option, Some, None, refl, sym, ap, subst, ◌∙◌, Bor, Detail, IsLineOf, KnownFile, is_one_of, never, of_line, utf8_line, MayBe, nearest_detail}
use Rattle.std.proofs.lemmas.Bool.{false≢true}
use Rattle.kc_tree_model.specs.LogicalLines.{without_white_end}
use Rattle.kc_dotconfig_model.specs.between.LineMeanings.{value_parts}
use Rattle.kc_dotconfig_model.specs.declared.notice.NoticeKind.{NoticeKind}
use Rattle.kc_dotconfig_model.specs.declared.notice.NoticeKind.TheVariants as notices
use Rattle.kmin_texts.specs.LineDetails.{is_of_kind, is_of_notice, is_of_unknown, of_unknown, of_value, on_notice_line, on_noticed, unknown, value}
use Rattle.kmin_details.specs.NearNames.{nearest}
use Rattle.kmin_details.specs.between.NamedSymbols.{first_name, hidden_text, name_text, named_on, notice_names, notice_text, one_name, parts_text}
use Rattle.kmin_texts.specs.between.NoticeDetails.{hidden_detail, is_noticed_on}
use Rattle.kmin_texts.proofs.OwnDetails.{by_line, first_one, later_one}

-- two tests that a detail passes
both : (a b : Bool) → a ≡ true → b ≡ true → (a && b) ≡ true
both a b h k = ap (λ x. x && b) h ∙ k

each : (a b : Bool) → (a && b) ≡ true → (a ≡ true) × (b ≡ true)
each true b h = (refl, h)
each false b h = absurd (false≢true h)

-- whether a detail is that of a notice at a line of UTF-8
abbrev is_on : NoticeKind → (prefix : List ℕ) → (names : List (List ℕ)) → (text : List ℕ) → Detail → Bool
is_on kind prefix names text d = is_of_kind kind names d && is_one_of (on_notice_line kind prefix names text) d

of_name : (names : List (List ℕ)) (o : Option (List ℕ))
    → MayBe (λ d. is_of_unknown names d && is_one_of (of_unknown names o) d) (record { text = name_text o; names = one_name o })
of_name names None = inl refl
of_name names (Some name) =
    let alone = later_one (unknown name None) (unknown name (nearest name names)) (unknown name None ∷ []) (first_one (unknown name None) []) in
    inr (both (is_of_unknown names (unknown name None)) _ alone alone)

of_nearest : (names : List (List ℕ)) (o : Option (List ℕ))
    → MayBe (λ d. is_of_unknown names d && is_one_of (of_unknown names o) d) (nearest_detail o names)
of_nearest names None = inl refl
of_nearest names (Some name) =
    let near = first_one (unknown name (nearest name names)) (unknown name None ∷ []) in
    inr (both (is_of_unknown names (unknown name (nearest name names))) _ near near)

of_parts : (o : Option (List ℕ × List ℕ)) → MayBe (is_one_of (of_value o)) (record { text = parts_text o; names = first_name o })
of_parts None = inl refl
of_parts (Some parts) = inr (first_one (value parts.0 parts.1) (unknown parts.0 None ∷ []))

of_hidden_parts : (o : Option (List ℕ × List ℕ))
    → MayBe (is_one_of (of_value o)) (record { text = name_text (option_map (λ (parts : List ℕ × List ℕ). parts.0) o); names = first_name o })
of_hidden_parts None = inl refl
of_hidden_parts (Some parts) = inr (later_one (unknown parts.0 None) (value parts.0 parts.1) (unknown parts.0 None ∷ []) (first_one (unknown parts.0 None) []))

-- of a line of UTF-8: as it is shown, and as it is hidden
noticed_shown : (kind : NoticeKind) (prefix : List ℕ) (names : List (List ℕ)) (text : List ℕ)
    → MayBe (is_on kind prefix names text) (record { text = notice_text kind prefix text; names = notice_names kind prefix text })
noticed_shown notices.UnknownSymbol prefix names text = of_name names (named_on prefix text)
noticed_shown notices.NotOfType prefix names text = of_parts (value_parts prefix (without_white_end text))
noticed_shown notices.Escape prefix names text = inl refl
noticed_shown notices.OtherChoice prefix names text = inl refl

noticed_hidden : (kind : NoticeKind) (prefix : List ℕ) (names : List (List ℕ)) (text : List ℕ)
    → MayBe (is_on kind prefix names text) (record { text = hidden_text kind prefix text; names = notice_names kind prefix text })
noticed_hidden notices.UnknownSymbol prefix names text = of_name names (named_on prefix text)
noticed_hidden notices.NotOfType prefix names text = of_hidden_parts (value_parts prefix (without_white_end text))
noticed_hidden notices.Escape prefix names text = inl refl
noticed_hidden notices.OtherChoice prefix names text = inl refl

-- the same of a line that is UTF-8, as its bytes say
module _ (kind : NoticeKind) (prefix : List ℕ) (names : List (List ℕ)) (line text : List ℕ) (utf8 : utf8_line (Some line) ≡ Some text) where
  on_line : (d : Detail) → MayBe (is_on kind prefix names text) d → MayBe (is_noticed_on kind prefix names (Some line)) d
  on_line d h =
      subst (λ o. MayBe (λ (e : Detail). is_of_kind kind names e && is_one_of (of_line (on_notice_line kind prefix names) o) e) d) (sym utf8) h

  pub shown_on : (d : Detail) → d ≡ record { text = notice_text kind prefix text; names = notice_names kind prefix text }
      → MayBe (is_noticed_on kind prefix names (Some line)) d
  shown_on d e = on_line d (subst (MayBe (is_on kind prefix names text)) (sym e) (noticed_shown kind prefix names text))

pub nearest_on : (prefix line text : List ℕ) (utf8 : utf8_line (Some line) ≡ Some text) (names : List (List ℕ)) (d : Detail)
    → d ≡ nearest_detail (named_on prefix text) names → MayBe (is_noticed_on notices.UnknownSymbol prefix names (Some line)) d
nearest_on prefix line text utf8 names d e =
    on_line notices.UnknownSymbol prefix names line text utf8 d
    (subst (MayBe (is_on notices.UnknownSymbol prefix names text)) (sym e) (of_nearest names (named_on prefix text)))

hidden_by : (kind : NoticeKind) (prefix : List ℕ) (names : List (List ℕ)) (o : Option (List ℕ))
    → MayBe (λ (e : Detail). is_of_kind kind names e && is_one_of (of_line (on_notice_line kind prefix names) o) e) (hidden_detail kind prefix o)
hidden_by kind prefix names None = inl refl
hidden_by kind prefix names (Some text) = noticed_hidden kind prefix names text

pub hidden_on : (kind : NoticeKind) (prefix : List ℕ) (names : List (List ℕ)) (line : Option (List ℕ)) (d : Detail)
    → d ≡ hidden_detail kind prefix (utf8_line line) → MayBe (is_noticed_on kind prefix names line) d
hidden_on kind prefix names line d e =
    subst (MayBe (is_noticed_on kind prefix names line)) (sym e) (hidden_by kind prefix names (utf8_line line))

-- what is noticed on a line may be noticed at a file that is known so far
pub at_line : (kind : NoticeKind) (prefix : List ℕ) (names : List (List ℕ)) (known : KnownFile) (number : ℕ) (line : Option (List ℕ)) (d : Detail)
    → IsLineOf known number line → MayBe (is_noticed_on kind prefix names line) d → MayBe (is_of_notice kind prefix names known number) d
at_line kind prefix names known number line d h (inl none) = inl none
at_line kind prefix names known number line d h (inr is) =
    let parts = each (is_of_kind kind names d) (is_one_of (on_noticed kind prefix names line) d) is in
    inr (both (is_of_kind kind names d) _ parts.0 (by_line known number line (on_noticed kind prefix names) never d h parts.1))

-- a name that was found, as the definitions have it
pub named_is : (found : Option (Bor (List ℕ))) (name : Option (List ℕ)) → IfSome found (λ other. name ≡ Some other.now) → IfNone found (name ≡ None)
    → option_map (λ (other : Bor (List ℕ)). other.now) found ≡ name
named_is None name some none = sym none
named_is (Some other) name some none = sym some
