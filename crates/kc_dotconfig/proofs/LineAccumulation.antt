-- The meaning of a line of a configuration file is added to the accumulator.
use Rattle.kc_dotconfig.proofs.Common.{◌≡◌, ℕ, ◌+◌, ◌==◌, true, cond, List, [], ◌∷◌, ◌++◌, length, Option, Some, None, sym, ◌∙◌, ap, subst, Result, Ok, Err, OnOk, IfSome, option_map, insert_entry, nat_cmp, Tree, MemberLine, UserValue, Accumulator, FileFormat, NoticeKind, Escape, Meaning}
use Rattle.kc_dotconfig.proofs.Common.{is_name_prefix, LineMeaning, assigns, unchosen, Means, IsMalformed, choice_line_of, append-nil, without_white_end, meaning_view, IsWithin, IsGathered, lines_in, lines_more, IsPlain}
use Rattle.kc_rules_model.specs.declared.values.UserValue.TheVariants.{Text as TextUser}
use Rattle.kc_dotconfig.specs.declared.meanings.Meaning.TheVariants.{Escaped, Unchosen, Line, Noted, Nothing}
use Rattle.kc_dotconfig_model.specs.between.LineMeanings.{line_meaning}
use Rattle.kc_dotconfig.proofs.Insertions.{gathers_user, gathers_escaped, gathers_unchosen, gathers_line, gathers_nothing, gathers_notice}
use Rattle.kc_dotconfig_model.proofs.LineLaws.{line_read}

pub takes_user : {T E : Type 0} (r : Result T E) (g h : Accumulator) (u : ℕ) (x : UserValue) (meaning : Meaning) → meaning_view meaning ≡ assigns u x
    → IsPlain x → OnOk r (h.assigns ≡ insert_entry nat_cmp g.assigns u x) → OnOk r (h.members.entries ≡ g.members.entries)
    → OnOk r (h.notices.items ≡ g.notices.items) → OnOk r (h.chosen.items ≡ g.chosen.items ++ choice_line_of (g.lines + 1) (assigns u x)) → OnOk r (h.lines ≡ g.lines + 1)
    → OnOk r ((tree : Tree) (meanings : List LineMeaning) → IsWithin (length tree.units) (meaning_view meaning) → IsGathered tree meanings g
    → IsGathered tree (meanings ++ meaning_view meaning ∷ []) h)
takes_user (Ok y) g h u x meaning is plain entries members notices chosen lines =
    λ tree meanings within before. subst (λ s. IsGathered tree (meanings ++ s ∷ []) h) (sym is)
    (gathers_user tree meanings g h u x (subst (λ s. IsWithin (length tree.units) s) is within) plain before entries members notices chosen lines)
takes_user (Err e) g h u x meaning is plain entries members notices chosen lines = tt

pub takes_escaped : {T E : Type 0} (r : Result T E) (g h : Accumulator) (u : ℕ) (text : List ℕ) (meaning : Meaning) → meaning ≡ Escaped u text
    → OnOk r (h.assigns ≡ insert_entry nat_cmp g.assigns u (TextUser text)) → OnOk r (h.members.entries ≡ g.members.entries)
    → OnOk r (h.notices.items ≡ g.notices.items ++ record { line = g.lines + 1; kind = Escape } ∷ [])
    → OnOk r (h.chosen.items ≡ g.chosen.items) → OnOk r (h.lines ≡ g.lines + 1)
    → OnOk r ((tree : Tree) (meanings : List LineMeaning) → IsWithin (length tree.units) (meaning_view meaning) → IsGathered tree meanings g
    → IsGathered tree (meanings ++ meaning_view meaning ∷ []) h)
takes_escaped (Ok y) g h u text meaning is entries members notices chosen lines =
    λ tree meanings within before. subst (λ s. IsGathered tree (meanings ++ meaning_view s ∷ []) h) (sym is)
    (gathers_escaped tree meanings g h u text (subst (λ s. IsWithin (length tree.units) (meaning_view s)) is within) before entries members notices chosen
    lines)
takes_escaped (Err e) g h u text meaning is entries members notices chosen lines = tt

-- what is listed after a line that gives no member of a choice anything
pub none_chosen : {T E : Type 0} (r : Result T E) (g h : Accumulator) → OnOk r (h.chosen.items ≡ g.chosen.items) → OnOk r (h.chosen.items ≡ g.chosen.items ++ [])
none_chosen (Ok y) g h same = same ∙ sym (append-nil g.chosen.items)
none_chosen (Err e) g h same = tt

pub takes_unchosen : {T E : Type 0} (r : Result T E) (g h : Accumulator) (w s : ℕ) (meaning : Meaning) → meaning ≡ Unchosen w s
    → OnOk r (h.assigns ≡ g.assigns) → OnOk r (h.members.entries ≡ g.members.entries) → OnOk r (h.notices.items ≡ g.notices.items)
    → OnOk r (h.chosen.items ≡ g.chosen.items ++ choice_line_of (g.lines + 1) (unchosen w s)) → OnOk r (h.lines ≡ g.lines + 1)
    → OnOk r ((tree : Tree) (meanings : List LineMeaning) → IsWithin (length tree.units) (meaning_view meaning) → IsGathered tree meanings g
    → IsGathered tree (meanings ++ meaning_view meaning ∷ []) h)
takes_unchosen (Ok y) g h w s meaning is entries members notices chosen lines =
    λ tree meanings within before. subst (λ m. IsGathered tree (meanings ++ meaning_view m ∷ []) h) (sym is)
    (gathers_unchosen tree meanings g h w s before entries members notices chosen lines)
takes_unchosen (Err e) g h w s meaning is entries members notices chosen lines = tt

pub takes_line : {T E : Type 0} (r : Result T E) (g h : Accumulator) (w : ℕ) (l : MemberLine) (meaning : Meaning) → meaning ≡ Line w l
    → OnOk r (h.assigns ≡ g.assigns)
    → OnOk r ((u : ℕ) → lines_in h.members.entries u ≡ cond (u == w) (lines_more (lines_in g.members.entries u) l) (lines_in g.members.entries u))
    → OnOk r (h.notices.items ≡ g.notices.items) → OnOk r (h.chosen.items ≡ g.chosen.items) → OnOk r (h.lines ≡ g.lines + 1)
    → OnOk r ((tree : Tree) (meanings : List LineMeaning) → IsWithin (length tree.units) (meaning_view meaning) → IsGathered tree meanings g
    → IsGathered tree (meanings ++ meaning_view meaning ∷ []) h)
takes_line (Ok y) g h w l meaning is entries members notices chosen lines =
    λ tree meanings within before. subst (λ s. IsGathered tree (meanings ++ meaning_view s ∷ []) h) (sym is)
    (gathers_line tree meanings g h w l (subst (λ s. IsWithin (length tree.units) (meaning_view s)) is within) before entries members notices chosen lines)
takes_line (Err e) g h w l meaning is entries members notices chosen lines = tt

pub takes_notice : {T E : Type 0} (r : Result T E) (g h : Accumulator) (kind : NoticeKind) (meaning : Meaning) → meaning ≡ Noted kind
    → OnOk r (h.assigns ≡ g.assigns) → OnOk r (h.members.entries ≡ g.members.entries)
    → OnOk r (h.notices.items ≡ g.notices.items ++ record { line = g.lines + 1; kind = kind } ∷ [])
    → OnOk r (h.chosen.items ≡ g.chosen.items) → OnOk r (h.lines ≡ g.lines + 1)
    → OnOk r ((tree : Tree) (meanings : List LineMeaning) → IsWithin (length tree.units) (meaning_view meaning) → IsGathered tree meanings g
    → IsGathered tree (meanings ++ meaning_view meaning ∷ []) h)
takes_notice (Ok y) g h kind meaning is entries members notices chosen lines =
    λ tree meanings within before. subst (λ s. IsGathered tree (meanings ++ meaning_view s ∷ []) h) (sym is)
    (gathers_notice tree meanings g h kind before entries members notices chosen lines)
takes_notice (Err e) g h kind meaning is entries members notices chosen lines = tt

pub takes_nothing : (g h : Accumulator) (meaning : Meaning) → meaning ≡ Nothing → h.assigns ≡ g.assigns → h.members.entries ≡ g.members.entries
    → h.notices.items ≡ g.notices.items → h.chosen.items ≡ g.chosen.items → h.lines ≡ g.lines + 1
    → (tree : Tree) (meanings : List LineMeaning) → IsWithin (length tree.units) (meaning_view meaning) → IsGathered tree meanings g
    → IsGathered tree (meanings ++ meaning_view meaning ∷ []) h
takes_nothing g h meaning is entries members notices chosen lines tree meanings within before =
    subst (λ s. IsGathered tree (meanings ++ meaning_view s ∷ []) h) (sym is) (gathers_nothing tree meanings g h before entries members notices chosen lines)

pub means_of_view : (format : FileFormat) (tree : Tree) (line text : List ℕ) (o : Option Meaning) (meaning : Meaning)
    → is_name_prefix format.prefix ≡ true → text ≡ line
    → option_map meaning_view o ≡ line_meaning format tree (without_white_end text) → o ≡ Some meaning
    → Means format tree (without_white_end line) (meaning_view meaning)
means_of_view format tree line text o meaning valid same read is =
    (line_read format tree (without_white_end line) (meaning_view meaning) valid).0
    (ap (λ t. line_meaning format tree (without_white_end t)) (sym same) ∙ sym read ∙ ap (option_map meaning_view) is)

pub malformed_of : (format : FileFormat) (tree : Tree) (line text : List ℕ) (o : Option Meaning) → is_name_prefix format.prefix ≡ true → text ≡ line
    → option_map meaning_view o ≡ line_meaning format tree (without_white_end text) → o ≡ None → IsMalformed format tree line
malformed_of format tree line text o valid same read is meaning has_meaning =
    let none : line_meaning format tree (without_white_end line) ≡ None = ap (λ t. line_meaning format tree (without_white_end t)) (sym same) ∙ sym read
    ∙ ap (option_map meaning_view) is in
    let some = (line_read format tree (without_white_end line) meaning valid).1 has_meaning in
    cc (none, some)

pub within_of : (n : ℕ) (o : Option Meaning) (meaning : Meaning) → IfSome o (λ s. IsWithin n (meaning_view s)) → o ≡ Some meaning
    → IsWithin n (meaning_view meaning)
within_of n o meaning within is = subst (λ p. IfSome p (λ s. IsWithin n (meaning_view s))) is within
