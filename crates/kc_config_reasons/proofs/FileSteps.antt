-- The lines of a file are gone over one after another.
use Rattle.kc_config_reasons.proofs.Common.{◌≡◌, ℕ, ◌+◌, true, List, [], ◌∷◌, Option, Some, None, refl, sym, ◌∙◌, ap, subst, option_map, AllZip, option_or, is_utf8, Tree, unit_of, without_white_end, FileFormat, LineMeaning, Means, line_giving, said_to, user_by_line, AskingLine, FileLines, line_view}
use Rattle.kc_config_reasons.proofs.Common.{line_at, later_line, line_kept, KeepsLines, AreBelow, NumbersBelow, Keeps}
use Rattle.std.specs.List.{list_all}
use Rattle.std.proofs.lemmas.Bool.{and_parts}
use Rattle.kc_value.specs.Lines.{pieces}
use Rattle.kc_dotconfig_model.specs.ConfigFiles.{has_utf8_lines, FileMeans}
use Rattle.kc_reasons_model.specs.AssigningLines.{assigning_line}
use Rattle.kc_config_reasons.proofs.OwnLines.{own_line}

-- what is left of a file after its first `lines` lines, and what is kept of these lines are together the file
abbrev pub Leads : FileFormat → Tree → (bytes rest : List ℕ) → (lines : ℕ) → FileLines → Type 0
Leads format tree bytes rest lines f = (meanings : List LineMeaning) → has_utf8_lines bytes ≡ true → FileMeans format tree bytes meanings
    → (left : List LineMeaning) × (has_utf8_lines rest ≡ true) × FileMeans format tree rest left × NumbersBelow (lines + 1) f
    × ((s : ℕ) → option_or (assigning_line (unit_of tree s) s (lines + 1) left) (option_map line_view (line_kept f (unit_of tree s) s)) ≡ assigning_line (unit_of tree s) s 1 meanings)

or_assoc : {X : Type 0} (a b c : Option X) → option_or (option_or a b) c ≡ option_or a (option_or b c)
or_assoc None b c = refl
or_assoc (Some x) b c = refl

-- one more line was read
module _ (format : FileFormat) (tree : Tree) (bytes rest line after : List ℕ) (lines next : ℕ) (f g : FileLines)
    (cut : pieces 10 rest ≡ line ∷ pieces 10 after) (is_next : next ≡ lines + 1)
    (kept : (meaning : LineMeaning) → is_utf8 line ≡ true → Means format tree (without_white_end line) meaning → Keeps next meaning f g) where
  abbrev Left : List LineMeaning → List LineMeaning → Type 0
  Left meanings left = (has_utf8_lines after ≡ true) × FileMeans format tree after left × NumbersBelow (next + 1) g
      × ((s : ℕ) → option_or (assigning_line (unit_of tree s) s (next + 1) left) (option_map line_view (line_kept g (unit_of tree s) s)) ≡ assigning_line (unit_of tree s) s 1 meanings)

  one_line : (meanings left : List LineMeaning) → list_all is_utf8 (line ∷ pieces 10 after) ≡ true
      → AllZip (λ line meaning. Means format tree (without_white_end line) meaning) (line ∷ pieces 10 after) left → NumbersBelow next f
      → ((s : ℕ) → option_or (assigning_line (unit_of tree s) s next left) (option_map line_view (line_kept f (unit_of tree s) s)) ≡ assigning_line (unit_of tree s) s 1 meanings)
      → (others : List LineMeaning) × Left meanings others
  one_line meanings [] utf8 means below same = absurd means
  one_line meanings (meaning ∷ left) utf8 means below same =
      let both = and_parts (is_utf8 line) _ utf8 in
      let step = kept meaning both.0 means.0 tree (own_line tree format (without_white_end line) meaning means.0) below in (
        left,
        (
          both.1,
          means.1,
          step.1,
          λ s.
              let asked = line_giving next (said_to s (user_by_line (unit_of tree s) meaning)) in
              ap (option_or (assigning_line (unit_of tree s) s (next + 1) left)) (step.0 s)
              ∙ sym (or_assoc (assigning_line (unit_of tree s) s (next + 1) left) asked (option_map line_view (line_kept f (unit_of tree s) s)))
              ∙ same s,
        ),
      )

  pub leads_on : Leads format tree bytes rest lines f → Leads format tree bytes after next g
  leads_on before meanings utf8 means =
      let old = before meanings utf8 means in
      let next_line = one_line meanings old.0 (subst (λ ls. list_all is_utf8 ls ≡ true) cut old.1)
      (subst (λ ls. AllZip (λ line meaning. Means format tree (without_white_end line) meaning) ls old.0) cut old.2)
      (subst (λ n. NumbersBelow n f) (sym is_next) old.3)
      (λ s. ap (λ n. option_or (assigning_line (unit_of tree s) s n old.0) (option_map line_view (line_kept f (unit_of tree s) s))) is_next ∙ old.4 s) in
      (next_line.0, next_line.1.0, next_line.1.1, next_line.1.2, next_line.1.3)

or_none : {X : Type 0} (o : Option X) → option_or o None ≡ o
or_none None = refl
or_none (Some x) = refl

none_below : (n : ℕ) (kept : List (ℕ × AskingLine)) → kept ≡ [] → AreBelow n kept
none_below n kept empty k l e = let none : line_at kept k ≡ None = ap (λ es. line_at es k) empty in absurd (cc)

-- before the first line
pub leads_at_first : (format : FileFormat) (tree : Tree) (bytes : List ℕ) (f : FileLines) → f.units.entries ≡ [] → f.members.entries ≡ [] → Leads format tree bytes bytes 0 f
leads_at_first format tree bytes f units members meanings utf8 means = (
  meanings,
  utf8,
  means,
  (none_below 1 f.units.entries units, none_below 1 f.members.entries members),
  λ s.
      ap (λ es. option_or (assigning_line (unit_of tree s) s 1 meanings) (option_map line_view (later_line (line_at es (unit_of tree s)) (line_at f.members.entries s)))) units
      ∙ ap (λ es. option_or (assigning_line (unit_of tree s) s 1 meanings) (option_map line_view (line_at es s))) members
      ∙ or_none (assigning_line (unit_of tree s) s 1 meanings),
)

module _ (format : FileFormat) (tree : Tree) where
  none_left : (left : List LineMeaning) → FileMeans format tree [] left → left ≡ []
  none_left [] means = refl
  none_left (meaning ∷ left) means = absurd means

-- after the last line
pub leads_to_end : (format : FileFormat) (tree : Tree) (bytes rest : List ℕ) (lines : ℕ) (f : FileLines) → rest ≡ [] → Leads format tree bytes rest lines f
    → (meanings : List LineMeaning) → has_utf8_lines bytes ≡ true → FileMeans format tree bytes meanings → KeepsLines tree meanings f
leads_to_end format tree bytes rest lines f end before meanings utf8 means s =
    let old = before meanings utf8 means in
    let none = none_left format tree old.0 (subst (λ r. FileMeans format tree r old.0) end old.2) in
    ap (λ left. option_or (assigning_line (unit_of tree s) s (lines + 1) left) (option_map line_view (line_kept f (unit_of tree s) s))) (sym none) ∙ old.4 s
