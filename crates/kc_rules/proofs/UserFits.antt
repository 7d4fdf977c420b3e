-- User values that fit units, by what the unit is.
use Rattle.std.proofs.Common.{◌≡◌, inl, inr, ℕ, ◌<◌, ◌==◌, Bool, true, false, not, ◌&&◌, List, length, Option, Some, None, IsUtf8, refl, sym, ap, ◌∙◌}
use Rattle.std.specs.List.{list_any}
use Rattle.std.proofs.lemmas.Bool.{cases_Bool, false≢true, eqb-true, eq-eqb}
use Rattle.std.specs.Prelude.{slice_get}
use Rattle.std.specs.Str.{is_utf8}
use Rattle.std.proofs.lemmas.Str.{is_utf8-from_IsUtf8}
use Rattle.kc_tree_model.specs.Trees.{Tree, Symbol, Choice}
use Rattle.kc_tree_model.specs.TreeLookup.{IsConsistent}
use Rattle.kc_tree_model.proofs.Lookups.{inside}
use Rattle.kc_tree_model.specs.declared.ids.Unit.TheVariants.{Symbol as of_symbol, Choice as of_choice}
use Rattle.kc_value.specs.Lines.{has_newline}
use Rattle.kc_rules_model.specs.declared.values.UserValue.{UserValue}
use Rattle.kc_rules_model.specs.declared.values.UserValue.TheVariants.{Tri as TriUser, Text as TextUser, Member as MemberUser, Lines as LinesUser}
use Rattle.kc_rules_model.specs.Shapes.{user_fits, unit_user_fits, symbol_user_fits, choice_user_fits, is_member, is_line}
use Rattle.kc_rules.specs.checker.Fits.{kind_user_fits}

kept : (b u : Bool) → u ≡ true → b ≡ (b && u)
kept true u e = sym e
kept false u e = refl

-- a text of UTF-8 is one line exactly if it has no newline
pub line_is : (text : List ℕ) → IsUtf8 text → not (has_newline text) ≡ is_line text
line_is text e = kept (not (has_newline text)) (is_utf8 text) (is_utf8-from_IsUtf8 text e)

of_kind : (symbol : Symbol) (x : UserValue) → kind_user_fits symbol.kind x ≡ symbol_user_fits (Some symbol) x
of_kind symbol (TriUser t) = refl
of_kind symbol (TextUser text) = refl
of_kind symbol (MemberUser s) = refl
of_kind symbol (LinesUser lines) = refl

pub fits_symbol : (tree : Tree) (u s : ℕ) (symbol : Symbol) (x : UserValue) → slice_get tree.units u ≡ Some (of_symbol s)
    → slice_get tree.symbols s ≡ Some symbol → kind_user_fits symbol.kind x ≡ user_fits tree u x
unfolding user_fits
fits_symbol tree u s symbol x e f = of_kind symbol x ∙ sym (ap (λ o. unit_user_fits tree o x) e ∙ ap (λ o. symbol_user_fits o x) f)

pub fits_choice : (tree : Tree) (u c : ℕ) (x : UserValue) → slice_get tree.units u ≡ Some (of_choice c)
    → choice_user_fits tree.language (slice_get tree.choices c) x ≡ user_fits tree u x
unfolding user_fits
fits_choice tree u c x e = sym (ap (λ o. unit_user_fits tree o x) e)

-- a symbol that isn't there is no member
pub no_member : (tree : Tree) → IsConsistent tree → (c s : ℕ) → (s < length tree.symbols → ⊥) → is_member (slice_get tree.choices c) s ≡ false
no_member tree sound c s past = go (slice_get tree.choices c) refl where
  go : (o : Option Choice) → slice_get tree.choices c ≡ o → is_member o s ≡ false
  go None e = refl
  go (Some choice) e = elim (cases_Bool (list_any (λ m. m == s) choice.members)) [
    | inl is ↦ let found = sound.members c s choice e is in absurd (past (inside tree.symbols s found.0 found.1))
    | inr other_one ↦ other_one
  ]

-- a symbol is a member of the choice that it names, and of no other
none_of : (tree : Tree) → IsConsistent tree → (c s : ℕ) (symbol : Symbol) → slice_get tree.symbols s ≡ Some symbol → (symbol.choice ≡ Some c → ⊥)
    → is_member (slice_get tree.choices c) s ≡ false
none_of tree sound c s symbol e other = go (slice_get tree.choices c) refl where
  go : (o : Option Choice) → slice_get tree.choices c ≡ o → is_member o s ≡ false
  go None f = refl
  go (Some choice) f = elim (cases_Bool (list_any (λ m. m == s) choice.members)) [
    | inl is ↦
        let found = sound.members c s choice f is in
        let there = found.1 in
        let same : symbol ≡ found.0 = cc in absurd (other (ap (λ (x : Symbol). x.choice) same ∙ found.2))
    | inr other_one ↦ other_one
  ]

pub member_of_none : (tree : Tree) → IsConsistent tree → (c s : ℕ) (symbol : Symbol) → slice_get tree.symbols s ≡ Some symbol → symbol.choice ≡ None
    → false ≡ is_member (slice_get tree.choices c) s
member_of_none tree sound c s symbol e alone = sym (none_of tree sound c s symbol e (λ own. cc))

pub member_of : (tree : Tree) → IsConsistent tree → (c s own : ℕ) (symbol : Symbol) → slice_get tree.symbols s ≡ Some symbol → symbol.choice ≡ Some own
    → (own == c) ≡ is_member (slice_get tree.choices c) s
member_of tree sound c s own symbol e names = elim (cases_Bool (own == c)) [
  | inl same ↦
      let found = sound.listed s c symbol e (names ∙ ap Some (eqb-true own c same)) in
      same ∙ sym (ap (λ o. is_member o s) found.1 ∙ found.2)
  | inr other ↦ other ∙ sym (none_of tree sound c s symbol e (λ is. absurd (false≢true (sym other ∙ eq-eqb own c (let same : own ≡ c = cc in same)))))
]
