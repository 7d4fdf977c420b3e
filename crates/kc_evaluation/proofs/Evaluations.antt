-- The rules of units, by whether a unit is a symbol or a choice.
use Rattle.std.proofs.Common.{◌≡◌, inl, inr, ◌==◌, arith, ℕ, ◌<◌, true, false, not, IsTrue, List, length, Option, Some, None, IfSome, sym, ap, ◌∙◌}
use Rattle.std.specs.Prelude.{slice_get}
use Rattle.std.specs.List.{All, list_any}
use Rattle.std.proofs.lemmas.Bool.{cases_lt, false≢true, false_from_ne_true, eqb-true, and_parts}
use Rattle.std.proofs.lemmas.List.Elements.{All-weaker}
use Rattle.std.proofs.lemmas.List.Folds.{list_any_none}
use Rattle.kc_tokens.specs.Languages.{is_linux_6_12}
use Rattle.kc_tree_model.specs.Trees.{Tree, Symbol, Choice}
use Rattle.kc_tree_model.specs.declared.ids.Unit.TheVariants.{Symbol as of_symbol, Choice as of_choice}
use Rattle.kc_rules_model.specs.declared.profile.Profile.{Profile}
use Rattle.kc_rules_model.specs.declared.values.UnitValue.{UnitValue}
use Rattle.kc_rules_model.specs.declared.values.UnitValue.TheVariants.{Member as MemberValue}
use Rattle.kc_rules_model.specs.declared.values.UserValue.{UserValue}
use Rattle.kc_rules_model.specs.declared.values.UserValue.TheVariants.{Tri as TriUser, Text as TextUser, Member as MemberUser, Lines as LinesUser}
use Rattle.kc_rules_model.specs.Rule.{rule, rule_of_unit, rule_of_symbol, rule_of_choice, symbol_rule, choice_rule, assigned_member}
use Rattle.kc_rules_model.specs.Shapes.{user_fits, unit_user_fits, choice_user_fits}

pub rule_symbol : (profile : Profile) (tree : Tree) (u s : ℕ) (symbol : Symbol) (user : Option UserValue) (values : List UnitValue)
    → slice_get tree.units u ≡ Some (of_symbol s) → slice_get tree.symbols s ≡ Some symbol
    → symbol_rule symbol.kind profile tree symbol user values ≡ rule profile tree u user values
unfolding rule
rule_symbol profile tree u s symbol user values e f =
    sym (ap (λ o. rule_of_unit profile tree o user values) e ∙ ap (λ o. rule_of_symbol profile tree o user values) f)

pub rule_choice : (profile : Profile) (tree : Tree) (u c : ℕ) (choice : Choice) (user : Option UserValue) (values : List UnitValue)
    → slice_get tree.units u ≡ Some (of_choice c) → slice_get tree.choices c ≡ Some choice
    → MemberValue (choice_rule tree choice user values) ≡ rule profile tree u user values
unfolding rule
rule_choice profile tree u c choice user values e f = sym (ap (λ o. rule_of_unit profile tree o user values) e ∙ ap (λ o. rule_of_choice tree o user values) f)

in_all : (n : ℕ) (ms : List ℕ) (s : ℕ) → All (λ m. m < n) ms → list_any (λ m. m == s) ms ≡ true → s < n
in_all n ms s all e = elim (cases_lt s n) [
  | inl h ↦ h
  | inr h ↦ absurd (false≢true (sym (list_any_none (λ m. m == s) ms (All-weaker (λ m. m < n) (λ m. (m == s) ≡ false)
      (λ m l. false_from_ne_true (m == s) (λ q. let same : m ≡ s = eqb-true m s q in absurd (omega arith))) ms all)) ∙ e))
]

-- what fits a choice, as the choice's members have it
fits_members : (tree : Tree) (u c : ℕ) (choice : Choice) (x : UserValue) → slice_get tree.units u ≡ Some (of_choice c) → slice_get tree.choices c ≡ Some choice
    → IsTrue (user_fits tree u x) → choice_user_fits tree.language (Some choice) x ≡ true
unfolding user_fits
fits_members tree u c choice x e f fits = sym (ap (λ o. unit_user_fits tree o x) e ∙ ap (λ o. choice_user_fits tree.language o x) f) ∙ fits

pub member_there : (tree : Tree) (u c : ℕ) (choice : Choice) (x : Option UserValue) → slice_get tree.units u ≡ Some (of_choice c)
    → slice_get tree.choices c ≡ Some choice → All (λ s. s < length tree.symbols) choice.members → IfSome x (λ y. IsTrue (user_fits tree u y))
    → IfSome (assigned_member x) (λ s. s < length tree.symbols)
member_there tree u c choice None e f all fits = tt
member_there tree u c choice (Some (TriUser t)) e f all fits = tt
member_there tree u c choice (Some (TextUser t)) e f all fits = tt
member_there tree u c choice (Some (LinesUser lines)) e f all fits = tt
member_there tree u c choice (Some (MemberUser s)) e f all fits =
    in_all (length tree.symbols) choice.members s all
    (and_parts (not (is_linux_6_12 tree.language)) (list_any (λ m. m == s) choice.members) (fits_members tree u c choice (MemberUser s) e f fits)).1
