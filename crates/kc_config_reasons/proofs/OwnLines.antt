-- What a line assigns to members of a choice is of one member, and its unit.
use Rattle.kc_config_reasons.proofs.Common.{ℕ, Bool, true, false, cond, List, [], ◌∷◌, Option, Some, None, refl, Tree, Symbol, unit_of, FileFormat, LineMeaning, assigns, assigns_escaped, unchosen, silent, Means}
use Rattle.kc_value.specs.declared.tri.Tri.TheVariants.{N}
use Rattle.kc_value.specs.Kinds.{is_tri_kind}
use Rattle.kc_tokens.specs.Languages.{is_linux_6_12}
use Rattle.kc_rules_model.specs.declared.values.UserValue.TheVariants.{Tri as TriUser, Text as TextUser, Member as MemberUser, Lines as LinesUser}
use Rattle.kc_dotconfig_model.specs.declared.format.Strings.{Strings}
use Rattle.kc_dotconfig_model.specs.ConfigLines.{has_escape_notice, unset_meaning, ValueMeans, tri, chosen, not_chosen, quoted, number, no_int, no_hex, no_tri, no_text, no_number, value, unset, unknown_value, unknown_unset, empty, comment}
use Rattle.kc_config_reasons.specs.checker.LineSteps.{OwnUser, IsOwn}

module _ (tree : Tree) where
  own_member : (m : ℕ) (b : Bool) → OwnUser tree (unit_of tree m) (cond b (LinesUser (record { member = m; is_y = true } ∷ [])) (MemberUser m))
  own_member m true = (record { member = m; is_y = true }, refl, refl)
  own_member m false = tt

  own_unchosen : (m : ℕ) (b : Bool) → IsOwn tree (cond b (assigns (unit_of tree m) (LinesUser (record { member = m; is_y = false } ∷ []))) (unchosen (unit_of tree m) m))
  own_unchosen m true = (record { member = m; is_y = false }, refl, refl)
  own_unchosen m false = tt

  own_unset : (m : ℕ) (symbol : Symbol) (c : Option ℕ) → IsOwn tree (unset_meaning tree m symbol c)
  own_unset m symbol (Some c) = own_unchosen m (is_linux_6_12 tree.language)
  own_unset m symbol None = go (is_tri_kind symbol.kind) where
    go : (b : Bool) → IsOwn tree (cond b (assigns (unit_of tree m) (TriUser N)) silent)
    go true = tt
    go false = tt

  own_text : (w : ℕ) (text : List ℕ) (b : Bool) → IsOwn tree (cond b (assigns_escaped w text) (assigns w (TextUser text)))
  own_text w text true = tt
  own_text w text false = tt

  own_value : (strings : Strings) (m : ℕ) (symbol : Symbol) (text : List ℕ) (meaning : LineMeaning) → ValueMeans strings tree m symbol text meaning → IsOwn tree meaning
  own_value strings m symbol text _ (tri _ t c e) = tt
  own_value strings m symbol text _ (chosen k _ c e) = own_member m (is_linux_6_12 tree.language)
  own_value strings m symbol text _ (not_chosen k _ t c e f) = own_unchosen m (is_linux_6_12 tree.language)
  own_value strings m symbol text _ (quoted _ means k e) = own_text (unit_of tree m) means (has_escape_notice tree.language strings text)
  own_value strings m symbol text _ (number _ e) = tt
  own_value strings m symbol _ _ (no_int e) = tt
  own_value strings m symbol _ _ (no_hex e) = tt
  own_value strings m symbol text _ (no_tri _ e f) = tt
  own_value strings m symbol text _ (no_text _ e f) = tt
  own_value strings m symbol _ _ (no_number b text e f g) = tt

  pub own_line : (format : FileFormat) (line : List ℕ) (meaning : LineMeaning) → Means format tree line meaning → IsOwn tree meaning
  own_line format line meaning (value _ name text m symbol _ e f g h) = own_value format.strings m symbol text meaning h
  own_line format line _ (unset _ name m symbol e f g) = own_unset m symbol symbol.choice
  own_line format line _ (unknown_value _ name text e f) = tt
  own_line format line _ (unknown_unset _ name e f) = tt
  own_line format _ _ empty = tt
  own_line format line _ (comment _ e f) = tt
