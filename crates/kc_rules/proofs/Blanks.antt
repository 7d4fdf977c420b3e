-- Values that fit units, for places not solved yet.
use Rattle.kc_rules.proofs.Common.{◌≡◌, ℕ, true, false, IsTrue, [], Some, None, refl, ap, ◌∙◌, slice_get, is_utf8-from_IsUtf8, Tree, Symbol, is_tri_kind}
use Rattle.kc_value.specs.declared.tri.Tri.TheVariants.{N}
use Rattle.kc_value.specs.declared.value.Kind.{Kind}
use Rattle.kc_value.specs.declared.value.Kind.TheVariants.{Bool as Boolean, Tristate, Text, Int, Hex}
use Rattle.kc_tree_model.specs.declared.ids.Unit.TheVariants.{Symbol as of_symbol, Choice as of_choice}
use Rattle.kc_rules_model.specs.declared.values.UnitValue.TheVariants.{Tri as TriValue, Text as TextValue, Member as MemberValue}
use Rattle.kc_rules_model.specs.Shapes.{value_fits, unit_value_fits, symbol_value_fits, tri_fits, text_fits}

no_tri : (kind : Kind) → is_tri_kind kind ≡ true → tri_fits kind N ≡ true
no_tri Boolean e = refl
no_tri Tristate e = refl
no_tri Text e = cc
no_tri Int e = cc
no_tri Hex e = cc

no_text : (kind : Kind) → is_tri_kind kind ≡ false → text_fits kind [] ≡ true
no_text Boolean e = cc
no_text Tristate e = cc
no_text Text e = is_utf8-from_IsUtf8 [] ([], (refl, refl))
no_text Int e = refl
no_text Hex e = refl

pub blank_tri : (tree : Tree) (u s : ℕ) (symbol : Symbol) → slice_get tree.units u ≡ Some (of_symbol s) → slice_get tree.symbols s ≡ Some symbol
    → is_tri_kind symbol.kind ≡ true → IsTrue (value_fits tree u (TriValue N))
unfolding value_fits
blank_tri tree u s symbol e f k = ap (λ o. unit_value_fits tree o (TriValue N)) e ∙ ap (λ o. symbol_value_fits o (TriValue N)) f ∙ no_tri symbol.kind k

pub blank_text : (tree : Tree) (u s : ℕ) (symbol : Symbol) → slice_get tree.units u ≡ Some (of_symbol s) → slice_get tree.symbols s ≡ Some symbol
    → is_tri_kind symbol.kind ≡ false → IsTrue (value_fits tree u (TextValue []))
unfolding value_fits
blank_text tree u s symbol e f k = ap (λ o. unit_value_fits tree o (TextValue [])) e ∙ ap (λ o. symbol_value_fits o (TextValue [])) f ∙ no_text symbol.kind k

pub blank_member : (tree : Tree) (u c : ℕ) → slice_get tree.units u ≡ Some (of_choice c) → IsTrue (value_fits tree u (MemberValue None))
unfolding value_fits
blank_member tree u c e = ap (λ o. unit_value_fits tree o (MemberValue None)) e
