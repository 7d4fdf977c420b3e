-- Cases by the mark of a default.
use Rattle.kc_reasons.proofs.Common.{◌≡◌, Bool, true, false, cond, Option, Some, None, refl, Tri, Profile}
use Rattle.std.specs.Prelude.{is_some}
use Rattle.kc_tree_model.specs.Trees.{Default}
use Rattle.kc_rules_model.specs.declared.profile.Profile.TheVariants.{Present, Classic}
use Rattle.kc_reasons_model.specs.declared.cases.TriCase.{TriCase}
use Rattle.kc_reasons_model.specs.declared.cases.TriCase.TheVariants as tri
use Rattle.kc_reasons_model.specs.declared.cases.TextCase.{TextCase}
use Rattle.kc_reasons_model.specs.declared.cases.TextCase.TheVariants as text
use Rattle.kc_reasons_model.specs.Cases.{is_environment, by_default, unasked_tri, default_case, number_default_case}
use Rattle.kc_reasons.specs.checker.CaseParts.{mark_of, unasked_of}

abbrev pub tri_of_mark : Option Bool → TriCase
tri_of_mark None = tri.Nothing
tri_of_mark (Some true) = tri.Environment
tri_of_mark (Some false) = tri.Default

pub tri_by_mark : (o : Option Default) → by_default (is_some o) (is_environment o) ≡ tri_of_mark (mark_of o)
tri_by_mark None = refl
tri_by_mark (Some d) = go d.from_environment where
  go : (b : Bool) → by_default true b ≡ tri_of_mark (Some b)
  go true = refl
  go false = refl

pub unasked_is : (profile : Profile) (has env : Bool) (d i r : Tri) → unasked_tri profile has env d i r ≡ unasked_of profile (by_default has env) d i r
unasked_is Present has env d i r = refl
unasked_is Classic has env d i r = refl

abbrev pub text_of_mark : Option Bool → TextCase
text_of_mark None = text.Nothing
text_of_mark (Some true) = text.Environment
text_of_mark (Some false) = text.Default

pub text_by_mark : (o : Option Default) → default_case o ≡ text_of_mark (mark_of o)
text_by_mark None = refl
text_by_mark (Some d) = go d.from_environment where
  go : (b : Bool) → cond b text.Environment text.Default ≡ text_of_mark (Some b)
  go true = refl
  go false = refl

abbrev pub number_of_mark : (linux is_number : Bool) → Option Bool → TextCase
number_of_mark linux is_number None = cond linux text.Zero text.Nothing
number_of_mark linux is_number (Some b) = cond is_number (cond b text.Environment text.Default) text.NoNumber

pub number_by_mark : (linux is_number : Bool) (o : Option Default) → number_default_case linux is_number o ≡ number_of_mark linux is_number (mark_of o)
number_by_mark linux is_number None = refl
number_by_mark linux is_number (Some d) = refl
