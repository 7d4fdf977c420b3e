-- The tests of equality decide it.
use Rattle.std.proofs.Common.{◌≡◌, ◌↔◌, ℕ, Bool, true, false, ◌==◌, IsTrue, List, [], ◌∷◌, Some, None, refl, sym, ◌∙◌, ap}
use Rattle.std.specs.Prelude.{bytes_eq}
use Rattle.std.specs.Bool.{beq}
use Rattle.std.proofs.lemmas.Bool.{false≢true, eqb-true, eq-eqb, and_parts, and_from}
use Rattle.std.proofs.lemmas.Slice.Eq.{bytes_eq-Decides}
use Rattle.kc_value.specs.declared.tri.Tri.{Tri}
use Rattle.kc_value.specs.declared.tri.Tri.TheVariants.{N, M, Y}
use Rattle.kc_rules_model.specs.declared.values.UnitValue.{UnitValue}
use Rattle.kc_rules_model.specs.declared.values.UnitValue.TheVariants.{Tri as TriValue, Text as TextValue, Member as MemberValue}
use Rattle.kc_rules_model.specs.declared.values.UserValue.{UserValue}
use Rattle.kc_rules_model.specs.declared.values.UserValue.TheVariants.{Tri as TriUser, Text as TextUser, Member as MemberUser, Lines as LinesUser}
use Rattle.kc_rules_model.specs.declared.values.MemberLine.{MemberLine}
use Rattle.kc_rules_model.specs.Equality.{same_tri, same_value, same_line, same_lines, same_user}

bytes_from : (a b : List ℕ) → bytes_eq a b ≡ true → a ≡ b
bytes_from a b e = (bytes_eq-Decides a b).0 e

bytes_same : (a : List ℕ) → bytes_eq a a ≡ true
bytes_same a = (bytes_eq-Decides a a).1 refl

tri_from : (a b : Tri) → same_tri a b ≡ true → a ≡ b
tri_from N N e = refl
tri_from M M e = refl
tri_from Y Y e = refl
tri_from N M e = absurd (false≢true e)
tri_from N Y e = absurd (false≢true e)
tri_from M N e = absurd (false≢true e)
tri_from M Y e = absurd (false≢true e)
tri_from Y N e = absurd (false≢true e)
tri_from Y M e = absurd (false≢true e)

tri_same : (a : Tri) → same_tri a a ≡ true
tri_same N = refl
tri_same M = refl
tri_same Y = refl

value_from : (a b : UnitValue) → same_value a b ≡ true → a ≡ b
value_from (TriValue a) (TriValue b) e = ap (λ t. TriValue t) (tri_from a b e)
value_from (TextValue a) (TextValue b) e = ap (λ t. TextValue t) (bytes_from a b e)
value_from (MemberValue None) (MemberValue None) e = refl
value_from (MemberValue (Some a)) (MemberValue (Some b)) e = ap (λ s. MemberValue (Some s)) (eqb-true a b e)
value_from (TriValue a) (TextValue b) e = absurd (false≢true e)
value_from (TriValue a) (MemberValue b) e = absurd (false≢true e)
value_from (TextValue a) (TriValue b) e = absurd (false≢true e)
value_from (TextValue a) (MemberValue b) e = absurd (false≢true e)
value_from (MemberValue None) (TriValue b) e = absurd (false≢true e)
value_from (MemberValue None) (TextValue b) e = absurd (false≢true e)
value_from (MemberValue (Some a)) (TriValue b) e = absurd (false≢true e)
value_from (MemberValue (Some a)) (TextValue b) e = absurd (false≢true e)
value_from (MemberValue None) (MemberValue (Some b)) e = absurd (false≢true e)
value_from (MemberValue (Some a)) (MemberValue None) e = absurd (false≢true e)

value_same : (a : UnitValue) → same_value a a ≡ true
value_same (TriValue a) = tri_same a
value_same (TextValue a) = bytes_same a
value_same (MemberValue None) = refl
value_same (MemberValue (Some a)) = eq-eqb a a refl

-- two values of units pass the test of equality just where they are equal
pub values_decided : (a b : UnitValue) → IsTrue (same_value a b) ↔ (a ≡ b)
values_decided a b = (value_from a b, λ e. ap (λ x. same_value a x) (sym e) ∙ value_same a)

bool_from : (a b : Bool) → beq a b ≡ true → a ≡ b
bool_from true true e = refl
bool_from false false e = refl
bool_from true false e = absurd (false≢true e)
bool_from false true e = absurd (false≢true e)

bool_same : (a : Bool) → beq a a ≡ true
bool_same true = refl
bool_same false = refl

line_from : (a b : MemberLine) → same_line a b ≡ true → a ≡ b
line_from a b e =
    let parts = and_parts (a.member == b.member) (beq a.is_y b.is_y) e in
    ap (λ s. record { member = s; is_y = a.is_y }) (eqb-true a.member b.member parts.0)
    ∙ ap (λ t. record { member = b.member; is_y = t }) (bool_from a.is_y b.is_y parts.1)

line_same : (a : MemberLine) → same_line a a ≡ true
line_same a = and_from (a.member == a.member) (beq a.is_y a.is_y) (eq-eqb a.member a.member refl) (bool_same a.is_y)

lines_from : (a b : List MemberLine) → same_lines a b ≡ true → a ≡ b
lines_from [] [] e = refl
lines_from [] (l ∷ b) e = absurd (false≢true e)
lines_from (k ∷ a) [] e = absurd (false≢true e)
lines_from (k ∷ a) (l ∷ b) e =
    let parts = and_parts (same_line k l) (same_lines a b) e in
    ap (λ x. x ∷ a) (line_from k l parts.0) ∙ ap (λ xs. l ∷ xs) (lines_from a b parts.1)

lines_same : (a : List MemberLine) → same_lines a a ≡ true
lines_same [] = refl
lines_same (l ∷ a) = and_from (same_line l l) (same_lines a a) (line_same l) (lines_same a)

user_from : (a b : UserValue) → same_user a b ≡ true → a ≡ b
user_from (TriUser a) (TriUser b) e = ap (λ t. TriUser t) (tri_from a b e)
user_from (TextUser a) (TextUser b) e = ap (λ t. TextUser t) (bytes_from a b e)
user_from (MemberUser a) (MemberUser b) e = ap (λ s. MemberUser s) (eqb-true a b e)
user_from (LinesUser a) (LinesUser b) e = ap (λ l. LinesUser l) (lines_from a b e)
user_from (LinesUser a) (TriUser b) e = absurd (false≢true e)
user_from (LinesUser a) (TextUser b) e = absurd (false≢true e)
user_from (LinesUser a) (MemberUser b) e = absurd (false≢true e)
user_from (TriUser a) (LinesUser b) e = absurd (false≢true e)
user_from (TextUser a) (LinesUser b) e = absurd (false≢true e)
user_from (MemberUser a) (LinesUser b) e = absurd (false≢true e)
user_from (TriUser a) (TextUser b) e = absurd (false≢true e)
user_from (TriUser a) (MemberUser b) e = absurd (false≢true e)
user_from (TextUser a) (TriUser b) e = absurd (false≢true e)
user_from (TextUser a) (MemberUser b) e = absurd (false≢true e)
user_from (MemberUser a) (TriUser b) e = absurd (false≢true e)
user_from (MemberUser a) (TextUser b) e = absurd (false≢true e)

user_same : (a : UserValue) → same_user a a ≡ true
user_same (TriUser a) = tri_same a
user_same (TextUser a) = bytes_same a
user_same (MemberUser a) = eq-eqb a a refl
user_same (LinesUser a) = lines_same a

-- two user values pass the test of equality just where they are equal
pub users_decided : (a b : UserValue) → IsTrue (same_user a b) ↔ (a ≡ b)
users_decided a b = (user_from a b, λ e. ap (λ x. same_user a x) (sym e) ∙ user_same a)
