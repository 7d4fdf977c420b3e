-- Equality of values: the same letter, the same text byte for byte, or the same member.
use Rattle.std.specs.Prelude.{Bool, true, false, ◌&&◌, ◌==◌, List, [], ◌∷◌, Option, Some, None, bytes_eq}
use Rattle.std.specs.Bool.{beq}
use Rattle.kc_value.specs.declared.tri.Tri.{Tri}
use Rattle.kc_value.specs.Tri.{rank}
use Rattle.kc_rules_model.specs.declared.values.UnitValue.{UnitValue}
use Rattle.kc_rules_model.specs.declared.values.UnitValue.TheVariants.{Tri as TriValue, Text as TextValue, Member as MemberValue}
use Rattle.kc_rules_model.specs.declared.values.UserValue.{UserValue}
use Rattle.kc_rules_model.specs.declared.values.UserValue.TheVariants.{Tri as TriUser, Text as TextUser, Member as MemberUser, Lines as LinesUser}
use Rattle.kc_rules_model.specs.declared.values.MemberLine.{MemberLine}

-- whether two tristates are equal
abbrev pub same_tri : Tri → Tri → Bool
same_tri a b = rank a == rank b

-- whether two values of units are equal: the same tristate, the same text byte for byte, or the same selected member or none
abbrev pub same_value : UnitValue → UnitValue → Bool
same_value (TriValue a) (TriValue b) = same_tri a b
same_value (TextValue a) (TextValue b) = bytes_eq a b
same_value (MemberValue None) (MemberValue None) = true
same_value (MemberValue (Some a)) (MemberValue (Some b)) = a == b
same_value _ _ = false

-- whether a unit has a value and it is equal to the given one
abbrev pub value_is : Option UnitValue → UnitValue → Bool
value_is None value = false
value_is (Some held) value = same_value held value

-- whether two assignments of members are equal: the same member and the same value
abbrev pub same_line : MemberLine → MemberLine → Bool
same_line a b = (a.member == b.member) && beq a.is_y b.is_y

-- whether two lists of assignments of members are equal: the same ones in the same order
abbrev pub same_lines : List MemberLine → List MemberLine → Bool
same_lines [] [] = true
same_lines (a ∷ xs) (b ∷ ys) = same_line a b && same_lines xs ys
same_lines _ _ = false

-- whether two user values are equal: the same tristate, the same text byte for byte, the same member, or the same assignments of
-- members in the same order
abbrev pub same_user : UserValue → UserValue → Bool
same_user (TriUser a) (TriUser b) = same_tri a b
same_user (TextUser a) (TextUser b) = bytes_eq a b
same_user (MemberUser a) (MemberUser b) = a == b
same_user (LinesUser a) (LinesUser b) = same_lines a b
same_user _ _ = false
