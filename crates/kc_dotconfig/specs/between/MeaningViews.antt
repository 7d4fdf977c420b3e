-- The meanings of lines as the code has them.
use Rattle.std.specs.Prelude.{ℕ, ◌<◌, [], ◌∷◌}
use Rattle.kc_dotconfig.specs.declared.meanings.Meaning.{Meaning}
use Rattle.kc_dotconfig.specs.declared.meanings.Meaning.TheVariants.{Tri, Text, Escaped, Member, Unchosen, Line, Noted, Nothing}
use Rattle.kc_rules_model.specs.declared.values.UserValue.TheVariants.{Tri as TriUser, Text as TextUser, Member as MemberUser, Lines as LinesUser}
use Rattle.kc_dotconfig_model.specs.ConfigLines.{LineMeaning, assigns, assigns_escaped, unchosen, notice, silent}

-- the meaning of a line, from the form in which the code has it: an assignment, a notice or nothing
abbrev pub meaning_view : Meaning → LineMeaning
meaning_view (Tri u t) = assigns u (TriUser t)
meaning_view (Text u text) = assigns u (TextUser text)
meaning_view (Escaped u text) = assigns_escaped u text
meaning_view (Member u s) = assigns u (MemberUser s)
meaning_view (Unchosen u s) = unchosen u s
meaning_view (Line u l) = assigns u (LinesUser (l ∷ []))
meaning_view (Noted kind) = notice kind
meaning_view Nothing = silent

-- if a line's meaning is an assignment, its unit is below this number of units
abbrev pub IsWithin : ℕ → LineMeaning → Type 0
IsWithin units (assigns u x) = u < units
IsWithin units (assigns_escaped u text) = u < units
IsWithin units (unchosen u s) = Unit {0}
IsWithin units (notice kind) = Unit {0}
IsWithin units silent = Unit {0}
