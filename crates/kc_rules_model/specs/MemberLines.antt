-- What a user assigns to the members of a choice under the rules of Linux 6.12, and the member that this selects. Each member
-- is listed at most once, with its last line, in order of these lines.
use Rattle.std.specs.Prelude.{ℕ, Bool, true, false, not, ◌&&◌, ◌==◌, List, [], ◌∷◌, ◌++◌, Option, Some, None, filter, find, if◌then◌else◌}
use Rattle.std.specs.List.{list_any}
use Rattle.std.specs.Option.{option_map, option_or}
use Rattle.kc_rules_model.specs.declared.values.MemberLine.{MemberLine}

-- whether a member is listed, with `y` or with `n`
abbrev pub is_listed : List MemberLine → ℕ → Bool
is_listed lines s = list_any (λ (l : MemberLine). l.member == s) lines

-- the assignments of a later file merged with those of an earlier one: those of members that the later one doesn't list, and after
-- them the later ones
abbrev pub merged_lines : List MemberLine → List MemberLine → List MemberLine
merged_lines later earlier = filter (λ (l : MemberLine). not (is_listed later l.member)) earlier ++ later

-- the last listed member that has `y` and passes a test
abbrev pub last_y : (ℕ → Bool) → List MemberLine → Option ℕ
last_y passes [] = None
last_y passes (l ∷ lines) =
    option_or (last_y passes lines) (if l.is_y && passes l.member then Some l.member else None)

-- the first listed member that passes a test
abbrev pub first_listed : (ℕ → Bool) → List MemberLine → Option ℕ
first_listed passes lines =
    option_map (λ (l : MemberLine). l.member) (find (λ (l : MemberLine). passes l.member) lines)

-- the member that is selected where no visible one has `y`, from the default member, or none: the default, unless it is listed;
-- then the first visible member that isn't listed, in order of definition; and where all visible ones are listed, the first of
-- them in the list
abbrev pub selected_without_y : (ℕ → Bool) → List ℕ → Option ℕ → List MemberLine → Option ℕ
selected_without_y seen members None lines = None
selected_without_y seen members (Some d) lines = if is_listed lines d
    then option_or (find (λ s. seen s && not (is_listed lines s)) members) (first_listed seen lines)
    else Some d

-- the member of a choice that some assignments select, from the test whether a member is visible, the members in order of
-- definition, and the default member or none: of the visible members with `y` the last in the list, if there is one
abbrev pub selected_by_lines : (ℕ → Bool) → List ℕ → Option ℕ → List MemberLine → Option ℕ
selected_by_lines seen members default lines =
    option_or (last_y seen lines) (selected_without_y seen members default lines)
