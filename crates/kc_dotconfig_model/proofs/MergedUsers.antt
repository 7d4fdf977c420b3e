-- A file over an assignment is its own assignment over it.
use Rattle.kc_dotconfig_model.proofs.Common.{◌≡◌, ℕ, zero, suc, Bool, true, false, not, ◌||◌, ◌==◌, cond, filter, ◌++◌, append_assoc, List, [], ◌∷◌, Option, Some, None, length, refl, sym, ◌∙◌, ap, arith, slice_set, replicate, length-set, filter-append, eqb-true, or_right, user_of, MemberLine}
use Rattle.kc_dotconfig_model.proofs.Common.{is_listed, merged_lines, UserValue, LineMeaning, assigns, assigns_escaped, assigned, assigned_over, merged_user, merged_users, empty_assignment}
use Rattle.std.proofs.Math.Bool.{or_assoc}
use Rattle.kc_rules_model.specs.declared.values.UserValue.TheVariants.{Tri as TriUser, Text as TextUser, Member as MemberUser, Lines as LinesUser}
use Rattle.kc_dotconfig_model.specs.FileLaws.{FilesAreMergedWithAssignments}
use Rattle.kc_dotconfig_model.proofs.FittingFiles.{none_length}

none_over : (n : ℕ) (users : List (Option UserValue)) → length users ≡ n → merged_users (replicate n None) users ≡ users
none_over zero users e = refl
none_over (suc n) [] e = absurd (omega arith)
none_over (suc n) (x ∷ users) e = ap (λ l. x ∷ l) (none_over n users (omega arith))

pub assigned_length : (meaning : LineMeaning) (users : List (Option UserValue)) → length (assigned meaning users) ≡ length users
assigned_length (assigns w x) users = length-set users w (Some (merged_user x (user_of users w)))
assigned_length (assigns_escaped w text) users = length-set users w (Some (TextUser text))
assigned_length _ users = refl

-- the lines of a file give values to as many units as there were
pub file_length : (meanings : List LineMeaning) (users : List (Option UserValue)) → length (assigned_over meanings users) ≡ length users
file_length [] users = refl
file_length (meaning ∷ meanings) users = file_length meanings (assigned meaning users) ∙ assigned_length meaning users

-- which members are listed in a list that is merged with another one
listed_over : (z p : List MemberLine) (s : ℕ) → is_listed (filter (λ (l : MemberLine). not (is_listed z l.member)) p ++ z) s ≡ (is_listed p s || is_listed z s)
listed_over z [] s = refl
listed_over z (l ∷ p) s = go (is_listed z l.member) refl (l.member == s) refl (listed_over z p s) where
  go : (a : Bool) → is_listed z l.member ≡ a → (b : Bool) → (l.member == s) ≡ b
      → is_listed (filter (λ (k : MemberLine). not (is_listed z k.member)) p ++ z) s ≡ (is_listed p s || is_listed z s)
      → is_listed (cond (not a) (l ∷ filter (λ (k : MemberLine). not (is_listed z k.member)) p) (filter (λ (k : MemberLine). not (is_listed z k.member)) p) ++ z) s
      ≡ ((b || is_listed p s) || is_listed z s)
  go false unlisted b same next = ap (λ t. (l.member == s) || t) next ∙ ap (λ t. t || (is_listed p s || is_listed z s)) same
      ∙ sym (or_assoc b (is_listed p s) (is_listed z s))
  go true listed true same next = next ∙ ap (λ t. is_listed p s || t) (ap (is_listed z) (sym (eqb-true l.member s same)) ∙ listed)
      ∙ or_right (is_listed p s) true refl
  go true listed false same next = next

module _ (z p : List MemberLine) where
  kept_over : (q : List MemberLine) → filter (λ (l : MemberLine). not (is_listed z l.member)) (filter (λ (l : MemberLine). not (is_listed p l.member)) q)
      ≡ filter (λ (l : MemberLine). not (is_listed (merged_lines z p) l.member)) q
  kept_over [] = refl
  kept_over (l ∷ q) = go (is_listed p l.member) (is_listed z l.member) refl refl (kept_over q) where
    go : (a b : Bool) → is_listed p l.member ≡ a → is_listed z l.member ≡ b
        → filter (λ (k : MemberLine). not (is_listed z k.member)) (filter (λ (k : MemberLine). not (is_listed p k.member)) q) ≡ filter (λ (k : MemberLine). not (is_listed (merged_lines z p) k.member)) q
        → filter (λ (k : MemberLine). not (is_listed z k.member)) (cond (not a) (l ∷ filter (λ (k : MemberLine). not (is_listed p k.member)) q) (filter (λ (k : MemberLine). not (is_listed p k.member)) q))
        ≡ cond (not (is_listed (merged_lines z p) l.member)) (l ∷ filter (λ (k : MemberLine). not (is_listed (merged_lines z p) k.member)) q) (filter (λ (k : MemberLine). not (is_listed (merged_lines z p) k.member)) q)
    go a b in_p in_z next =
        pick a b in_z next ∙ ap (λ t. cond (not t) (l ∷ filter (λ (k : MemberLine). not (is_listed (merged_lines z p) k.member)) q) (filter (λ (k : MemberLine). not (is_listed (merged_lines z p) k.member)) q))
        (sym (listed_over z p l.member ∙ ap (λ t. t || is_listed z l.member) in_p ∙ ap (λ t. a || t) in_z)) where
          pick : (a b : Bool) → is_listed z l.member ≡ b
              → filter (λ (k : MemberLine). not (is_listed z k.member)) (filter (λ (k : MemberLine). not (is_listed p k.member)) q) ≡ filter (λ (k : MemberLine). not (is_listed (merged_lines z p) k.member)) q
              → filter (λ (k : MemberLine). not (is_listed z k.member)) (cond (not a) (l ∷ filter (λ (k : MemberLine). not (is_listed p k.member)) q) (filter (λ (k : MemberLine). not (is_listed p k.member)) q))
              ≡ cond (not (a || b)) (l ∷ filter (λ (k : MemberLine). not (is_listed (merged_lines z p) k.member)) q) (filter (λ (k : MemberLine). not (is_listed (merged_lines z p) k.member)) q)
          pick true b in_z next = next
          pick false b in_z next =
              ap (λ t. cond (not t) (l ∷ filter (λ (k : MemberLine). not (is_listed z k.member)) (filter (λ (k : MemberLine). not (is_listed p k.member)) q))
              (filter (λ (k : MemberLine). not (is_listed z k.member)) (filter (λ (k : MemberLine). not (is_listed p k.member)) q))) in_z
              ∙ ap (λ r. cond (not b) (l ∷ r) r) next

-- laying over is associative
pub merged_lines_twice : (z p q : List MemberLine) → merged_lines z (merged_lines p q) ≡ merged_lines (merged_lines z p) q
merged_lines_twice z p q =
    ap (λ r. r ++ z) (filter-append (λ (l : MemberLine). not (is_listed z l.member)) (filter (λ (l : MemberLine). not (is_listed p l.member)) q) p)
    ∙ append_assoc (filter (λ (l : MemberLine). not (is_listed z l.member)) (filter (λ (l : MemberLine). not (is_listed p l.member)) q))
    (filter (λ (l : MemberLine). not (is_listed z l.member)) p) z
    ∙ ap (λ r. r ++ (filter (λ (l : MemberLine). not (is_listed z l.member)) p ++ z)) (kept_over z p q)

-- a user value over none is itself
pub over_none : (x : UserValue) → merged_user x None ≡ x
over_none (TriUser t) = refl
over_none _ = refl

pub over_twice : (x o : UserValue) (y : Option UserValue) → merged_user x (Some (merged_user o y)) ≡ merged_user (merged_user x (Some o)) y
over_twice (TriUser t) o y = refl
over_twice (TextUser t) o y = refl
over_twice (MemberUser s) o y = refl
over_twice (LinesUser z) (TriUser t) y = refl
over_twice (LinesUser z) (TextUser t) y = refl
over_twice (LinesUser z) (MemberUser s) y = refl
over_twice (LinesUser z) (LinesUser p) (Some (LinesUser q)) = ap (λ l. LinesUser l) (merged_lines_twice z p q)
over_twice (LinesUser z) (LinesUser p) _ = refl

set_over : (later users : List (Option UserValue)) (u : ℕ) (x : UserValue) → length later ≡ length users
    → slice_set (merged_users later users) u (Some (merged_user x (user_of (merged_users later users) u))) ≡ merged_users (slice_set later u (Some (merged_user x (user_of later u)))) users
set_over [] [] u x e = refl
set_over (None ∷ later) (y ∷ users) zero x e = ap (λ z. Some (merged_user z y) ∷ merged_users later users) (sym (over_none x))
set_over (None ∷ later) (y ∷ users) (suc u) x e = ap (λ l. y ∷ l) (set_over later users u x (omega arith))
set_over (Some o ∷ later) (y ∷ users) zero x e = ap (λ z. Some z ∷ merged_users later users) (over_twice x o y)
set_over (Some o ∷ later) (y ∷ users) (suc u) x e = ap (λ l. Some (merged_user o y) ∷ l) (set_over later users u x (omega arith))
set_over _ _ u x e = absurd (omega arith)

file_lines_over : (meanings : List LineMeaning) (later users : List (Option UserValue)) → length later ≡ length users
    → assigned_over meanings (merged_users later users) ≡ merged_users (assigned_over meanings later) users
file_lines_over [] later users e = refl
file_lines_over (assigns u x ∷ meanings) later users e =
    ap (assigned_over meanings) (set_over later users u x e)
    ∙ file_lines_over meanings (slice_set later u (Some (merged_user x (user_of later u)))) users (length-set later u (Some (merged_user x (user_of later u))) ∙ e)
file_lines_over (assigns_escaped u text ∷ meanings) later users e =
    ap (assigned_over meanings) (set_over later users u (TextUser text) e)
    ∙ file_lines_over meanings (slice_set later u (Some (TextUser text))) users (length-set later u (Some (TextUser text)) ∙ e)
file_lines_over (_ ∷ meanings) later users e = file_lines_over meanings later users e

pub file_over : FilesAreMergedWithAssignments
file_over tree meanings users e =
    ap (assigned_over meanings) (sym (none_over (length tree.units) users e))
    ∙ file_lines_over meanings (empty_assignment tree) users (none_length (length tree.units) ∙ sym e)
