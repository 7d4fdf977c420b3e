-- The conditions of groups, by the groups' numbers.
use Rattle.kc_conditions.proofs.Common.{◌≡◌, ℕ, ◌<◌, List, length, reverse, Language, Exprs, Group, open_blocks, group_in_context, no_conditions, RepresentsConditions, RepresentsAllConditions, GroupConditions}
use Rattle.kc_checks.proofs.StoredParts.{AreStored, IsStoredAt, are_stored}

module _ (language : Language) (e : Exprs) (texts : List (List ℕ)) (conditions : List ℕ) (groups : List GroupConditions) (read : List Group)
    (h : RepresentsAllConditions language e texts conditions (length conditions) (reverse groups) read) where
  -- stored conditions are those of a group, with their numbers in `own`, as the groups before it say
  abbrev pub AreOf : List ℕ → GroupConditions → Group → List Group → Type 0
  AreOf own c m before = RepresentsConditions language e texts own c (group_in_context (open_blocks 0 before) m)

  stored : AreStored no_conditions (λ (c : GroupConditions). c.first) conditions AreOf groups read
  stored = are_stored _ _ _ _ (RepresentsAllConditions language e texts conditions) (λ end m ms a. a) (λ end c cs a. a) (λ end c cs m ms a. a) groups read h

  pub conditions_count : length groups ≡ length read
  conditions_count = stored.count

  -- the stored conditions of group `i` are those of the group that was read with this number, and lie within the list
  pub conditioned_at : (i : ℕ) → i < length groups → IsStoredAt no_conditions (λ (c : GroupConditions). c.first) conditions AreOf groups read i
  conditioned_at = stored.at
