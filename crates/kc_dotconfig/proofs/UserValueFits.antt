-- The user values accumulated from an accepted file fit the tree.
use Rattle.std.proofs.Common.{IfSome}
use Rattle.kc_dotconfig.proofs.Common.{◌≡◌, ℕ, zero, suc, ◌+◌, ◌<◌, true, IsTrue, List, [], ◌∷◌, length, Option, Some, None, sym, ◌∙◌, ap, subst, arith, slice_get, slice_set, slice_index, IsStrictlyIncreasing, get_or-set_same, length-set, Tree, IsConsistent, changed_users, user_of, UserValue}
use Rattle.kc_dotconfig.proofs.Common.{user_fits, FileFormat, is_name_prefix, LineMeaning, FileMeans, file_assignment, empty_assignment, FitsTree, changes_of, users_of, IsAscending, AreBelow, units_of}
use Rattle.kc_dotconfig_model.specs.LoadFaults.{IsAccepted}
use Rattle.kc_dotconfig_model.proofs.AcceptedLines.{accepted_utf8}
use Rattle.kc_dotconfig_model.proofs.FittingFiles.{file_fits}
use Rattle.kc_dotconfig.proofs.Insertions.{length_changed, later_set, none_length}

same_pair : (p q : ℕ × UserValue) → Some p ≡ Some q → p ≡ q
same_pair p q e = cc

-- in a rising list each user value is the one that its unit has in the end
held_at : (es : List (ℕ × UserValue)) (users : List (Option UserValue)) (k u : ℕ) (x : UserValue) → IsAscending es → u < length users
    → slice_get es k ≡ Some (u, x)
    → user_of (changed_users (changes_of es) users) u ≡ Some x
held_at [] users k u x r h at = cc
held_at (e ∷ es) users zero u x r h at =
    let same = same_pair e (u, x) at in
    let unit : e.0 ≡ u = ap (λ (p : ℕ × UserValue). p.0) same in
    let value : e.1 ≡ x = ap (λ (p : ℕ × UserValue). p.1) same in
    let n = length_changed es users in
    ap (λ l. user_of l u) (later_set es e.0 (Some e.1) users r.0)
    ∙ ap (λ k. user_of (slice_set (changed_users (changes_of es) users) k (Some e.1)) u) unit
    ∙ get_or-set_same (changed_users (changes_of es) users) u (Some e.1) None (omega (arith, n, h))
    ∙ ap Some value
held_at (e ∷ es) users (suc k) u x r h at =
    let n = length-set users e.0 (Some e.1) in held_at es (slice_set users e.0 (Some e.1)) k u x r.1 (omega (arith, n, h)) at

below_at : (n : ℕ) (es : List (ℕ × UserValue)) (k u : ℕ) (x : UserValue) → AreBelow n es → slice_get es k ≡ Some (u, x) → u < n
below_at n [] k u x b at = cc
below_at n (e ∷ es) zero u x b at = subst (λ k. k < n) (ap (λ (p : ℕ × UserValue). p.0) (same_pair e (u, x) at)) b.0
below_at n (e ∷ es) (suc k) u x b at = below_at n es k u x b.1 at

rising : (es : List (ℕ × UserValue)) → IsAscending es → (k : ℕ) → suc k < length (units_of es)
    → slice_index (units_of es) k < slice_index (units_of es) (suc k)
rising [] r k h = absurd (omega (arith, h))
rising (e ∷ []) r k h = absurd (omega (arith, h))
rising (e ∷ f ∷ es) r zero h = r.0.0
rising (e ∷ f ∷ es) r (suc k) h = rising (f ∷ es) r.1 k (omega (arith, h))

rises_all : (es : List (ℕ × UserValue)) → IsAscending es → IsStrictlyIncreasing (units_of es)
rises_all es r k h =
    let n : k + 1 ≡ suc k = omega arith in
    subst (λ m. slice_index (units_of es) k < slice_index (units_of es) m) (sym n) (rising es r k (omega (arith, h, n)))

pub fragment_fits : (format : FileFormat) (tree : Tree) (known : List ℕ) (meanings : List LineMeaning) (es : List (ℕ × UserValue))
    → is_name_prefix format.prefix ≡ true
    → IsConsistent tree
    → IsAccepted format tree known → FileMeans format tree known meanings → users_of tree es ≡ file_assignment tree meanings → IsAscending es
    → AreBelow (length tree.units) es → FitsTree tree es
fragment_fits format tree known meanings es valid sound accepted has_meaning users r b =
    let fits = file_fits format tree known meanings sound (accepted_utf8 format tree known valid accepted) has_meaning in
    record {
      ascending = rises_all es r;
      each = λ k u x at.
          let within = below_at (length tree.units) es k u x b at in
          let n = none_length (length tree.units) in
          let is : user_of (file_assignment tree meanings) u ≡ Some x = ap (λ l. user_of l u) (sym users)
          ∙ held_at es (empty_assignment tree) k u x r (omega (arith, within, n)) at in
          (within, subst (λ o. IfSome o (λ y. IsTrue (user_fits tree u y))) is (fits.1 u within));
    }
