-- Two tests of a text, one after the other.
use Rattle.std.proofs.Common.{◌≡◌, ℕ, Bool, true, false, ◌||◌, List, sym, ap, ◌∙◌}

-- the first test of a text that is known under another name holds
pub first_holds : (f g : List ℕ → Bool) (n m : List ℕ) (t v : Bool) → n ≡ m → t ≡ f n → t ≡ true → v ≡ t → v ≡ (f m || g m)
first_holds f g n m t v same is holds value = value ∙ holds ∙ ap (λ x. x || g m) (sym holds ∙ is ∙ ap f same)

-- the first test doesn't hold, and the value is that of the second
pub second_decides : (f g : List ℕ → Bool) (n m : List ℕ) (t u v : Bool) → n ≡ m → t ≡ f n → t ≡ false → u ≡ g n → v ≡ u
    → v ≡ (f m || g m)
second_decides f g n m t u v same is fails other value =
    value ∙ other ∙ ap g same ∙ ap (λ x. x || g m) (sym fails ∙ is ∙ ap f same)

-- an alternative whose first part holds
pub holds : (v a s : Bool) → v ≡ a → v ≡ true → v ≡ (a || s)
holds v a s is true_is = true_is ∙ ap (λ x. x || s) (sym true_is ∙ is)

-- an alternative whose first part fails has the value of the second
pub decides : (v a s r : Bool) → v ≡ a → v ≡ false → r ≡ s → r ≡ (a || s)
decides v a s r is false_is value = value ∙ ap (λ x. x || s) (sym false_is ∙ is)
