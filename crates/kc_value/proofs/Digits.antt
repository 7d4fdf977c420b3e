-- Digits read one after another.
use Rattle.kc_value.proofs.Common.{◌≡◌, ℕ, ◌+◌, ◌*◌, ◌<◌, ◌≤◌, Bool, true, false, ◌&&◌, cond, List, [], ◌∷◌, Option, refl, arith, le-ltb, ltb-false, lt-ltb, ltb-true, is_digit, digit_value, list_all}
use Rattle.std.proofs.Math.Nat.{mul-le-mul_left}
use Rattle.std.specs.Prelude.{nat_lt, Some, None, if◌then◌else◌}
use Rattle.std.specs.Str.Parse.{digits_value_after}
use Rattle.kc_value.specs.checker.DigitStep.{with_digit}

-- the number that the digits of n and digits after them write, if it is below a limit
abbrev pub magnitude_after : ℕ → ℕ → ℕ → List ℕ → Option ℕ
magnitude_after base limit n ds =
    if list_all (λ c. is_digit c base) ds && nat_lt (digits_value_after base n ds) limit then Some (digits_value_after base n ds) else None

-- digits that are appended to a number don't make it less
pub no_less : (base n : ℕ) (ds : List ℕ) → 1 ≤ base → n ≤ digits_value_after base n ds
no_less base n [] h = omega arith
no_less base n (c ∷ cs) h =
    let r = no_less base (n * base + digit_value c) cs h in
    let m : n * 1 ≤ n * base = mul-le-mul_left n h in
    omega (arith, r, m)

-- digits that are appended to a number at the limit or above it write no number below the limit
pub none_above : (base limit n : ℕ) (ds : List ℕ) → 1 ≤ base → limit ≤ n → magnitude_after base limit n ds ≡ None
none_above base limit n ds h k =
    let r = no_less base n ds h in
    let f : nat_lt (digits_value_after base n ds) limit ≡ false = le-ltb _ _ (let q : limit ≤ digits_value_after base n ds = omega (arith, r, k) in q) in
    elim (list_all (λ c. is_digit c base) ds) as (λ b. cond (b && nat_lt (digits_value_after base n ds) limit) (Some (digits_value_after base n ds)) None
    ≡ None) [ true ↦ rw f refl | false ↦ refl ]

-- where a digit can't follow, there is no number
below_cases : (limit m base : ℕ) (cs : List ℕ) (t : Bool) → 1 ≤ base → nat_lt m limit ≡ t → cond t (Some m) None ≡ None → magnitude_after base limit m cs ≡ None
below_cases limit m base cs true h f e = cc
below_cases limit m base cs false h f e = none_above base limit m cs h (ltb-false m limit f)

none_from : (b : Bool) (limit m base : ℕ) (cs : List ℕ) → 1 ≤ base → cond (b && nat_lt m limit) (Some m) None ≡ None
    → cond ((b && list_all (λ c. is_digit c base) cs) && nat_lt (digits_value_after base m cs) limit) (Some (digits_value_after base m cs)) None ≡ None
none_from false limit m base cs h e = refl
none_from true limit m base cs h e = below_cases limit m base cs (nat_lt m limit) h refl e

pub none_from_digit : (base limit n c : ℕ) (cs : List ℕ) → 1 ≤ base → with_digit base limit n c ≡ None → magnitude_after base limit n (c ∷ cs) ≡ None
none_from_digit base limit n c cs h e = none_from (is_digit c base) limit (n * base + digit_value c) base cs h e

some_from : (b : Bool) (limit m r base : ℕ) (cs : List ℕ) → cond (b && nat_lt m limit) (Some m) None ≡ Some r
    → cond ((b && list_all (λ c. is_digit c base) cs) && nat_lt (digits_value_after base m cs) limit) (Some (digits_value_after base m cs)) None
    ≡ magnitude_after base limit r cs
some_from false limit m r base cs e = cc
some_from true limit m r base cs e =
    elim (nat_lt m limit) as (λ t. cond t (Some m) None ≡ Some r → magnitude_after base limit m cs ≡ magnitude_after base limit r cs)
    [ true ↦ λ k. let q : m ≡ r = cc in rw q refl | false ↦ λ k. cc ] e

-- where a digit can be appended to n, digits are read after n as those past the first are read after n with that digit
pub goes_on : (base limit n c r : ℕ) (cs : List ℕ) → with_digit base limit n c ≡ Some r → magnitude_after base limit n (c ∷ cs)
    ≡ magnitude_after base limit r cs
goes_on base limit n c r cs e = some_from (is_digit c base) limit (n * base + digit_value c) r base cs e

-- a number below the limit with no digits appended is that number
pub whole : (base limit n : ℕ) → n < limit → magnitude_after base limit n [] ≡ Some n
whole base limit n h = let e : nat_lt n limit ≡ true = lt-ltb _ _ h in rw e refl

-- what with_digit gives is below the limit
below_of : (t : Bool) (limit m r : ℕ) → nat_lt m limit ≡ t → cond t (Some m) None ≡ Some r → r < limit
below_of true limit m r f e = let q : m ≡ r = cc in rw (← q) (ltb-true m limit f)
below_of false limit m r f e = cc

below_both : (b : Bool) (limit m r : ℕ) → cond (b && nat_lt m limit) (Some m) None ≡ Some r → r < limit
below_both true limit m r e = below_of (nat_lt m limit) limit m r refl e
below_both false limit m r e = cc

pub with_digit_below : (base limit n c r : ℕ) → with_digit base limit n c ≡ Some r → r < limit
with_digit_below base limit n c r e = below_both (is_digit c base) limit (n * base + digit_value c) r e
