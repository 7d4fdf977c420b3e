-- Of several equal lines the last ones are left over.
use Rattle.std.proofs.Common.{◌≡◌, ℕ, ◌+◌, ◌-◌, ◌<◌, ◌≤◌, Bool, true, false, cond, nat_lt, List, [], ◌∷◌, refl, sym, ap, ◌∙◌, arith}
use Rattle.std.specs.Str.{bytes_eq}
use Rattle.std.proofs.lemmas.Bool.{ltb-true, ltb-false}
use Rattle.std.proofs.lemmas.List.Recursion.{is_count_by}
use Rattle.std.proofs.lemmas.Slice.Eq.{bytes_eq-Decides}
use Rattle.kmin_lines.specs.Lines.{without_one, left_over, lines_of}
use Rattle.kmin_lines.specs.checker.Bags.{times_among}
use Rattle.kmin_lines.proofs.BagLemmas.{fewer}
use Rattle.kmin_lines.specs.LackingLines.{lacking_lines, count_equal, surplus}
use Rattle.kmin_lines.proofs.LeftOver.{none_left, gone, stays}

one_more : (b : Bool) (n : ℕ) → cond b 1 0 + n ≡ cond b (1 + n) n
one_more true n = refl
one_more false n = omega arith

same_count : (line : List ℕ) (lines : List (List ℕ)) → count_equal line lines ≡ times_among lines line
same_count line lines =
    sym (is_count_by (λ all. times_among all line) (λ other. bytes_eq line other) refl (λ other rest. one_more (bytes_eq line other) (times_among rest line)) lines)

-- a pool has what is left of the others after the lines `before` each took one away
IsPoolAfter : (before others pool : List (List ℕ)) → Type 0
IsPoolAfter before others pool = (any : List ℕ) → times_among pool any ≡ times_among others any - times_among before any

pool_taken : (before others pool : List (List ℕ)) (line : List ℕ) → IsPoolAfter before others pool → 0 < times_among pool line
    → IsPoolAfter (line ∷ before) others (without_one line pool)
unfolding IsPoolAfter
pool_taken before others pool line h some any =
    let less = fewer line any pool some in
    let was = h any in
    omega arith

pool_kept_by : (before others pool : List (List ℕ)) (line any : List ℕ) (b : Bool) → bytes_eq any line ≡ b
    → times_among pool any ≡ times_among others any - times_among before any → times_among pool line ≡ 0
    → times_among pool any ≡ times_among others any - (cond b 1 0 + times_among before any)
pool_kept_by before others pool line any true e was none =
    let same : times_among pool any ≡ times_among pool line = ap (times_among pool) ((bytes_eq-Decides any line).0 e) in
    omega arith
pool_kept_by before others pool line any false e was none = omega arith

pool_kept : (before others pool : List (List ℕ)) (line : List ℕ) → IsPoolAfter before others pool → times_among pool line ≡ 0
    → IsPoolAfter (line ∷ before) others pool
unfolding IsPoolAfter
pool_kept before others pool line h none any = pool_kept_by before others pool line any (bytes_eq any line) refl (h any) none

step_by : (before lines others pool : List (List ℕ)) (line : List ℕ) (b : Bool) → nat_lt (count_equal line before) (count_equal line others) ≡ b
    → IsPoolAfter before others pool
    → ((after : List (List ℕ)) → IsPoolAfter (line ∷ before) others after → left_over lines after ≡ surplus (line ∷ before) lines others)
    → left_over (line ∷ lines) pool ≡ cond b (surplus (line ∷ before) lines others) (line ∷ surplus (line ∷ before) lines others)
unfolding IsPoolAfter
step_by before lines others pool line true e h next =
    let fewer_before : count_equal line before < count_equal line others = ltb-true _ _ e in
    let was = h line in
    let some : 0 < times_among pool line = (let b = same_count line before in let o = same_count line others in omega arith) in
    gone pool line lines some ∙ next (without_one line pool) (pool_taken before others pool line h some)
step_by before lines others pool line false e h next =
    let no_fewer : count_equal line others ≤ count_equal line before = ltb-false _ _ e in
    let was = h line in
    let none : times_among pool line ≡ 0 = (let b = same_count line before in let o = same_count line others in omega arith) in
    stays pool line lines none ∙ ap (λ rest. line ∷ rest) (next pool (pool_kept before others pool line h none))

left_is_surplus : (lines before others pool : List (List ℕ)) → IsPoolAfter before others pool → left_over lines pool ≡ surplus before lines others
left_is_surplus [] before others pool h = none_left pool
left_is_surplus (line ∷ lines) before others pool h =
    step_by before lines others pool line (nat_lt (count_equal line before) (count_equal line others)) refl h
    (λ after k. left_is_surplus lines (line ∷ before) others after k)

pool_whole : (others : List (List ℕ)) → IsPoolAfter [] others others
unfolding IsPoolAfter
pool_whole others any = omega arith

pub last_ones : (text other : List ℕ) → lacking_lines text other ≡ surplus [] (lines_of text) (lines_of other)
last_ones text other = left_is_surplus (lines_of text) [] (lines_of other) (lines_of other) (pool_whole (lines_of other))
