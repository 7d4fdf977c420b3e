-- The bytes that a new file took, write by write.
use Rattle.std.proofs.Common.{◌≡◌, ℕ, ◌+◌, ◌-◌, ◌<◌, List, [], ◌∷◌, ◌++◌, Option, Some, None, length, take, drop, refl, ap, sym, ◌∙◌, append_assoc, arith, zero, suc, Ok}
use Rattle.std.proofs.Math.Seq.{take-add}
use Rattle.std.proofs.lemmas.List.{append-nil}
use Rattle.std.proofs.lemmas.Grind.{common_steps}
use Rattle.kc_value.specs.Streams.{failures_after_write}
use Rattle.kc_value.specs.declared.streams.Failed.{Failed}
use Rattle.kmin_disk.specs.NewFiles.{Draft, Takes, and_then}

pub and_then-nil : (bytes : Option (List ℕ)) → bytes ≡ and_then bytes []
and_then-nil None = refl
and_then-nil (Some bytes) = ap Some (sym (append-nil bytes))

pub and_then-append : (bytes : Option (List ℕ)) (first second : List ℕ) → and_then (and_then bytes first) second ≡ and_then bytes (first ++ second)
and_then-append None first second = refl
and_then-append (Some bytes) first second = ap Some (append_assoc bytes first second)

-- a new file that stays as it is took no bytes
pub takes_nothing : (draft : Draft) → Takes draft draft []
takes_nothing draft = record { own = refl; target = refl; bytes = and_then-nil draft.bytes }

-- a new file that took the first `n` bytes of a text and then the next `m` took its first `n + m` bytes
pub takes_next : (a b c : Draft) (text : List ℕ) (n m : ℕ) → Takes a b (take n text) → Takes b c (take m (drop n text)) → Takes a c (take (n + m) text)
takes_next a b c text n m first next = record {
  own = next.own ∙ first.own;
  target = next.target ∙ first.target;
  bytes = next.bytes ∙ (ap (λ bytes. and_then bytes (take m (drop n text))) first.bytes
      ∙ (and_then-append a.bytes (take n text) (take m (drop n text)) ∙ ap (and_then a.bytes) (sym (take-add n m text))));
}

-- a write that takes at least one byte leaves the count of failures as it is
pub failures_after_write-some : (n count : ℕ) (bytes : List ℕ) → 0 < count → failures_after_write {E = Failed} n (Ok count) bytes ≡ n
failures_after_write-some n count [] some = refl
failures_after_write-some n zero (b ∷ bytes) some = absurd (omega arith)
failures_after_write-some n (suc count) (b ∷ bytes) some = refl

-- the last `length text - n` bytes of a text are all of its bytes but the first `n`
pub rest_from : (n : ℕ) (text : List ℕ) → take (length text - n) (drop n text) ≡ drop n text
rest_from n text = grind (arith, common_steps)
