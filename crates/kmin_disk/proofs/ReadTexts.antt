-- The bytes that a reader had left, read and compared a part at a time.
use Rattle.std.proofs.Common.{◌≡◌, ◌+◌, ℕ, true, false, List, ◌++◌, Option, Some, None, length, take, drop, ap, sym, ◌∙◌, append_assoc}
use Rattle.std.proofs.Math.Seq.{take-add, take-append_seam}
use Rattle.std.specs.Io.KnownBytes.{Consumes}
use Rattle.std.specs.Str.{bytes_eq}
use Rattle.std.proofs.lemmas.Slice.Eq.{bytes_eq-Decides}

-- a reader that gave the first `n` bytes of a text and then the next `m` gave its first `n + m` bytes
pub consumes_next : (a b c : Option (List ℕ)) (text : List ℕ) (n m : ℕ)
    → Consumes a b (take n text) → Consumes b c (take m (drop n text)) → Consumes a c (take (n + m) text)
consumes_next None b c text n m first next = tt
consumes_next (Some xs) None c text n m first next = absurd first
consumes_next (Some xs) (Some ys) None text n m first next = absurd next
consumes_next (Some xs) (Some ys) (Some zs) text n m first next =
    first ∙ (ap (λ l. take n text ++ l) next
    ∙ (sym (append_assoc (take n text) (take m (drop n text)) zs) ∙ ap (λ l. l ++ zs) (sym (take-add n m text))))

-- a reader that gave other bytes than the first ones of a text didn't have that text left before
pub another_text : (a c : Option (List ℕ)) (left text part : List ℕ) (count : ℕ) → Consumes a c part → a ≡ Some left
    → count ≡ length part → bytes_eq part (take count text) ≡ false → left ≡ text → ⊥
another_text None c left text part count gave known all other is = (cc)
another_text (Some xs) None left text part count gave known all other is = gave
another_text (Some xs) (Some ys) left text part count gave known all other is =
    let whole : text ≡ part ++ ys = cc in
    let front : take count text ≡ part = ap (λ t. take count t) whole ∙ (ap (λ k. take k (part ++ ys)) all ∙ take-append_seam part ys) in
    let equal : bytes_eq part (take count text) ≡ true = (bytes_eq-Decides part (take count text)).1 (sym front) in
    let h : false ≡ true = sym other ∙ equal in
    cc
