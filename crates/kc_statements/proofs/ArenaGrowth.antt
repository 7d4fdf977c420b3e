-- Growth of an arena: in two steps, and in none.
use Rattle.std.proofs.Common.{append_assoc}
use Rattle.kc_statements.proofs.Common.{◌≡◌, List, length, take, drop, ◌++◌, ap, sym, ◌∙◌, take-append-drop, take-length, Exprs, Grows}
use Rattle.std.proofs.Math.Seq.{take-append_seam}

front_parts : {X : Type 0} (xs ys : List X) → take (length xs) ys ≡ xs → ys ≡ xs ++ drop (length xs) ys
front_parts xs ys e = sym (take-append-drop (length xs) ys) ∙ ap (λ zs. zs ++ drop (length xs) ys) e

front_on : {X : Type 0} (xs ys zs : List X) → take (length xs) ys ≡ xs → take (length ys) zs ≡ ys → take (length xs) zs ≡ xs
front_on xs ys zs e f =
    ap (take (length xs)) (front_parts ys zs f ∙ ap (λ vs. vs ++ drop (length ys) zs) (front_parts xs ys e)
    ∙ append_assoc xs (drop (length xs) ys) (drop (length ys) zs))
    ∙ take-append_seam xs (drop (length xs) ys ++ drop (length ys) zs)

pub grows_on : (old mid new : Exprs) → Grows old mid → Grows mid new → Grows old new
grows_on old mid new g h = record {
  names = front_on old.names mid.names new.names g.names h.names;
  nodes = front_on old.nodes mid.nodes new.nodes g.nodes h.nodes;
}

-- an arena that stays as it is counts as grown
pub grows_none : (e : Exprs) → Grows e e
grows_none e = record { names = take-length e.names; nodes = take-length e.nodes }
