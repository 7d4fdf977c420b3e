-- Steps of a walk over a symbol's definitions.
use Rattle.std.proofs.Common.{add-one, drop-cons}
use Rattle.kc_symbol_lines.proofs.Common.{◌≡◌, ℕ, ◌+◌, ◌<◌, List, [], ◌∷◌, ◌++◌, length, get_or, drop, map, ap, sym, ◌∙◌, subst, append_assoc, append-nil, flat_map, DefinitionLines, EnclosingLists}
use Rattle.std.proofs.Math.Seq.{drop-length}
use Rattle.kc_parser.specs.declared.listing.Line.{Line}
use Rattle.kc_symbol_lines.specs.checker.Definitions.{HasEntry}

pub entry_of : (a b : EnclosingLists) (file file2 : ℕ) (ls ls2 : List Line) (old new : DefinitionLines) → a ≡ b → file ≡ file2 → ls ≡ ls2
    → HasEntry a file ls old new → HasEntry b file2 ls2 old new
entry_of a b file file2 ls ls2 old new e f l h =
    subst (λ x. HasEntry b file2 x old new) l (subst (λ x. HasEntry b x ls old new) f (subst (λ x. HasEntry x file ls old new) e h))

next : (ns : List ℕ) (k : ℕ) → k < length ns → drop k ns ≡ get_or ns k 0 ∷ drop (k + 1) ns
next ns k h = rw add-one (drop-cons ns k 0 h)

pub more_flat : {X : Type 0} (f : ℕ → List X) (ns : List ℕ) (k : ℕ) (old new all : List X) → k < length ns → old ++ flat_map f (drop k ns) ≡ all
    → new ≡ old ++ f (get_or ns k 0) → new ++ flat_map f (drop (k + 1) ns) ≡ all
more_flat f ns k old new all l h e =
    ap (λ xs. xs ++ flat_map f (drop (k + 1) ns)) e ∙ append_assoc old (f (get_or ns k 0)) (flat_map f (drop (k + 1) ns))
    ∙ ap (λ xs. old ++ flat_map f xs) (sym (next ns k l)) ∙ h

pub more_mapped : {X : Type 0} (f : ℕ → X) (ns : List ℕ) (k : ℕ) (old new all : List X) → k < length ns → old ++ map f (drop k ns) ≡ all
    → new ≡ old ++ f (get_or ns k 0) ∷ [] → new ++ map f (drop (k + 1) ns) ≡ all
more_mapped f ns k old new all l h e =
    ap (λ xs. xs ++ map f (drop (k + 1) ns)) e ∙ append_assoc old (f (get_or ns k 0) ∷ []) (map f (drop (k + 1) ns))
    ∙ ap (λ xs. old ++ map f xs) (sym (next ns k l)) ∙ h

rest_is : (ns : List ℕ) (k : ℕ) → k ≡ length ns → drop k ns ≡ []
rest_is ns k e = ap (λ n. drop n ns) e ∙ drop-length ns

pub done_flat : {X : Type 0} (f : ℕ → List X) (ns : List ℕ) (k : ℕ) (found all : List X) → k ≡ length ns → found ++ flat_map f (drop k ns) ≡ all → found ≡ all
done_flat f ns k found all e h = sym (append-nil found) ∙ ap (λ xs. found ++ flat_map f xs) (sym (rest_is ns k e)) ∙ h

pub done_mapped : {X : Type 0} (f : ℕ → X) (ns : List ℕ) (k : ℕ) (found all : List X) → k ≡ length ns → found ++ map f (drop k ns) ≡ all → found ≡ all
done_mapped f ns k found all e h = sym (append-nil found) ∙ ap (λ xs. found ++ map f xs) (sym (rest_is ns k e)) ∙ h
