-- The rows of the symbols, one after another.
use Rattle.kmin_missed.proofs.Common.{◌≡◌, ℕ, ◌<◌, ◌+◌, ◌==◌, Bool, List, [], ◌∷◌, ◌++◌, length, sym, subst, ◌∙◌, ap, append-nil, arith, list_any, range_with_len, slice_get, flat_map, option_map, unwrap_or, flat_map-append, Symbol, SourcesModel, missed_rows, missed_rows_at, range_more, symbol_there, Some}
use Rattle.kmin_missed.specs.MissedLines.{missed_of}

-- the rows of one more symbol
pub one_more_rows : (g : SourcesModel) (i s : ℕ) (text new symbols : List ℕ) (marked : Bool) → s ≡ i → i < length g.tree.symbols
    → marked ≡ list_any (λ m. m == i) symbols → symbols ≡ missed_of g
    → ((symbol : Symbol) → slice_get g.tree.symbols s ≡ Some symbol → new ≡ text ++ missed_rows g marked s symbol)
    → text ≡ flat_map (missed_rows_at g) (range_with_len 0 i) → new ≡ flat_map (missed_rows_at g) (range_with_len 0 (i + 1))
one_more_rows g i s text new symbols marked same inside is_marked are pushed before =
    let k = symbol_there g.tree.symbols s (subst (λ n. n < length g.tree.symbols) (sym same) inside) in
    let mark : marked ≡ list_any (λ m. m == s) (missed_of g) = is_marked ∙ ap (list_any (λ m. m == i)) are ∙ ap (λ n. list_any (λ m. m == n) (missed_of g)) (sym same) in
    pushed k.0 k.1 ∙ ap (λ b. text ++ missed_rows g b s k.0) mark
    ∙ ap (λ o. text ++ unwrap_or (option_map (missed_rows g (list_any (λ m. m == s) (missed_of g)) s) o) []) (sym k.1)
    ∙ ap (λ n. text ++ missed_rows_at g n) same ∙ ap (λ x. x ++ missed_rows_at g i) before
    ∙ ap (λ x. flat_map (missed_rows_at g) (range_with_len 0 i) ++ x) (sym (append-nil (missed_rows_at g i)))
    ∙ sym (flat_map-append (missed_rows_at g) (range_with_len 0 i) (i ∷ []))
    ∙ ap (λ n. flat_map (missed_rows_at g) (range_with_len 0 i ++ n ∷ [])) (let e : i ≡ 0 + i = omega arith in e)
    ∙ ap (flat_map (missed_rows_at g)) (sym (range_more 0 i))
