-- The steps of a reference.
use Rattle.kc_macros.proofs.Common.{◌≡◌, ℕ, suc, ◌+◌, ◌-◌, ◌<◌, ◌≤◌, Bool, true, false, List, [], ◌∷◌, ◌++◌, length, take, drop, get_or, Some, None, refl, sym, ap, ◌∙◌, append_assoc, arith, bytes_eq, Bor, texts_of_slices, le-leb, lt-leb, append-nil, take_all, at_drop_more, Arguments, Place, Program}
use Rattle.kc_macros.proofs.Common.{returns, fails, ◌>>=◌, reference, pieces, Value, recursive, Bindings, item_value, piece_values, call_value, named_value, pieces_left, returned, Stop, RunState, ends, end_of_stop, Runs, Leads}
use Rattle.std.specs.Prelude.{◌||◌}
use Rattle.std.specs.List.{list_any}
use Rattle.kc_macros_model.specs.declared.fault.MacroKind.TheVariants.{Recursion}
use Rattle.kc_value.specs.declared.limits.TheConstants.{MAX_PIECES}
use Rattle.kc_macros_model.specs.Variables.{argument_of}
use Rattle.kc_macros_model.specs.Expansion.{Expander, reference_value, is_recursion}
use Rattle.kc_macros.proofs.RunLemmas.{stops_early, runs_nothing}
use Rattle.kc_macros.proofs.ProgramLemmas.{then_returns, then_then, then_same, runs_same, leads_same, leads_then, leads_on}

module _ (expand : List ℕ → Program Value) where
  pub pieces_at_first : (ps : List (List ℕ)) → piece_values expand ps ≡ pieces_left expand [] ps
  pieces_at_first ps = sym (then_returns (piece_values expand ps))

  pub piece_left : (vs : List Value) (p : List ℕ) (ps : List (List ℕ)) → pieces_left expand vs (p ∷ ps)
      ≡ expand p >>= (λ v. pieces_left expand (vs ++ v ∷ []) ps)
  piece_left vs p ps =
      then_then (expand p) (λ v. piece_values expand ps >>= λ rest. returns (v ∷ rest)) (λ rest. returns (vs ++ rest))
      ∙ then_same (expand p) (λ v. (piece_values expand ps >>= λ rest. returns (v ∷ rest)) >>= (λ rest. returns (vs ++ rest)))
      (λ v. pieces_left expand (vs ++ v ∷ []) ps)
      (λ v. then_then (piece_values expand ps) (λ rest. returns (v ∷ rest)) (λ rest. returns (vs ++ rest))
      ∙ then_same (piece_values expand ps) (λ rest. returns (vs ++ v ∷ rest)) (λ rest. returns ((vs ++ v ∷ []) ++ rest))
      (λ rest. ap returns (sym (append_assoc vs (v ∷ []) rest))))

  pub no_piece_left : (vs : List Value) → pieces_left expand vs [] ≡ returns vs
  no_piece_left vs = ap returns (append-nil vs)

module _ (sub : Expander) (at : Place) (b : Bindings) (names : List (List ℕ)) (args : List Value) (inside : List ℕ) where
  abbrev meant : Program Value
  meant = item_value sub at b names args (reference inside)

  pub argument_meant : (v : Value) → argument_of args inside ≡ Some v → meant ≡ returns v
  argument_meant v h = ap (reference_value sub at b names args inside) h

  abbrev by_count : Bool → Program Value
  by_count c = elim c [
    | true ↦ piece_values (sub names args) (pieces 0 inside) >>= call_value sub at b names
    | false ↦ fails (record { at = at; kind = Arguments; text = [] })
  ]

  pub too_many_pieces : argument_of args inside ≡ None → MAX_PIECES < length (pieces 0 inside) → meant ≡ fails (record { at = at; kind = Arguments; text = [] })
  too_many_pieces h k = ap (reference_value sub at b names args inside) h ∙ ap by_count (lt-leb (length (pieces 0 inside)) MAX_PIECES k)

  pub few_pieces : argument_of args inside ≡ None → length (pieces 0 inside) ≤ MAX_PIECES → meant ≡ piece_values (sub names args)
      (pieces 0 inside) >>= call_value sub at b names
  few_pieces h k = ap (reference_value sub at b names args inside) h ∙ ap by_count (le-leb (length (pieces 0 inside)) MAX_PIECES k)

-- a list that isn't empty is its first element and the elements after it
pub first_and_rest : {A : Type 0} (xs : List A) (x : A) → 0 < length xs → x ≡ get_or xs 0 x → xs ≡ x ∷ take (length xs - 1) (drop 1 xs)
first_and_rest [] x h e = absurd (omega arith)
first_and_rest (y ∷ ys) x h e = ap (λ z. z ∷ ys) (sym e) ∙ ap (λ zs. x ∷ zs) (sym (take_all (length (y ∷ ys) - 1) ys (omega arith)))

module _ (sub : Expander) (at : Place) (names : List (List ℕ)) (name : List ℕ) (args : List Value) (text : List ℕ) where
  abbrev by_recursion : Bool → Program Value
  by_recursion c = elim c [ true ↦ fails (record { at = at; kind = Recursion; text = name }) | false ↦ sub (name ∷ names) args text ]

  pub is_recursive : is_recursion names name args ≡ true → named_value sub at names name args (Some (recursive text))
      ≡ fails (record { at = at; kind = Recursion; text = name })
  is_recursive h = ap by_recursion h

  pub is_not_recursive : is_recursion names name args ≡ false → named_value sub at names name args (Some (recursive text)) ≡ sub (name ∷ names) args text
  is_not_recursive h = ap by_recursion h

any_of_texts : (name : List ℕ) (names : List (Bor (List ℕ))) → list_any (λ (n : Bor (List ℕ)). bytes_eq name n.now) names
    ≡ list_any (bytes_eq name) (texts_of_slices names)
any_of_texts name [] = refl
any_of_texts name (n ∷ ns) = ap (λ b. bytes_eq name n.now || b) (any_of_texts name ns)

-- a reference without arguments is a recursion if its name is among those that are being expanded
pub recursion_by : (names : List (Bor (List ℕ))) (name : List ℕ) (args : List Value) (b : Bool) → length args ≡ 0
    → b ≡ list_any (λ (n : Bor (List ℕ)). bytes_eq name n.now) names → b ≡ is_recursion (texts_of_slices names) name args
recursion_by names name [] b h e = e ∙ any_of_texts name names
recursion_by names name (a ∷ args) b h e = absurd (omega (arith, h))

pub texts_length : (ts : List (Bor (List ℕ))) → length (texts_of_slices ts) ≡ length ts
texts_length [] = refl
texts_length (t ∷ ts) = ap suc (texts_length ts)

module _ (expand : List ℕ → Program Value) (first s : RunState) (whole : Program (List Value)) (vs : List Value) where
  -- if the expansion of a piece of a reference stops, so does the program for the values of all its pieces
  pub piece_stopped : (t : RunState) (p : List ℕ) (ps : List (List ℕ)) (stop : Stop) → Leads first whole s (pieces_left expand vs (p ∷ ps))
      → Runs s t (expand p) (end_of_stop stop) → Runs first t whole (end_of_stop stop)
  piece_stopped t p ps stop a b =
      a.leads t (end_of_stop stop) (runs_same s t (pieces_left expand vs (p ∷ ps)) (expand p >>= (λ v. pieces_left expand (vs ++ v ∷ []) ps)) (end_of_stop stop)
      (piece_left expand vs p ps)
      (stops_early s t (expand p) (λ v. pieces_left expand (vs ++ v ∷ []) ps) stop b))

  -- the value of a piece of a reference leads to the pieces after it
  pub piece_found : (t : RunState) (p : List ℕ) (ps : List (List ℕ)) (v : Value) (more : List Value) → more ≡ vs ++ v ∷ []
      → Leads first whole s (pieces_left expand vs (p ∷ ps)) → Runs s t (expand p) (ends (returned v))
      → Leads first whole t (pieces_left expand more ps)
  piece_found t p ps v more h a b =
      leads_then first s t whole (pieces_left expand vs (p ∷ ps)) (pieces_left expand more ps) a
      (leads_then s s t (pieces_left expand vs (p ∷ ps)) (expand p >>= (λ x. pieces_left expand (vs ++ x ∷ []) ps)) (pieces_left expand more ps)
      (leads_same s (pieces_left expand vs (p ∷ ps)) (expand p >>= (λ x. pieces_left expand (vs ++ x ∷ []) ps)) (piece_left expand vs p ps))
      (leads_then s t t (expand p >>= (λ x. pieces_left expand (vs ++ x ∷ []) ps)) (pieces_left expand (vs ++ v ∷ []) ps) (pieces_left expand more ps)
      (leads_on s t (expand p) (λ x. pieces_left expand (vs ++ x ∷ []) ps) v b)
      (leads_same t (pieces_left expand (vs ++ v ∷ []) ps) (pieces_left expand more ps) (ap (λ xs. pieces_left expand xs ps) (sym h)))))

  -- if no piece of a reference is left, the program for the values of its pieces returns those that were found
  pub pieces_found : (ps : List (List ℕ)) → ps ≡ [] → Leads first whole s (pieces_left expand vs ps) → Runs first s whole (ends (returned vs))
  pieces_found ps h a = a.leads s (ends (returned vs)) (runs_same s s (pieces_left expand vs ps) (returns vs) (ends (returned vs))
      (ap (pieces_left expand vs) h ∙ no_piece_left expand vs) (runs_nothing s vs))

-- a program that leads to the pieces of a reference from index `i` on leads to piece `i` and those after it
pub piece_front : (expand : List ℕ → Program Value) (first s : RunState) (whole : Program (List Value)) (vs : List Value) (ps : List (Bor (List ℕ))) (i : ℕ)
    (d : Bor (List ℕ)) → i < length ps
    → Leads first whole s (pieces_left expand vs (texts_of_slices (drop i ps)))
    → Leads first whole s (pieces_left expand vs ((get_or ps i d).now ∷ texts_of_slices (drop (i + 1) ps)))
piece_front expand first s whole vs ps i d h a =
    leads_then first s s whole (pieces_left expand vs (texts_of_slices (drop i ps)))
    (pieces_left expand vs ((get_or ps i d).now ∷ texts_of_slices (drop (i + 1) ps))) a
    (leads_same s (pieces_left expand vs (texts_of_slices (drop i ps))) (pieces_left expand vs ((get_or ps i d).now ∷ texts_of_slices (drop (i + 1) ps)))
    (ap (pieces_left expand vs) (at_drop_more texts_of_slices ps i d h)))
