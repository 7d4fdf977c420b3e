-- Expansion by rules: the value that a text expands to, whatever the order of the steps.
use Rattle.std.specs.Prelude.{◌≡◌, ℕ, Bool, false, ◌&&◌, ◌==◌, ◌≤◌, List, [], ◌∷◌, ◌++◌, length, Some, None}
use Rattle.kc_tree_model.specs.Keywords.{keyword_in_table}
use Rattle.kc_value.specs.declared.limits.TheConstants.{MAX_PIECES}
use Rattle.kc_macros_model.specs.Programs.{Place, Program, returns, fails, stops, does}
use Rattle.kc_macros_model.specs.References.{inside_length, pieces}
use Rattle.kc_macros_model.specs.Variables.{Value, joined_values, simple, recursive, Bindings, argument_of, built_ins}
use Rattle.kc_macros_model.specs.Expansion.{unbound_value}
use Rattle.kc_macros_model.specs.Worlds.{World, reply, Ending, returned, failed, stopped}

-- how a program ends in a world where work has no limit and questions may be open
abbrev pub ending_in : {A : Type 0} → World → Program A → Ending A
ending_in w (returns x) = returned x
ending_in w (fails f) = failed f
ending_in w stops = stopped
ending_in w (does e k) = ending_in w (k (reply w e))

-- whether a text begins with `$(`
abbrev pub begins_reference : List ℕ → Bool
begins_reference [] = false
begins_reference (c ∷ []) = false
begins_reference (c ∷ d ∷ s) = c == 36 && (d == 40)

-- Under the arguments of a call a text expands to this value, which is unknown where it depends on an open question.
mutual
  pub data Expands (w : World) (at : Place) (b : Bindings) : List Value → List ℕ → Value → Type 0 where
    done : {args : List Value} → Expands w at b args [] (Some [])
    byte : {args : List Value} {c : ℕ} {s : List ℕ} {v : Value} → begins_reference (c ∷ s) ≡ false
        → Expands w at b args s v → Expands w at b args (c ∷ s) (joined_values (Some (c ∷ [])) v)
    reference : {args : List Value} {inside s : List ℕ} {u v : Value} → inside_length 0 (inside ++ 41 ∷ s) ≡ Some (length inside)
        → Refers w at b args inside u → Expands w at b args s v → Expands w at b args (36 ∷ 40 ∷ (inside ++ 41 ∷ s)) (joined_values u v)

  -- under the arguments of a call, a macro reference with these bytes between its parentheses has this value
  pub data Refers (w : World) (at : Place) (b : Bindings) : List Value → List ℕ → Value → Type 0 where
    parameter : {args : List Value} {inside : List ℕ} {u : Value} → argument_of args inside ≡ Some u → Refers w at b args inside u
    call : {args given : List Value} {inside name : List ℕ} {u : Value} → argument_of args inside ≡ None → length (pieces 0 inside) ≤ MAX_PIECES
        → ExpandEach w at b args (pieces 0 inside) (Some name ∷ given) → Means w at b given name u → Refers w at b args inside u
    unknown_name : {args given : List Value} {inside : List ℕ} → argument_of args inside ≡ None → length (pieces 0 inside) ≤ MAX_PIECES
        → ExpandEach w at b args (pieces 0 inside) (None ∷ given) → Refers w at b args inside None

  -- under the arguments of a call, each of these pieces of a macro reference expands to its value in the list
  pub data ExpandEach (w : World) (at : Place) (b : Bindings) : List Value → List (List ℕ) → List Value → Type 0 where
    no_pieces : {args : List Value} → ExpandEach w at b args [] []
    piece : {args : List Value} {p : List ℕ} {v : Value} {ps : List (List ℕ)} {vs : List Value}
        → Expands w at b args p v → ExpandEach w at b args ps vs → ExpandEach w at b args (p ∷ ps) (v ∷ vs)

  -- a macro name that is called with these arguments has this value
  pub data Means (w : World) (at : Place) (b : Bindings) : List Value → List ℕ → Value → Type 0 where
    simple_variable : {given : List Value} {name : List ℕ} {u : Value} → b name ≡ Some (simple u) → Means w at b given name u
    recursive_variable : {given : List Value} {name s : List ℕ} {u : Value} → b name ≡ Some (recursive s)
        → Expands w at b given s u → Means w at b given name u
    unbound : {given : List Value} {name : List ℕ} {u : Value} → b name ≡ None
        → ending_in w (unbound_value at name given (keyword_in_table built_ins name)) ≡ returned u → Means w at b given name u
