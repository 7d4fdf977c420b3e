-- Variables by names, through the map that holds them.
use Rattle.kc_macros.proofs.Common.{fun_ext, ◌≡◌, ℕ, Bool, true, false, cond, List, [], ◌∷◌, map, Option, Some, None, refl, ap, ◌∙◌, Vec, bytes_eq, option_map, Global, Bor, with_variable, variable_of, entry_of, bindings_of}
use Rattle.indexmap.specs.IndexMap.{insert_entry}
use Rattle.std.specs.Option.{option_copied}
use Rattle.std.specs.Map.{lookup}
use Rattle.kc_macros.specs.declared.variable.Variable.{Variable as CodeVariable}
use Rattle.kc_answers.proofs.TableLemmas.{bytes_eq_turned}
use Rattle.kc_answers.proofs.EntryLemmas.{inserted_at}

abbrev pub Entry : Type 0
Entry = Vec ℕ Global × CodeVariable

found_by : (b : Bool) (v : CodeVariable) (o : Option CodeVariable) → cond b (Some (variable_of v)) (option_map variable_of o)
    ≡ option_map variable_of (cond b (Some v) o)
found_by true v o = refl
found_by false v o = refl

-- the variable of a name is what a look-up of the name's bytes in the code's table finds
pub find_variable : (name : List ℕ) (es : List Entry) → bindings_of (map entry_of es) name ≡ option_map variable_of
    (lookup (λ (k : Vec ℕ Global). bytes_eq name k.items) es)
find_variable name [] = refl
find_variable name (e ∷ es) =
    ap (λ b. cond b (Some (variable_of e.1)) (bindings_of (map entry_of es) name)) (bytes_eq_turned e.0.items name)
    ∙ ap (λ o. cond (bytes_eq name e.0.items) (Some (variable_of e.1)) o) (find_variable name es)
    ∙ found_by (bytes_eq name e.0.items) e.1 (lookup (λ (k : Vec ℕ Global). bytes_eq name k.items) es)

-- a variable that is inserted in the code's table is bound to its name, in place of an earlier one of that name
pub variable_bound : (es : List Entry) (k : Vec ℕ Global) (v : CodeVariable)
    → bindings_of (map entry_of (insert_entry (λ (a b : Vec ℕ Global). bytes_eq a.items b.items) es k v))
    ≡ with_variable k.items (variable_of v) (bindings_of (map entry_of es))
variable_bound es k v = fun_ext (λ other. inserted_at variable_of k v other es)

-- a borrowed variable and a copy of it are the same variable of `kc_macros_model`
pub copied_variable : (o : Option (Bor CodeVariable)) → option_map (λ (v : Bor CodeVariable). variable_of v.now) o ≡ option_map variable_of (option_copied o)
copied_variable None = refl
copied_variable (Some v) = refl
