-- The steps of an assignment.
use Rattle.kc_macros.proofs.Common.{◌≡◌, ℕ, ◌<◌, List, [], ◌∷◌, Option, Some, refl, sym, ap, subst, MAX_TEXT_BYTES, Place, Program, returns, fails, ◌>>=◌, Value, value_length, joined_values, simple, Bindings, with_variable, returned, Stop, RunState, RunEnd, ends, end_of_stop, Runs, spent, too_long}
use Rattle.kc_macros_model.specs.Variables.{Variable}
use Rattle.kc_macros_model.specs.Expansion.{text_value}
use Rattle.kc_macros_model.specs.declared.operator.Operator.{Operator}
use Rattle.kc_macros_model.specs.declared.operator.Operator.TheVariants.{SetsNow, Appends}
use Rattle.kc_macros_model.specs.Assignments.{stored, stored_simple, variable_assigned}
use Rattle.kc_macros.specs.between.AssignmentViews.{bindings_assigned}
use Rattle.kc_macros.specs.checker.StoredBytes.{stored_bytes}
use Rattle.kc_macros.proofs.RunLemmas.{then_runs, stops_early, runs_nothing, returns_as}
use Rattle.kc_macros.proofs.ProgramLemmas.{runs_same}
use Rattle.kc_macros.proofs.PartialValueLemmas.{fits_not, long_then}

pub stores_too_much : (s : RunState) (at : Place) (n : ℕ) → MAX_TEXT_BYTES < n → stored_bytes at n ≡ fails (too_long at)
stores_too_much s at n h = fits_not at n (spent at n) h

module _ (s t : RunState) (at : Place) (value : Value) (v : Variable) where
  stored_is : stored at value v ≡ stored_bytes at (value_length value) >>= (λ u. returns v)
  stored_is = sym (long_then at (value_length value) (spent at (value_length value)) (λ u. returns v))

  pub stored_stopped : (stop : Stop) → Runs s t (stored_bytes at (value_length value)) (end_of_stop stop) → Runs s t (stored at value v) (end_of_stop stop)
  stored_stopped stop a = runs_same s t (stored at value v) (stored_bytes at (value_length value) >>= (λ u. returns v)) (end_of_stop stop) stored_is
      (stops_early s t (stored_bytes at (value_length value)) (λ u. returns v) stop a)

  pub stored_returned : Runs s t (stored_bytes at (value_length value)) (ends (returned (tt {0}))) → Runs s t (stored at value v) (ends (returned v))
  stored_returned a =
      runs_same s t (stored at value v) (stored_bytes at (value_length value) >>= (λ u. returns v)) (ends (returned v)) stored_is
      (then_runs s t (stored_bytes at (value_length value)) (λ u. returns v) (tt {0}) t (ends (returned v)) a (runs_nothing t v))

module _ (s t u : RunState) (at : Place) (b : Bindings) (text : List ℕ) where
  -- the program that expands a text and stores its value as a simple variable runs if its two parts run one after the other
  pub value_stored : (f : Value → Value) (x : Value) (e : RunEnd Variable) → Runs s t (text_value at b text) (ends (returned x))
      → Runs t u (stored_simple at (f x)) e
      → Runs s u (text_value at b text >>= (λ v. stored_simple at (f v))) e
  value_stored f x e a c = then_runs s t (text_value at b text) (λ v. stored_simple at (f v)) x u e a c

  pub value_unstored : (f : Value → Value) (stop : Stop) → Runs s t (text_value at b text) (end_of_stop stop)
      → Runs s t (text_value at b text >>= (λ v. stored_simple at (f v))) (end_of_stop stop)
  value_unstored f stop a = stops_early s t (text_value at b text) (λ v. stored_simple at (f v)) stop a

module _ (s t : RunState) (p : Program Variable) (name : List ℕ) (b after : Bindings) (v : Variable) where
  -- an assignment whose variable is found gives the bindings in which the name has this variable
  pub bound_after : after ≡ with_variable name v b → Runs s t p (ends (returned v)) → Runs s t (p >>= (λ x. returns (with_variable name x b)))
      (ends (returned after))
  bound_after h a =
      returns_as s t t (p >>= (λ x. returns (with_variable name x b))) (with_variable name v b) after refl h
      (then_runs s t p (λ x. returns (with_variable name x b)) v t (ends (returned (with_variable name v b))) a (runs_nothing t (with_variable name v b)))

module _ (s t : RunState) (at : Place) (b : Bindings) (text : List ℕ) (before : Option Variable) (value : Value) (h : before ≡ Some (simple value)) where
  abbrev appended_value : Value → Value
  appended_value v = joined_values value (joined_values (Some (32 ∷ [])) v)

  abbrev appended_by : Program Variable
  appended_by = text_value at b text >>= (λ v. stored_simple at (appended_value v))

  pub append_unstored : (stop : Stop) → Runs s t (text_value at b text) (end_of_stop stop) → Runs s t (variable_assigned at b Appends text before)
      (end_of_stop stop)
  append_unstored stop a = runs_same s t (variable_assigned at b Appends text before) appended_by (end_of_stop stop)
      (ap (variable_assigned at b Appends text) h) (value_unstored s t t at b text appended_value stop a)

  pub append_stored : (u : RunState) (x y : Value) (e : RunEnd Variable) → y ≡ appended_value x → Runs s t (text_value at b text) (ends (returned x))
      → Runs t u (stored_simple at y) e
      → Runs s u (variable_assigned at b Appends text before) e
  append_stored u x y e k a c =
      runs_same s u (variable_assigned at b Appends text before) appended_by e (ap (variable_assigned at b Appends text) h)
      (value_stored s t u at b text appended_value x e a (subst (λ v. Runs t u (stored_simple at v) e) k c))

module _ (s t : RunState) (at : Place) (b : Bindings) (op : Operator) (text text2 : List ℕ) (before : Option Variable) (h : op ≡ SetsNow)
    (k : text2 ≡ text) where
  pub set_unstored : (stop : Stop) → Runs s t (text_value at b text2) (end_of_stop stop) → Runs s t (variable_assigned at b op text before) (end_of_stop stop)
  set_unstored stop a =
      runs_same s t (variable_assigned at b op text before) (text_value at b text >>= stored_simple at) (end_of_stop stop)
      (ap (λ o. variable_assigned at b o text before) h)
      (stops_early s t (text_value at b text) (stored_simple at) stop (subst (λ x. Runs s t (text_value at b x) (end_of_stop stop)) k a))

  pub set_stored : (u : RunState) (x : Value) (e : RunEnd Variable) → Runs s t (text_value at b text2) (ends (returned x)) → Runs t u (stored_simple at x) e
      → Runs s u (variable_assigned at b op text before) e
  set_stored u x e a c =
      runs_same s u (variable_assigned at b op text before) (text_value at b text >>= stored_simple at) e (ap (λ o. variable_assigned at b o text before) h)
      (then_runs s t (text_value at b text) (stored_simple at) x u e (subst (λ y. Runs s t (text_value at b y) (ends (returned x))) k a) c)

module _ (s t : RunState) (at : Place) (b : Bindings) (op : Operator) (text name name2 : List ℕ) (k : name2 ≡ name) where
  abbrev assigned_variable : List ℕ → Program Variable
  assigned_variable n = variable_assigned at b op text (b n)

  pub bound_stopped : (stop : Stop) → Runs s t (assigned_variable name2) (end_of_stop stop) → Runs s t (bindings_assigned at b name op text) (end_of_stop stop)
  bound_stopped stop a = stops_early s t (assigned_variable name) (λ v. returns (with_variable name v b)) stop
      (subst (λ n. Runs s t (assigned_variable n) (end_of_stop stop)) k a)

  pub bound_so : (after : Bindings) (v : Variable) → after ≡ with_variable name v b → Runs s t (assigned_variable name2) (ends (returned v))
      → Runs s t (bindings_assigned at b name op text) (ends (returned after))
  bound_so after v h a = bound_after s t (assigned_variable name) name b after v h (subst (λ n. Runs s t (assigned_variable n) (ends (returned v))) k a)
