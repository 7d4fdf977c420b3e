-- Results of parsing, compared with their definitions.
use Rattle.std.specs.Prelude.{◌≡◌, ℕ, List, Result, Ok, Err}
use Rattle.kmin_options.specs.declared.refusal.Refusal.{Refusal}
use Rattle.kmin_options.specs.declared.refusal.Refusal.TheVariants.{Words, OutOfMemory}

-- the result of parsing a value agrees with its definition: it is the same value or the same refusal, or memory ran out
abbrev pub Agrees : {A B : Type 0} → (view : A → B) → Result B (List ℕ) → Result A Refusal → Type 0
Agrees view wanted (Ok x) = wanted ≡ Ok (view x)
Agrees view wanted (Err (Words line)) = wanted ≡ Err line.now
Agrees view wanted (Err OutOfMemory) = Unit {0}
