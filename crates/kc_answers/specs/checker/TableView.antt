-- The entries of the code's table of answers, as `kc_macros_model` defines them.
use Rattle.std.specs.Prelude.{ℕ, List, Vec, Option, option_map}
use Rattle.std.specs.declared.alloc.Global.{Global}
use Rattle.kc_macros_model.specs.Programs.{Answer}

-- an entry of the code's table of answers as a question and its answer of `kc_macros_model`
abbrev pub answer_of_entry : Vec ℕ Global × Option (Vec ℕ Global) → List ℕ × Answer
answer_of_entry e = (e.0.items, option_map (λ (t : Vec ℕ Global). t.items) e.1)
