-- The names of choices, as lists of bytes.
use Rattle.std.specs.Prelude.{ℕ, List, Vec}
use Rattle.std.specs.declared.alloc.Global.{Global}

-- the name of a choice, from its entry in a map of names
abbrev pub name_of_entry : Vec ℕ Global × Unit {0} → List ℕ
name_of_entry e = e.0.items
