-- the state of a session
use Rattle.std.specs.Prelude.{List, Option}

-- the state of a session: a system, an assignment of user values, and the value of each unit
pub record SessionState (S A X : Type 0) : Type 0 where
  pub system : S
  pub users : List (Option X)
  pub values : List A
