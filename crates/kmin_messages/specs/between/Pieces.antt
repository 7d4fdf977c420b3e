-- Pieces of a text that is shown.
use Rattle.std.specs.Prelude.{◌≡◌, ℕ, Bool, List, ◌++◌, ◌+◌, length, nat_le, if◌then◌else◌}
use Rattle.kmin_messages.specs.declared.shown_text.TheConstants.{MAX_SHOWN_BYTES}

-- a text got a piece more if it fits, and else stays as it is
pub record PushesFitting (old new piece : List ℕ) (fits : Bool) : Type 0 where
  pub tested : fits ≡ nat_le (length old + length piece) MAX_SHOWN_BYTES
  pub bytes : new ≡ (if fits then old ++ piece else old)
