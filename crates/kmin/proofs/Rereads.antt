-- Files of which nothing is known.
use Rattle.std.proofs.Common.{ℕ, None, Result, Ok, Err, IfOk}
use Rattle.kmin_texts.specs.KnownLines.{IsReread}
use Rattle.kmin_texts.specs.declared.line_files.Reread.{Reread}
use Rattle.kmin_texts.specs.declared.line_files.Reread.TheVariants.{Shown, Hidden, NoLine, Unread}

any_reread : (number : ℕ) (r : Reread) → IsReread None number r
any_reread number (Shown line) = tt
any_reread number (Hidden line) = tt
any_reread number NoLine = tt
any_reread number (Unread why) = tt

-- whatever is read of such a file may be what it has
pub any_result : {E : Type 0} (number : ℕ) (r : Result Reread E) → IfOk r (IsReread None number)
any_result number (Ok reread) = any_reread number reread
any_result number (Err error) = tt
