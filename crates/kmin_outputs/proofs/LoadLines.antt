-- The line and the status of a fault of a configuration file, by its kind.
use Rattle.kmin_outputs.proofs.Common.{◌≡◌, ℕ, List, [], ◌∷◌, refl, LoadKind, Malformed, NotUtf8, LineTooLong, TooManyLines, Read, OutOfMemory, TooLarge, fault_line, load_lines, load_status}

-- a fault of a configuration file that isn't lack of memory has one line of standard error
pub load_lines_one : (path : List ℕ) (number : ℕ) (kind : LoadKind) → (kind ≡ OutOfMemory → ⊥) → load_lines path number kind ≡ fault_line path number kind ∷ []
load_lines_one path number Malformed h = refl
load_lines_one path number NotUtf8 h = refl
load_lines_one path number LineTooLong h = refl
load_lines_one path number TooManyLines h = refl
load_lines_one path number Read h = refl
load_lines_one path number OutOfMemory h = absurd (h refl)
load_lines_one path number TooLarge h = refl

pub load_status_4 : (kind : LoadKind) → (kind ≡ OutOfMemory → ⊥) → (kind ≡ Read → ⊥) → 4 ≡ load_status kind
load_status_4 Malformed h k = refl
load_status_4 NotUtf8 h k = refl
load_status_4 LineTooLong h k = refl
load_status_4 TooManyLines h k = refl
load_status_4 Read h k = absurd (k refl)
load_status_4 OutOfMemory h k = absurd (h refl)
load_status_4 TooLarge h k = refl
