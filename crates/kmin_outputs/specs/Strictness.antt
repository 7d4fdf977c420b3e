-- The option `--strict`: configuration files with a notice, of their lines or on choices, are refused. Notices of a tree's expansion
-- don't count.
use Rattle.std.specs.Prelude.{◌≡◌, ◌≢◌, Bool, true, List, []}

-- configuration files aren't refused for these notices
abbrev pub AllowsNotices : {A : Type 0} → (strict : Bool) → List A → Type 0
AllowsNotices strict notices = strict ≡ true → notices ≡ []

-- configuration files are refused for these notices
abbrev pub RefusesNotices : {A : Type 0} → (strict : Bool) → List A → Type 0
RefusesNotices strict notices = (strict ≡ true) × (notices ≢ [])
