-- The languages of a tree.
use Rattle.std.specs.Prelude.{Bool, true, false}
use Rattle.kc_tokens.specs.declared.language.Language.{Language}
use Rattle.kc_tokens.specs.declared.language.Language.TheVariants.{Strict, Linux}
use Rattle.kc_tokens.specs.declared.language.LinuxVersion.TheVariants.{Unknown, V6_1, V6_12}

-- whether a tree in a language has the rules of Linux 6.12, which are those from 6.10 on
abbrev pub is_linux_6_12 : Language → Bool
is_linux_6_12 Strict = false
is_linux_6_12 (Linux Unknown) = false
is_linux_6_12 (Linux V6_1) = false
is_linux_6_12 (Linux V6_12) = true
