-- Sizes of files.
use Rattle.std.specs.Prelude.{ℕ, length, Option, Some, None}
use Rattle.kc_value.specs.declared.limits.TheConstants.{MAX_FILE_BYTES}
use Rattle.kc_files.specs.between.KnownFiles.{FileRead, missing, unreadable, whole, too_long}

-- how many bytes a file has that was read, None if it can't be read; MAX_FILE_BYTES if it is too long
abbrev pub size_read : FileRead → Option ℕ
size_read missing = None
size_read unreadable = None
size_read (whole bytes) = Some (length bytes)
size_read too_long = Some MAX_FILE_BYTES
