-- The format of a configuration file as the code has it.
use Rattle.kc_dotconfig_model.specs.declared.format.Format.{Format}
use Rattle.kc_dotconfig_model.specs.Formats.{FileFormat}
use Rattle.kc_dotconfig_model.specs.between.Prefixes.{prefix_bytes}

-- the code's format as the definitions have it: the bytes of its prefix, and its form of strings
abbrev pub file_format : Format → FileFormat
file_format format = record { prefix = prefix_bytes format.prefix; strings = format.strings }
