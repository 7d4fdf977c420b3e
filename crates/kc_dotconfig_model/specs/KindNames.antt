-- The names of the kinds of faults and notices, which are also their texts.
use Rattle.std.specs.Prelude.{ℕ, List, codes}
use Rattle.kc_dotconfig_model.specs.declared.fault.LoadKind.{LoadKind}
use Rattle.kc_dotconfig_model.specs.declared.fault.LoadKind.TheVariants.{Malformed, NotUtf8, LineTooLong, TooManyLines, Read, OutOfMemory, TooLarge}
use Rattle.kc_dotconfig_model.specs.declared.notice.NoticeKind.{NoticeKind}
use Rattle.kc_dotconfig_model.specs.declared.notice.NoticeKind.TheVariants.{UnknownSymbol, NotOfType, Escape, OtherChoice}

-- the name of a kind of load fault, as its variant is called
abbrev pub load_kind_name : LoadKind → List ℕ
load_kind_name Malformed = codes "Malformed"
load_kind_name NotUtf8 = codes "NotUtf8"
load_kind_name LineTooLong = codes "LineTooLong"
load_kind_name TooManyLines = codes "TooManyLines"
load_kind_name Read = codes "Read"
load_kind_name OutOfMemory = codes "OutOfMemory"
load_kind_name TooLarge = codes "TooLarge"

-- the name of a kind of notice, as its variant is called
abbrev pub notice_kind_name : NoticeKind → List ℕ
notice_kind_name UnknownSymbol = codes "UnknownSymbol"
notice_kind_name NotOfType = codes "NotOfType"
notice_kind_name Escape = codes "Escape"
notice_kind_name OtherChoice = codes "OtherChoice"
