-- Notices of the code, as the definitions see them.
use Rattle.std.specs.Prelude.{ℕ}
use Rattle.kc_dotconfig_model.specs.declared.notice.Notice.{Notice}
use Rattle.kc_dotconfig_model.specs.declared.notice.NoticeKind.{NoticeKind}

-- a notice as a pair: its line, counted from 1, and its kind
abbrev pub notice_pair : Notice → ℕ × NoticeKind
notice_pair notice = (notice.line, notice.kind)
