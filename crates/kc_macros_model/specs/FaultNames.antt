-- The names of the kinds of faults and notices of macros, and of faults of answer files.
use Rattle.std.specs.Prelude.{ℕ, List, codes}
use Rattle.kc_macros_model.specs.declared.fault.MacroKind.{MacroKind}
use Rattle.kc_macros_model.specs.declared.fault.MacroKind.TheVariants as faults
use Rattle.kc_macros_model.specs.declared.fault.MacroNoticeKind.{MacroNoticeKind}
use Rattle.kc_macros_model.specs.declared.fault.MacroNoticeKind.TheVariants as notices
use Rattle.kc_macros_model.specs.declared.fault.AnswersKind.{AnswersKind}
use Rattle.kc_macros_model.specs.declared.fault.AnswersKind.TheVariants as answers

-- the name of a kind of fault of an expansion of macros, as its bytes
abbrev pub macro_kind_name : MacroKind → List ℕ
macro_kind_name faults.Unterminated = codes "Unterminated"
macro_kind_name faults.Undefined = codes "Undefined"
macro_kind_name faults.Recursion = codes "Recursion"
macro_kind_name faults.Arguments = codes "Arguments"
macro_kind_name faults.Error = codes "Error"
macro_kind_name faults.Unanswered = codes "Unanswered"
macro_kind_name faults.JoinedAssignment = codes "JoinedAssignment"
macro_kind_name faults.MissingFile = codes "MissingFile"
macro_kind_name faults.SourceLoop = codes "SourceLoop"
macro_kind_name faults.TooDeep = codes "TooDeep"
macro_kind_name faults.TooMany = codes "TooMany"
macro_kind_name faults.LineTooLong = codes "LineTooLong"
macro_kind_name faults.OutOfMemory = codes "OutOfMemory"

-- the name of a kind of notice of an expansion of macros, as its bytes
abbrev pub macro_notice_name : MacroNoticeKind → List ℕ
macro_notice_name notices.Info = codes "Info"
macro_notice_name notices.Warning = codes "Warning"

-- the name of a kind of fault of an answer file, as its bytes
abbrev pub answers_kind_name : AnswersKind → List ℕ
answers_kind_name answers.Malformed = codes "Malformed"
answers_kind_name answers.TwoAnswers = codes "TwoAnswers"
answers_kind_name answers.NotUtf8 = codes "NotUtf8"
answers_kind_name answers.LineTooLong = codes "LineTooLong"
answers_kind_name answers.TooManyLines = codes "TooManyLines"
answers_kind_name answers.TooLarge = codes "TooLarge"
answers_kind_name answers.Read = codes "Read"
answers_kind_name answers.OutOfMemory = codes "OutOfMemory"
