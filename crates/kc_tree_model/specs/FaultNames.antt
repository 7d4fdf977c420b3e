-- The names of the kinds of faults of a tree.
use Rattle.std.specs.Prelude.{ℕ, List, codes}
use Rattle.kc_tree_model.specs.declared.fault.TreeKind.{TreeKind}
use Rattle.kc_tree_model.specs.declared.fault.TreeKind.TheVariants.{NotUtf8, LineTooLong, BadToken, UnclosedQuote, UnknownStatement, Malformed, Unclosed, StrayEnd, Misplaced, NoType, TypeConflict, SecondPrompt, DefaultShape, RangeType, SelectType, ChoiceMember, ChoiceDefault, ModulesType, MissingFile, SourceLoop, TooDeep, TooMany, Cycle, LeftOut, OutOfMemory}

-- the name of a kind of fault of a tree, as its bytes
abbrev pub tree_kind_name : TreeKind → List ℕ
tree_kind_name NotUtf8 = codes "NotUtf8"
tree_kind_name LineTooLong = codes "LineTooLong"
tree_kind_name BadToken = codes "BadToken"
tree_kind_name UnclosedQuote = codes "UnclosedQuote"
tree_kind_name UnknownStatement = codes "UnknownStatement"
tree_kind_name Malformed = codes "Malformed"
tree_kind_name Unclosed = codes "Unclosed"
tree_kind_name StrayEnd = codes "StrayEnd"
tree_kind_name Misplaced = codes "Misplaced"
tree_kind_name NoType = codes "NoType"
tree_kind_name TypeConflict = codes "TypeConflict"
tree_kind_name SecondPrompt = codes "SecondPrompt"
tree_kind_name DefaultShape = codes "DefaultShape"
tree_kind_name RangeType = codes "RangeType"
tree_kind_name SelectType = codes "SelectType"
tree_kind_name ChoiceMember = codes "ChoiceMember"
tree_kind_name ChoiceDefault = codes "ChoiceDefault"
tree_kind_name ModulesType = codes "ModulesType"
tree_kind_name MissingFile = codes "MissingFile"
tree_kind_name SourceLoop = codes "SourceLoop"
tree_kind_name TooDeep = codes "TooDeep"
tree_kind_name TooMany = codes "TooMany"
tree_kind_name Cycle = codes "Cycle"
tree_kind_name LeftOut = codes "LeftOut"
tree_kind_name OutOfMemory = codes "OutOfMemory"
