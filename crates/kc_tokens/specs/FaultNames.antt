-- The names of the kinds of faults of tokens and expressions.
use Rattle.std.specs.Prelude.{ℕ, List, codes}
use Rattle.kc_tokens.specs.declared.fault.ExprKind.{ExprKind}
use Rattle.kc_tokens.specs.declared.fault.ExprKind.TheVariants.{BadToken, UnclosedQuote, Malformed, TooDeep, LeftOut, OutOfMemory}

-- the name of a kind of fault of tokens and expressions
abbrev pub expr_kind_name : ExprKind → List ℕ
expr_kind_name BadToken = codes "BadToken"
expr_kind_name UnclosedQuote = codes "UnclosedQuote"
expr_kind_name Malformed = codes "Malformed"
expr_kind_name TooDeep = codes "TooDeep"
expr_kind_name LeftOut = codes "LeftOut"
expr_kind_name OutOfMemory = codes "OutOfMemory"
