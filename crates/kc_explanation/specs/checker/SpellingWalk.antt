-- The spelling of an expression in the order in which the code finds its tokens.
use Rattle.std.specs.Prelude.{ℕ, Bool, true, false, List, [], ◌∷◌, ◌++◌, codes, if◌then◌else◌}
use Rattle.kc_tokens.specs.Token.{Lexeme}
use Rattle.kc_tokens.specs.TokenGrammar.{relation_text}
use Rattle.kc_tokens.specs.declared.token.TokenKind.TheVariants.{Relation, Not, And, Or, Open, Close}
use Rattle.kc_expr.specs.Expr.{Expr, alone, related, negated, both, either, shown}
use Rattle.kc_reasons_model.specs.Spelling.{token, operand_token}
use Rattle.kc_explanation.specs.declared.spelling.OperandPlace.{OperandPlace}
use Rattle.kc_explanation.specs.declared.spelling.OperandPlace.TheVariants.{InOr, InAnd, Factor, BehindNot}

-- whether a relation, a conjunction or a disjunction has parentheses at a place
abbrev pub encloses_relations : OperandPlace → Bool
encloses_relations InOr = false
encloses_relations InAnd = false
encloses_relations Factor = false
encloses_relations BehindNot = true

abbrev pub encloses_ands : OperandPlace → Bool
encloses_ands InOr = false
encloses_ands InAnd = false
encloses_ands Factor = true
encloses_ands BehindNot = true

abbrev pub encloses_ors : OperandPlace → Bool
encloses_ors InOr = false
encloses_ors InAnd = true
encloses_ors Factor = true
encloses_ors BehindNot = true

abbrev pub is_enclosed : OperandPlace → Expr → Bool
is_enclosed place (alone a) = false
is_enclosed place (related op a b) = encloses_relations place
is_enclosed place (negated e) = false
is_enclosed place (both a b) = encloses_ands place
is_enclosed place (either a b) = encloses_ors place
is_enclosed place (shown e) = false

-- the place of the part of a "shown"
abbrev pub past_shown : OperandPlace → OperandPlace
past_shown BehindNot = Factor
past_shown InOr = InOr
past_shown InAnd = InAnd
past_shown Factor = Factor

-- in parentheses, from right to left
abbrev pub enclosed : Bool → List Lexeme → List Lexeme
enclosed b ts = if b then token Close (codes ")") ∷ (ts ++ token Open (codes "(") ∷ []) else ts

-- the tokens of an expression at a place, from right to left
abbrev pub spelling_in_reverse : OperandPlace → Expr → List Lexeme
spelling_in_reverse place (alone a) = operand_token a ∷ []
spelling_in_reverse place (related op a b) =
    enclosed (encloses_relations place) (operand_token b ∷ token (Relation op) (relation_text op) ∷ operand_token a ∷ [])
spelling_in_reverse place (negated e) = spelling_in_reverse BehindNot e ++ token Not (codes "!") ∷ []
spelling_in_reverse place (both a b) =
    enclosed (encloses_ands place) (spelling_in_reverse Factor b ++ token And (codes "&&") ∷ spelling_in_reverse InAnd a)
spelling_in_reverse place (either a b) =
    enclosed (encloses_ors place) (spelling_in_reverse InAnd b ++ token Or (codes "||") ∷ spelling_in_reverse InOr a)
spelling_in_reverse place (shown e) = spelling_in_reverse (past_shown place) e

-- 1 at each place but that of a whole expression
abbrev pub inside : OperandPlace → ℕ
inside InOr = 0
inside InAnd = 1
inside Factor = 1
inside BehindNot = 1
