-- The tokens of a spelled expression as the code has them.
use Rattle.std.specs.Prelude.{◌<◌, List, length, map, codes}
use Rattle.kc_value.specs.declared.tri.Tri.TheVariants.{N}
use Rattle.kc_tokens.specs.Token.{Lexeme}
use Rattle.kc_tokens.specs.TokenGrammar.{relation_text}
use Rattle.kc_tokens.specs.declared.token.TokenKind.TheVariants.{Relation as RelationKind, Not as NotKind, And as AndKind, Or as OrKind, Open as OpenKind, Close as CloseKind}
use Rattle.kc_expr.specs.between.Arena.{Exprs, node_expr}
use Rattle.kc_expr.specs.Expr.{Expr, Operand, constant, alone, related}
use Rattle.kc_reasons_model.specs.Spelling.{token, operand_token}
use Rattle.kc_explanation.specs.declared.spelling.SpelledToken.{SpelledToken}
use Rattle.kc_explanation.specs.declared.spelling.SpelledToken.TheVariants.{Left, Right, Relation, Not, And, Or, Open, Close}

-- the left and the right operand of an expression; a constant of one that has none
abbrev pub left_operand : Expr → Operand
left_operand (alone a) = a
left_operand (related op a b) = a
left_operand e = constant N

abbrev pub right_operand : Expr → Operand
right_operand (related op a b) = b
right_operand e = constant N

-- the token that one of the code represents
abbrev pub lexeme_of : Exprs → SpelledToken → Lexeme
lexeme_of exprs (Left i) = operand_token (left_operand (node_expr exprs i))
lexeme_of exprs (Right i) = operand_token (right_operand (node_expr exprs i))
lexeme_of exprs (Relation op) = token (RelationKind op) (relation_text op)
lexeme_of exprs Not = token NotKind (codes "!")
lexeme_of exprs And = token AndKind (codes "&&")
lexeme_of exprs Or = token OrKind (codes "||")
lexeme_of exprs Open = token OpenKind (codes "(")
lexeme_of exprs Close = token CloseKind (codes ")")

abbrev pub lexemes_of : Exprs → List SpelledToken → List Lexeme
lexemes_of exprs ts = map (lexeme_of exprs) ts

-- the expressions that a token names are of the arena
abbrev pub IsTokenOf : Exprs → SpelledToken → Type 0
IsTokenOf exprs (Left i) = i < length exprs.nodes
IsTokenOf exprs (Right i) = i < length exprs.nodes
IsTokenOf exprs _ = Unit {0}
