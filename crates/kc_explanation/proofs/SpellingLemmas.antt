-- The walk that finds the tokens of an expression from right to left.
use Rattle.std.proofs.Common.{◌≡◌, true, false, List, [], ◌∷◌, ◌++◌, map, reverse, refl, ap, sym, ◌∙◌, append_assoc}
use Rattle.std.specs.Prelude.{codes}
use Rattle.std.proofs.lemmas.List.{map-append, reverse-append}
use Rattle.kc_tokens.specs.Token.{Lexeme}
use Rattle.kc_tokens.specs.TokenGrammar.{relation_text}
use Rattle.kc_tokens.specs.declared.token.TokenKind.TheVariants.{Relation, Not, And, Or, Open, Close}
use Rattle.kc_expr.specs.between.Arena.{Exprs}
use Rattle.kc_expr.specs.Expr.{Expr, Operand, alone, related, negated, both, either, shown}
use Rattle.kc_expr.specs.Grammar.{ors, ands, factor}
use Rattle.kc_reasons_model.specs.Spelling.{token, operand_token, in_parentheses, joined, under_not, spelling}
use Rattle.kc_explanation.specs.declared.spelling.SpelledToken.{SpelledToken}
use Rattle.kc_explanation.specs.declared.spelling.OperandPlace.{OperandPlace}
use Rattle.kc_explanation.specs.declared.spelling.OperandPlace.TheVariants.{InOr, InAnd, Factor, BehindNot}
use Rattle.kc_explanation.specs.between.SpelledTokens.{lexeme_of, lexemes_of, left_operand, right_operand}
use Rattle.kc_tokens.specs.declared.token.Relop.{Relop}
use Rattle.kc_explanation.specs.checker.SpellingWalk.{is_enclosed, enclosed, spelling_in_reverse}

-- the spelling at a place
abbrev pub spelled_at : OperandPlace → Expr → List Lexeme
spelled_at InOr e = spelling ors e
spelled_at InAnd e = spelling ands e
spelled_at Factor e = spelling factor e
spelled_at BehindNot e = under_not e (spelling factor e)

turned_parentheses : (ts us : List Lexeme) → reverse ts ≡ us → reverse (enclosed true ts) ≡ in_parentheses us
turned_parentheses ts us e =
    reverse-append (token Close (codes ")") ∷ []) (ts ++ token Open (codes "(") ∷ [])
    ∙ ap (λ xs. xs ++ token Close (codes ")") ∷ []) (reverse-append ts (token Open (codes "(") ∷ []) ∙ ap (λ xs. token Open (codes "(") ∷ xs) e)

turned_operator : (o : Lexeme) (right left rs ls : List Lexeme) → reverse right ≡ rs → reverse left ≡ ls → reverse (right ++ o ∷ left) ≡ joined o ls rs
turned_operator o right left rs ls e f =
    reverse-append right (o ∷ left)
    ∙ ap (λ xs. xs ++ reverse right) (reverse-append (o ∷ []) left ∙ ap (λ xs. xs ++ o ∷ []) f)
    ∙ append_assoc ls (o ∷ []) (reverse right) ∙ ap (λ xs. ls ++ (o ∷ xs)) e

turned_both : (a b : Expr) → reverse (spelling_in_reverse Factor b) ≡ spelling factor b → reverse (spelling_in_reverse InAnd a) ≡ spelling ands a
    → reverse (spelling_in_reverse Factor b ++ token And (codes "&&") ∷ spelling_in_reverse InAnd a) ≡ joined (token And (codes "&&")) (spelling ands a) (spelling factor b)
turned_both a b e f = turned_operator (token And (codes "&&")) (spelling_in_reverse Factor b) (spelling_in_reverse InAnd a) (spelling factor b) (spelling ands a) e f

turned_either : (a b : Expr) → reverse (spelling_in_reverse InAnd b) ≡ spelling ands b → reverse (spelling_in_reverse InOr a) ≡ spelling ors a
    → reverse (spelling_in_reverse InAnd b ++ token Or (codes "||") ∷ spelling_in_reverse InOr a) ≡ joined (token Or (codes "||")) (spelling ors a) (spelling ands b)
turned_either a b e f = turned_operator (token Or (codes "||")) (spelling_in_reverse InAnd b) (spelling_in_reverse InOr a) (spelling ands b) (spelling ors a) e f

in_parentheses_both : (a b : Expr) → reverse (spelling_in_reverse Factor b) ≡ spelling factor b → reverse (spelling_in_reverse InAnd a) ≡ spelling ands a
    → reverse (enclosed true (spelling_in_reverse Factor b ++ token And (codes "&&") ∷ spelling_in_reverse InAnd a)) ≡ in_parentheses (joined (token And (codes "&&")) (spelling ands a) (spelling factor b))
in_parentheses_both a b e f = turned_parentheses (spelling_in_reverse Factor b ++ token And (codes "&&") ∷ spelling_in_reverse InAnd a) (joined (token And (codes "&&")) (spelling ands a) (spelling factor b)) (turned_both a b e f)

in_parentheses_either : (a b : Expr) → reverse (spelling_in_reverse InAnd b) ≡ spelling ands b → reverse (spelling_in_reverse InOr a) ≡ spelling ors a
    → reverse (enclosed true (spelling_in_reverse InAnd b ++ token Or (codes "||") ∷ spelling_in_reverse InOr a)) ≡ in_parentheses (joined (token Or (codes "||")) (spelling ors a) (spelling ands b))
in_parentheses_either a b e f = turned_parentheses (spelling_in_reverse InAnd b ++ token Or (codes "||") ∷ spelling_in_reverse InOr a) (joined (token Or (codes "||")) (spelling ors a) (spelling ands b)) (turned_either a b e f)

-- turned round, the walk's tokens are the spelling
pub turned : (place : OperandPlace) (e : Expr) → reverse (spelling_in_reverse place e) ≡ spelled_at place e
turned InOr (alone a) = refl
turned InAnd (alone a) = refl
turned Factor (alone a) = refl
turned BehindNot (alone a) = refl
turned InOr (related op a b) = refl
turned InAnd (related op a b) = refl
turned Factor (related op a b) = refl
turned BehindNot (related op a b) = turned_parentheses (operand_token b ∷ token (Relation op) (relation_text op) ∷ operand_token a ∷ []) (operand_token a ∷ token (Relation op) (relation_text op) ∷ operand_token b ∷ []) refl
turned InOr (negated e) = reverse-append (spelling_in_reverse BehindNot e) (token Not (codes "!") ∷ []) ∙ ap (λ xs. token Not (codes "!") ∷ xs) (turned BehindNot e)
turned InAnd (negated e) = reverse-append (spelling_in_reverse BehindNot e) (token Not (codes "!") ∷ []) ∙ ap (λ xs. token Not (codes "!") ∷ xs) (turned BehindNot e)
turned Factor (negated e) = reverse-append (spelling_in_reverse BehindNot e) (token Not (codes "!") ∷ []) ∙ ap (λ xs. token Not (codes "!") ∷ xs) (turned BehindNot e)
turned BehindNot (negated e) = reverse-append (spelling_in_reverse BehindNot e) (token Not (codes "!") ∷ []) ∙ ap (λ xs. token Not (codes "!") ∷ xs) (turned BehindNot e)
turned InOr (both a b) = turned_both a b (turned Factor b) (turned InAnd a)
turned InAnd (both a b) = turned_both a b (turned Factor b) (turned InAnd a)
turned Factor (both a b) = in_parentheses_both a b (turned Factor b) (turned InAnd a)
turned BehindNot (both a b) = in_parentheses_both a b (turned Factor b) (turned InAnd a)
turned InOr (either a b) = turned_either a b (turned InAnd b) (turned InOr a)
turned InAnd (either a b) = in_parentheses_either a b (turned InAnd b) (turned InOr a)
turned Factor (either a b) = in_parentheses_either a b (turned InAnd b) (turned InOr a)
turned BehindNot (either a b) = in_parentheses_either a b (turned InAnd b) (turned InOr a)
turned InOr (shown e) = turned InOr e
turned InAnd (shown e) = turned InAnd e
turned Factor (shown e) = turned Factor e
turned BehindNot (shown e) = turned Factor e

map-reverse : {X Y : Type 0} (f : X → Y) (xs : List X) → map f (reverse xs) ≡ reverse (map f xs)
map-reverse f [] = refl
map-reverse f (x ∷ xs) =
    ap (map f) (reverse-append (x ∷ []) xs) ∙ map-append f (reverse xs) (x ∷ []) ∙ ap (λ ys. ys ++ f x ∷ []) (map-reverse f xs)
    ∙ sym (reverse-append (f x ∷ []) (map f xs))

pub found_turned : (exprs : Exprs) (e : Expr) (none found last : List SpelledToken) → none ≡ []
    → lexemes_of exprs found ≡ lexemes_of exprs none ++ spelling_in_reverse InOr e → last ≡ reverse found
    → lexemes_of exprs last ≡ spelling ors e
found_turned exprs e none found last empty f h =
    ap (lexemes_of exprs) h ∙ map-reverse (lexeme_of exprs) found
    ∙ ap reverse (f ∙ ap (λ ts. lexemes_of exprs ts ++ spelling_in_reverse InOr e) empty) ∙ turned InOr e

-- what is in parentheses is spelled as a whole between them
pub in_whole : (place : OperandPlace) (e : Expr) → is_enclosed place e ≡ true
    → spelling_in_reverse place e ≡ token Close (codes ")") ∷ (spelling_in_reverse InOr e ++ token Open (codes "(") ∷ [])
in_whole place (related op a b) h = ap (λ c. enclosed c (operand_token b ∷ token (Relation op) (relation_text op) ∷ operand_token a ∷ [])) h
in_whole place (both a b) h = ap (λ c. enclosed c (spelling_in_reverse Factor b ++ token And (codes "&&") ∷ spelling_in_reverse InAnd a)) h
in_whole place (either a b) h = ap (λ c. enclosed c (spelling_in_reverse InAnd b ++ token Or (codes "||") ∷ spelling_in_reverse InOr a)) h
in_whole place (alone a) h = cc
in_whole place (negated e) h = cc
in_whole place (shown e) h = cc

pub bare_relation : (place : OperandPlace) (e : Expr) (op a b : _) → e ≡ related op a b → is_enclosed place e ≡ false
    → spelling_in_reverse place e ≡ operand_token b ∷ token (Relation op) (relation_text op) ∷ operand_token a ∷ []
bare_relation place e op a b is h =
    ap (spelling_in_reverse place) is
    ∙ ap (λ c. enclosed c (operand_token b ∷ token (Relation op) (relation_text op) ∷ operand_token a ∷ [])) (sym (ap (is_enclosed place) is) ∙ h)

pub bare_both : (place : OperandPlace) (e a b : Expr) → e ≡ both a b → is_enclosed place e ≡ false
    → spelling_in_reverse place e ≡ spelling_in_reverse Factor b ++ token And (codes "&&") ∷ spelling_in_reverse InAnd a
bare_both place e a b is h =
    ap (spelling_in_reverse place) is
    ∙ ap (λ c. enclosed c (spelling_in_reverse Factor b ++ token And (codes "&&") ∷ spelling_in_reverse InAnd a)) (sym (ap (is_enclosed place) is) ∙ h)

pub bare_either : (place : OperandPlace) (e a b : Expr) → e ≡ either a b → is_enclosed place e ≡ false
    → spelling_in_reverse place e ≡ spelling_in_reverse InAnd b ++ token Or (codes "||") ∷ spelling_in_reverse InOr a
bare_either place e a b is h =
    ap (spelling_in_reverse place) is
    ∙ ap (λ c. enclosed c (spelling_in_reverse InAnd b ++ token Or (codes "||") ∷ spelling_in_reverse InOr a)) (sym (ap (is_enclosed place) is) ∙ h)

-- ---- steps of the walk, where `before` was found and `rest` is what is left at a place

pub closed : (before one two three rest all : List Lexeme) (e : List Lexeme)
    → rest ≡ token Close (codes ")") ∷ (e ++ token Open (codes "(") ∷ []) → before ++ rest ≡ all
    → one ≡ before ++ token Close (codes ")") ∷ [] → two ≡ one ++ e → three ≡ two ++ token Open (codes "(") ∷ [] → three ≡ all
closed before one two three rest all e is h f g i =
    i ∙ ap (λ xs. xs ++ token Open (codes "(") ∷ []) (g ∙ ap (λ xs. xs ++ e) f ∙ append_assoc before (token Close (codes ")") ∷ []) e)
    ∙ append_assoc before (token Close (codes ")") ∷ e) (token Open (codes "(") ∷ []) ∙ ap (λ xs. before ++ xs) (sym is) ∙ h

pub past_operator : (before one two rest all right left : List Lexeme) (o : Lexeme) → rest ≡ right ++ o ∷ left → before ++ rest ≡ all
    → one ≡ before ++ right → two ≡ one ++ o ∷ [] → two ++ left ≡ all
past_operator before one two rest all right left o is h f g =
    ap (λ xs. xs ++ left) (g ∙ ap (λ xs. xs ++ o ∷ []) f ∙ append_assoc before right (o ∷ []))
    ∙ append_assoc before (right ++ o ∷ []) left ∙ ap (λ xs. before ++ xs) (append_assoc right (o ∷ []) left ∙ sym is) ∙ h

pub ended : (before one rest all last : List Lexeme) → rest ≡ last → before ++ rest ≡ all → one ≡ before ++ last → one ≡ all
ended before one rest all last is h f = f ∙ ap (λ xs. before ++ xs) (sym is) ∙ h

pub ended_by_not : (before one two rest all operand : List Lexeme) → rest ≡ operand ++ token Not (codes "!") ∷ [] → before ++ rest ≡ all
    → one ≡ before ++ operand → two ≡ one ++ token Not (codes "!") ∷ [] → two ≡ all
ended_by_not before one two rest all operand is h f g =
    g ∙ ap (λ xs. xs ++ token Not (codes "!") ∷ []) f ∙ append_assoc before operand (token Not (codes "!") ∷ []) ∙ ap (λ xs. before ++ xs) (sym is) ∙ h

-- the tokens of one operand, and of a relation
pub alone_token : (place : OperandPlace) (e : Expr) (a : Operand) → e ≡ alone a → spelling_in_reverse place e ≡ operand_token (left_operand e) ∷ []
alone_token place e a is = ap (spelling_in_reverse place) is ∙ ap (λ x. operand_token (left_operand x) ∷ []) (sym is)

pub relation_tokens : (place : OperandPlace) (e : Expr) (op : Relop) (a b : Operand) → e ≡ related op a b → is_enclosed place e ≡ false
    → spelling_in_reverse place e ≡ operand_token (right_operand e) ∷ token (Relation op) (relation_text op) ∷ operand_token (left_operand e) ∷ []
relation_tokens place e op a b is h =
    bare_relation place e op a b is h
    ∙ ap (λ x. operand_token (right_operand x) ∷ token (Relation op) (relation_text op) ∷ operand_token (left_operand x) ∷ []) (sym is)
