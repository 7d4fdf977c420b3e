-- Some lines, expressions and values, computed.
use Rattle.std.proofs.Common.{◌≡◌, ℕ, List, [], ◌∷◌, refl, ap, arith, Some, None, Ok, Err, cond, Result}
use Rattle.std.specs.Prelude.{codes, bytes_eq}
use Rattle.kc_value.specs.declared.tri.Tri.TheVariants.{N, M, Y}
use Rattle.kc_value.specs.declared.value.Kind.TheVariants.{Tristate, Text, Int, Hex}
use Rattle.kc_value.specs.Number.{int_text, hex_text, loose_number}
use Rattle.kc_tokens.specs.declared.token.Relop.TheVariants.{Equal}
use Rattle.kc_tokens.specs.declared.token.TokenKind.TheVariants.{Word, Quoted}
use Rattle.kc_tokens.specs.declared.fault.ExprKind.TheVariants.{UnclosedQuote, LeftOut}
use Rattle.kc_tokens.specs.declared.language.Language.TheVariants.{Strict, Linux}
use Rattle.kc_tokens.specs.declared.language.LinuxVersion.TheVariants.{Unknown}
use Rattle.kc_tokens.specs.Token.{lexemes_from, next_token, Lexeme}
use Rattle.kc_tokens.specs.TokenGrammar.{IsFirstTokenFault}
use Rattle.kc_tokens.specs.declared.fault.ExprFault.{ExprFault}
use Rattle.kc_tokens.proofs.CutLaws.{read_fault}
use Rattle.kc_expr.proofs.FaultLaws.{one_fault}
use Rattle.std.proofs.Common.{length}
use Rattle.kc_tokens.specs.declared.fault.ExprKind.{ExprKind}
use Rattle.kc_tokens.specs.declared.fault.ExprKind.TheVariants.{Malformed}
use Rattle.kc_expr.specs.Grammar.{read_expr, extent}
use Rattle.kc_expr.specs.Expr.{Expr, alone, related, negated, both, either, named, value, Environment}

-- A is y, B is m, N is the int 10, H the hex 0x0A, S the string 10
names : Environment
names x =
    cond (bytes_eq x (codes "A")) (Some (record { kind = Tristate; tri = Y; text = codes "y" }))
    (cond (bytes_eq x (codes "B")) (Some (record { kind = Tristate; tri = M; text = codes "m" }))
    (cond (bytes_eq x (codes "N")) (Some (record { kind = Int; tri = N; text = codes "10" }))
    (cond (bytes_eq x (codes "H")) (Some (record { kind = Hex; tri = N; text = codes "0x0A" }))
    (cond (bytes_eq x (codes "S")) (Some (record { kind = Text; tri = N; text = codes "10" })) None))))

word : List ℕ → Expr
word x = alone (named x)

negation_is_of_the_relation : value names (negated (related Equal (named (codes "B")) (named (codes "B")))) ≡ N
unfolding names word int_text hex_text loose_number
negation_is_of_the_relation = refl

text_compares_with_a_number : value names (related Equal (named (codes "S")) (named (codes "010"))) ≡ Y
unfolding names int_text hex_text loose_number
text_compares_with_a_number = refl

-- a line of a word and a quoted text, and a comment
words_quotes_comment : lexemes_from Strict 0 0 (codes "bool \"a b\" # x")
    ≡ Ok (record { kind = Word; start = 0; stop = 4; text = codes "bool" } ∷ record { kind = Quoted; start = 5; stop = 10; text = codes "\"a b\"" } ∷ [])
unfolding next_token
words_quotes_comment = refl

quote_is_not_closed : lexemes_from Strict 0 0 (codes "a \"b") ≡ Err (record { offset = 2; kind = UnclosedQuote })
unfolding next_token
quote_is_not_closed = refl

-- in quotes a `$` is left out, in the strict language after a backslash too
dollar_in_a_pair_is_left_out : lexemes_from Strict 0 0 (codes "a \"b\\$\"") ≡ Err (record { offset = 5; kind = LeftOut })
unfolding next_token
dollar_in_a_pair_is_left_out = refl

bare_dollar_in_linux : lexemes_from (Linux Unknown) 0 0 (codes "a $b") ≡ Err (record { offset = 2; kind = LeftOut })
unfolding next_token
bare_dollar_in_linux = refl

-- the first fault of a line, by the token language, and one that comes after it
dollar_between_quotes_is_first : IsFirstTokenFault Strict 0 (codes "a \"b\\$\"") (record { offset = 5; kind = LeftOut })
dollar_between_quotes_is_first = read_fault Strict 7 0 (codes "a \"b\\$\"") _ (omega arith) dollar_in_a_pair_is_left_out

later_fault_is_not_first : IsFirstTokenFault (Linux Unknown) 0 (codes "a $b") (record { offset = 3; kind = LeftOut }) → ⊥
later_fault_is_not_first h =
    let same = one_fault (Linux Unknown) (codes "a $b") _ _ (read_fault (Linux Unknown) 4 0 (codes "a $b") _ (omega arith) bare_dollar_in_linux) h in
    omega (arith, ap (λ (f : ExprFault). f.offset) same)

-- the expression of a text
pieces : List ℕ → List Lexeme
pieces text = elim (lexemes_from Strict 0 0 text) [ Ok ps ↦ ps | Err e ↦ [] ]

read : List ℕ → Result Expr (ExprKind × ℕ)
read text = elim (read_expr (extent (pieces text))) [ Ok e ↦ Ok e | Err f ↦ Err (f.0, length f.1) ]

reads_up_to_the_next_word : read (codes "!A = B && (C || D) if X") ≡ Ok
    (both (negated (related Equal (named (codes "A")) (named (codes "B")))) (either (word (codes "C")) (word (codes "D"))))
unfolding next_token word read pieces read_expr
reads_up_to_the_next_word = refl

relations_do_not_chain : read (codes "A = B = C") ≡ Err (Malformed, 2)
unfolding next_token read pieces read_expr
relations_do_not_chain = refl

ands_bind_tighter_than_ors : read (codes "A && B || C && D || E") ≡ Ok
    (either (either (both (word (codes "A")) (word (codes "B"))) (both (word (codes "C")) (word (codes "D")))) (word (codes "E")))
unfolding next_token word read pieces read_expr
ands_bind_tighter_than_ors = refl
