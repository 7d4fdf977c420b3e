-- A line has tokens or a fault of its tokens, and not both; the fault is of one of three kinds.
use Rattle.kc_tree_model.proofs.Common.{◌≡◌, ℕ, Bool, true, false, List, Ok, refl, sym, ◌∙◌, ExprFault, ExprKind, Language, Lexeme, IsFirstTokenFault, cut_read, LogicalLine, HasTokens, help_line, cut_line}
use Rattle.kc_tokens.specs.declared.fault.ExprKind.TheVariants.{BadToken, UnclosedQuote, LeftOut}
use Rattle.kc_tokens.specs.TokenGrammar.{IsFaultAt, dollar, unclosed, dollar_between, other_byte, here, after_white, after_token}

-- whether a kind of fault is one that the tokens of a line may have
abbrev pub is_token_kind : ExprKind → Bool
is_token_kind BadToken = true
is_token_kind UnclosedQuote = true
is_token_kind LeftOut = true
is_token_kind kind = false

byte_kind : {language : Language} {at : ℕ} {bytes : List ℕ} {fault : ExprFault} → IsFaultAt language at bytes fault → is_token_kind fault.kind ≡ true
byte_kind dollar = refl
byte_kind (unclosed h none) = refl
byte_kind (dollar_between front back means rest h body dollars) = refl
byte_kind (other_byte h k) = refl

pub token_kind_known : {language : Language} {at : ℕ} {bytes : List ℕ} {fault : ExprFault} → IsFirstTokenFault language at bytes fault
    → is_token_kind fault.kind ≡ true
token_kind_known (here none is) = byte_kind is
token_kind_known (after_white h more) = token_kind_known more
token_kind_known (after_token kind text rest is long more) = token_kind_known more

-- a line has at most one list of tokens
pub one_tokens : (language : Language) (l : LogicalLine) (ts us : List Lexeme) → HasTokens language l ts → HasTokens language l us → ts ≡ us
one_tokens language l ts us (help_line h e) (help_line k f) = e ∙ sym f
one_tokens language l ts us (help_line h e) (cut_line k c) = let z : true ≡ false = sym h ∙ k in cc
one_tokens language l ts us (cut_line h c) (help_line k e) = let z : true ≡ false = sym k ∙ h in cc
one_tokens language l ts us (cut_line h c) (cut_line k d) =
    let same : Ok ts ≡ Ok us = sym (cut_read language 0 l.text ts c) ∙ cut_read language 0 l.text us d in
    cc
