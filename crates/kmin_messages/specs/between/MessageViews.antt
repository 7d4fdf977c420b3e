-- Messages of the code as the definitions see them, and the tokens of their JSON.
use Rattle.std.specs.Prelude.{◌≡◌, ℕ, List, ◌++◌, Option, Some, None, map, option_map}
use Rattle.std.specs.Borrow.{Bor}
use Rattle.std.specs.Str.Lossy.{utf8_lossy}
use Rattle.json.specs.Token.{Token, string, null}
use Rattle.json.specs.Written.{Written}
use Rattle.kmin_messages.specs.declared.message.Message.{Message as CodeMessage}
use Rattle.kmin_messages.specs.Messages.{Message}

-- the bytes of a path, if there is one
abbrev pub bytes_of : Option (Bor (List ℕ)) → Option (List ℕ)
bytes_of file = option_map (λ (path : Bor (List ℕ)). path.now) file

-- a message of the code as the definitions see it
abbrev pub message_of : CodeMessage → Message
message_of m = record {
  kind = m.kind.now;
  severity = m.severity;
  file = bytes_of m.file;
  line = m.line;
  text = m.text.now;
  names = map (λ (name : Bor (List ℕ)). name.now) m.names.now;
}

-- a writer of JSON took these tokens, after what it had
pub record AppendsTokens (old new : Written) (tokens : List Token) : Type 0 where
  pub before : new.before ≡ old.before
  pub all : new.tokens ≡ old.tokens ++ tokens

-- the token of a path, or of there being none
abbrev pub file_token : Option (List ℕ) → Token
file_token None = null
file_token (Some file) = string (utf8_lossy file)

-- the tokens of names
abbrev pub name_tokens : List (Bor (List ℕ)) → List Token
name_tokens names = map (λ (name : Bor (List ℕ)). string name.now) names
