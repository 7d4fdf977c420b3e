-- The tokens that a writer of JSON takes, one after another.
use Rattle.std.proofs.Common.{◌≡◌, ℕ, List, [], ◌∷◌, ◌++◌, Option, Some, None, Result, Ok, Err, OnOk, append_assoc, map, codes, decimal, refl, ap, ◌∙◌}
use Rattle.std.specs.Borrow.{Bor}
use Rattle.json.specs.Token.{Token, begin_object, end_object, begin_array, end_array, key, string, number}
use Rattle.json.specs.Tree.{json_tokens, items_tokens}
use Rattle.json.specs.Print.{print}
use Rattle.json.specs.Written.{Written, Writes}
use Rattle.kmin_messages.specs.declared.message.Message.{Message as CodeMessage}
use Rattle.kmin_messages.specs.Messages.{severity_name, file_json, names_json, message_json}
use Rattle.kmin_messages.specs.between.MessageViews.{AppendsTokens, message_of, bytes_of, file_token, name_tokens}

-- a token that was written
pub wrote : {E : Type 0} (x : Unit {0}) (old new : Written) (t : Token) → Writes {E = E} (Ok x) old new t → AppendsTokens old new (t ∷ [])
wrote x old new t h = record { before = h.room.0; all = h.ok }

-- more tokens after some
pub and_then : (old middle new : Written) (xs ys : List Token) → AppendsTokens old middle xs → AppendsTokens middle new ys → AppendsTokens old new (xs ++ ys)
and_then old middle new xs ys h k = record {
  before = k.before ∙ h.before;
  all = k.all ∙ ap (λ ts. ts ++ ys) h.all ∙ append_assoc old.tokens xs ys;
}

-- the same where the last write may fail
pub and_last : {E : Type 0} (r : Result (Unit {0}) E) (old middle new : Written) (xs ys : List Token) → AppendsTokens old middle xs
    → OnOk r (AppendsTokens middle new ys) → OnOk r (AppendsTokens old new (xs ++ ys))
and_last (Ok x) old middle new xs ys h k = and_then old middle new xs ys h k
and_last (Err e) old middle new xs ys h k = tt

file_tokens : (file : Option (List ℕ)) → json_tokens (file_json file) ≡ file_token file ∷ []
file_tokens None = refl
file_tokens (Some path) = refl

names_tokens : (names : List (Bor (List ℕ))) → items_tokens (names_json (map (λ (name : Bor (List ℕ)). name.now) names)) ≡ name_tokens names ++ end_array ∷ []
names_tokens [] = refl
names_tokens (name ∷ names) = ap (λ ts. string name.now ∷ ts) (names_tokens names)

-- the tokens of a message's JSON, in parts
pub object_tokens : (m : CodeMessage)
    → begin_object ∷ ((key (codes "kind") ∷ string m.kind.now ∷ key (codes "severity") ∷ string (severity_name m.severity)
    ∷ key (codes "file") ∷ file_token (bytes_of m.file) ∷ [])
    ++ ((key (codes "line") ∷ number (decimal m.line) ∷ key (codes "text") ∷ string m.text.now
    ∷ key (codes "names") ∷ begin_array ∷ (name_tokens m.names.now ++ end_array ∷ [])) ++ end_object ∷ []))
    ≡ json_tokens (message_json (message_of m))
object_tokens m = rw (file_tokens (bytes_of m.file), names_tokens m.names.now) refl

-- the line that the bytes of a writer, which had nothing before, and a newline are
pub line_of : (old new : Written) (items line : List ℕ) (ts us : List Token) → old.before ≡ [] → old.tokens ≡ [] → AppendsTokens old new ts → ts ≡ us
    → items ≡ new.before ++ print new.tokens → line ≡ items ++ 10 ∷ [] → line ≡ print us ++ 10 ∷ []
line_of old new items line ts us none empty h e k l =
    l ∙ ap (λ bytes. bytes ++ 10 ∷ [])
    (k ∙ ap (λ b. b ++ print new.tokens) (h.before ∙ none) ∙ ap print (h.all ∙ ap (λ first. first ++ ts) empty ∙ e))
