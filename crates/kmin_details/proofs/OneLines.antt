-- Messages of one line.
use Rattle.std.proofs.Common.{◌≡◌, ℕ, ◌-◌, ◌<◌, ◌^◌, Bool, true, false, not, ◌&&◌, ◌||◌, ◌==◌, nat_lt, nat_le, List, [], ◌∷◌, ◌++◌, map, length, Option, Some, None, decimal, append_assoc, refl, ap, sym, ◌∙◌, arith}
use Rattle.std.specs.Str.{chars}
use Rattle.std.proofs.lemmas.Bool.{eqb-true}
use Rattle.kmin_messages.specs.declared.message.Severity.{Severity}
use Rattle.kmin_messages.specs.declared.message.Severity.TheVariants.{Error, Warning}
use Rattle.kmin_messages.specs.Messages.{Message, severity_name, place, after_colon, long_line, form_line}
use Rattle.kmin_messages.specs.ShownTexts.{has_no_byte, has_no_control_byte, shown_char, fitting}
use Rattle.kmin_messages.specs.between.MessageViews.{bytes_of}
use Rattle.kmin_messages.proofs.SafeBytes.{cond_passes, all_joined}
use Rattle.kmin_messages.proofs.PlainTexts.{char_plain}
use Rattle.kmin_messages.proofs.OneLine.{decimal_safe}
use Rattle.kmin_messages.proofs.ObjectLines.{one_object}
use Rattle.kmin_details.specs.declared.message_lines.MessageParts.{MessageParts}
use Rattle.kmin_messages.specs.declared.message.Form.{Form}
use Rattle.kmin_messages.specs.declared.message.Form.TheVariants.{Long, Json}
use Rattle.kmin_details.specs.OneLines.{IsOneLine, HasNoNewline}
use Rattle.kmin_details.specs.between.Details.{detail_text}
use Rattle.kmin_details.specs.between.MessageLines.{message_of_parts}

-- the pieces that fit have no control byte
pieces_plain : (cs : List ℕ) (room : ℕ) → has_no_control_byte (fitting room (map shown_char cs)) ≡ true
pieces_plain [] room = refl
pieces_plain (c ∷ cs) room =
    cond_passes has_no_control_byte (nat_le (length (shown_char c)) room) (shown_char c ++ fitting (room - length (shown_char c)) (map shown_char cs)) []
    (all_joined (λ b. not (nat_lt b 32 || (b == 127))) (shown_char c) (fitting (room - length (shown_char c)) (map shown_char cs)) (char_plain c)
    (pieces_plain cs (room - length (shown_char c)))) refl

no_newline_by : (b : ℕ) (bs : List ℕ) (same : Bool) → (b == 10) ≡ same → has_no_byte 10 bs ≡ true → has_no_control_byte (b ∷ bs) ≡ true → has_no_byte 10 (b ∷ bs) ≡ true
no_newline_by b bs false e h k = rw e h
no_newline_by b bs true e h k = absurd (clash (ap (λ n. has_no_control_byte (n ∷ bs)) (sym (eqb-true b 10 e)) ∙ k))
  where
    clash : false ≡ true → ⊥
    clash h = cc

rest_plain : (a b : Bool) → (a && b) ≡ true → b ≡ true
rest_plain true b h = h
rest_plain false b h = cc

-- bytes without control bytes have no newline
no_newline : (bs : List ℕ) → has_no_control_byte bs ≡ true → has_no_byte 10 bs ≡ true
no_newline [] h = refl
no_newline (b ∷ bs) h = no_newline_by b bs (b == 10) refl (no_newline bs (rest_plain (not (nat_lt b 32 || (b == 127))) _ h)) h

joined : (xs ys : List ℕ) → has_no_byte 10 xs ≡ true → has_no_byte 10 ys ≡ true → has_no_byte 10 (xs ++ ys) ≡ true
joined xs ys h k = all_joined (λ c. not (c == 10)) xs ys h k

place_safe : (file : Option (List ℕ)) (line : ℕ) → line < 2 ^ 32 → HasNoNewline file → has_no_byte 10 (place file line) ≡ true
place_safe None line h k = refl
place_safe (Some path) line h k = joined path (58 ∷ decimal line) k (decimal_safe line (omega arith))

severity_safe : (s : Severity) → has_no_byte 10 (severity_name s) ≡ true
severity_safe Error = refl
severity_safe Warning = refl

text_safe : (text : List ℕ) → has_no_byte 10 text ≡ true → has_no_byte 10 (after_colon text) ≡ true
text_safe [] h = refl
text_safe (c ∷ text) h = h

parts_joined : (at severity kind text : List ℕ)
    → at ++ (58 ∷ 32 ∷ (severity ++ (58 ∷ 32 ∷ (kind ++ (text ++ 10 ∷ []))))) ≡ (at ++ (58 ∷ 32 ∷ (severity ++ (58 ∷ 32 ∷ (kind ++ text))))) ++ 10 ∷ []
parts_joined at severity kind text = simp append_assoc

long_one : (m : Message) → m.line < 2 ^ 32 → has_no_byte 10 m.kind ≡ true → HasNoNewline m.file → has_no_byte 10 m.text ≡ true → IsOneLine (long_line m)
long_one m h kind file text = record {
  text = place m.file m.line ++ (58 ∷ 32 ∷ (severity_name m.severity ++ (58 ∷ 32 ∷ (m.kind ++ after_colon m.text))));
  ended = parts_joined (place m.file m.line) (severity_name m.severity) m.kind (after_colon m.text);
  one_line = joined (place m.file m.line) _ (place_safe m.file m.line h file)
      (joined (severity_name m.severity) _ (severity_safe m.severity) (joined m.kind (after_colon m.text) kind (text_safe m.text text)));
}

pub message_one_line : (form : Form) (parts : MessageParts) → parts.line < 2 ^ 32 → has_no_byte 10 parts.kind.now ≡ true → HasNoNewline (bytes_of parts.file)
    → IsOneLine (form_line form (message_of_parts parts))
message_one_line Long parts h kind file =
    long_one (message_of_parts parts) h kind file (no_newline (message_of_parts parts).text (pieces_plain (chars (detail_text parts.detail)) 200))
message_one_line Json parts h kind file =
    let one = one_object (message_of_parts parts) h in
    record { text = one.text; ended = one.ended; one_line = one.one_line }
