-- The tokens of records, one after another.
use Rattle.std.proofs.Common.{◌≡◌, ℕ, Bool, if◌then◌else◌, List, [], ◌∷◌, ◌++◌, append_assoc, refl, ap, sym, subst, ◌∙◌, codes}
use Rattle.std.specs.Prelude.{IsUtf8, IfOk, OnOk, Result, Ok, Err, is_ok}
use Rattle.std.specs.Global.{Vec}
use Rattle.std.specs.Str.Lossy.{utf8_lossy}
use Rattle.std.proofs.lemmas.Str.{IsUtf8-append}
use Rattle.json.specs.Token.{Token, begin_object, end_object, begin_array, end_array, key, string}
use Rattle.json.specs.Json.{Members, object, array, member, no_members}
use Rattle.json.specs.Json as json
use Rattle.json.specs.Tree.{json_tokens, items_tokens}
use Rattle.json.specs.Print.{print}
use Rattle.json.specs.Written.{Written}
use Rattle.json.proofs.Printed.Utf8.{IsUtf8-are_ascii}
use Rattle.kmin_messages.specs.between.MessageViews.{AppendsTokens}
use Rattle.kmin_records.specs.Records.{lines_json, status_name, tidy_members}
use Rattle.kmin_lines.specs.LackingLines.{lacking_lines}
use Rattle.kmin_lines.specs.Lines.{have_same_lines}
use Rattle.kmin_records.specs.between.RecordTokens.{text_tokens}

-- the line of a writer that had nothing before, and took the end of an object, is UTF-8
pub ended_utf8 : (old new : Written) (items line : List ℕ) → AppendsTokens old new (end_object ∷ []) → items ≡ new.before ++ print new.tokens
    → line ≡ items ++ 10 ∷ [] → IsUtf8 (print new.tokens) → old.before ≡ [] → IsUtf8 line
ended_utf8 old new items line h e k u none =
    let same : line ≡ print new.tokens ++ 10 ∷ [] =
    k ∙ ap (λ bytes. bytes ++ 10 ∷ []) (e ∙ ap (λ before. before ++ print new.tokens) (h.before ∙ none)) in
    subst IsUtf8 (sym same) (IsUtf8-append (print new.tokens) (10 ∷ []) u (IsUtf8-are_ascii (10 ∷ []) refl))

-- the line of a record that was begun with the tokens `first`, and then took some
pub recorded : {E : Type 0} (r : Result (Vec ℕ) E) (begun ended : Written) (first ts us : List Token) → begun.before ≡ [] → begun.tokens ≡ first
    → AppendsTokens begun ended ts
    → IfOk r (λ line. line.items ≡ ended.before ++ (print (ended.tokens ++ end_object ∷ []) ++ 10 ∷ [])) → (first ++ ts) ++ end_object ∷ [] ≡ us
    → IfOk r (λ line. line.items ≡ print us ++ 10 ∷ [])
recorded (Ok line) begun ended first ts us none have h e same =
    e ∙ ap (λ before. before ++ (print (ended.tokens ++ end_object ∷ []) ++ 10 ∷ [])) (h.before ∙ none)
    ∙ ap (λ all. print (all ++ end_object ∷ []) ++ 10 ∷ []) (h.all ∙ ap (λ a. a ++ ts) have)
    ∙ ap (λ all. print all ++ 10 ∷ []) same
recorded (Err error) begun ended first ts us none have h e same = tt

-- a line that is appended to what was there
pub line_appended : {T E : Type 0} (r : Result T E) (old new given line : List ℕ) → new ≡ (if is_ok r then old ++ given else old) → given ≡ line → OnOk r (new ≡ old ++ line)
line_appended (Ok x) old new given line h same = h ∙ ap (λ l. old ++ l) same
line_appended (Err e) old new given line h same = tt

-- the tokens of lines as the items of an array
lines_tokens : (lines : List (List ℕ)) (rest : List Token) → items_tokens (lines_json lines) ++ rest ≡ text_tokens lines ++ end_array ∷ rest
lines_tokens [] rest = refl
lines_tokens (line ∷ lines) rest = ap (λ ts. string (utf8_lossy line) ∷ ts) (lines_tokens lines rest)

-- the members of the record of a file, from its path, how it differs, the lines that go and those that come
abbrev file_members : (path status : List ℕ) (outs ins : List (List ℕ)) → Members
file_members path status outs ins =
    member (codes "file") (json.string path)
    (member (codes "status") (json.string status) (member (codes "out") (array (lines_json outs)) (member (codes "in") (array (lines_json ins)) no_members)))

-- their tokens, in parts
abbrev parts : (path status : List ℕ) (outs ins : List (List ℕ)) → List Token
parts path status outs ins =
    ((begin_object ∷ key (codes "file") ∷ string path ∷ []) ++ ((key (codes "status") ∷ string status ∷ [])
    ++ ((key (codes "out") ∷ begin_array ∷ (text_tokens outs ++ end_array ∷ [])) ++ (key (codes "in") ∷ begin_array ∷ (text_tokens ins ++ end_array ∷ [])))))
    ++ end_object ∷ []

file_tokens : (path status : List ℕ) (outs ins : List (List ℕ)) → parts path status outs ins ≡ json_tokens (object (file_members path status outs ins))
file_tokens path status outs ins =
    ap (λ ts. begin_object ∷ key (codes "file") ∷ string path ∷ key (codes "status") ∷ string status ∷ key (codes "out") ∷ begin_array ∷ ts)
    (ap (λ ts. ts ++ end_object ∷ []) (append_assoc (text_tokens outs) (end_array ∷ []) _)
    ∙ append_assoc (text_tokens outs) _ (end_object ∷ [])
    ∙ ap (λ ts. text_tokens outs ++ end_array ∷ key (codes "in") ∷ begin_array ∷ ts)
    (append_assoc (text_tokens ins) (end_array ∷ []) (end_object ∷ []) ∙ sym (lines_tokens ins (end_object ∷ [])))
    ∙ sym (lines_tokens outs _))

module _ (path status bytes least : List ℕ) (same : Bool) (outs ins listed_outs listed_ins : List (List ℕ)) where
  pub file_record : same ≡ have_same_lines bytes least → status ≡ status_name same outs ins → outs ≡ lacking_lines bytes least → ins ≡ lacking_lines least bytes
      → listed_outs ≡ lacking_lines bytes least → listed_ins ≡ lacking_lines least bytes
      → parts path status listed_outs listed_ins ≡ json_tokens (object (tidy_members path bytes least))
  file_record e f g h k l =
      let how : status ≡ status_name (have_same_lines bytes least) (lacking_lines bytes least) (lacking_lines least bytes) =
      f ∙ ap (λ b. status_name b outs ins) e ∙ ap (λ ls. status_name (have_same_lines bytes least) ls ins) g
      ∙ ap (λ ls. status_name (have_same_lines bytes least) (lacking_lines bytes least) ls) h in
      file_tokens path status listed_outs listed_ins
      ∙ ap (λ s. json_tokens (object (file_members path s listed_outs listed_ins))) how
      ∙ ap (λ ls. json_tokens (object (file_members path (status_name (have_same_lines bytes least) (lacking_lines bytes least) (lacking_lines least bytes)) ls listed_ins))) k
      ∙ ap (λ ls. json_tokens (object (file_members path (status_name (have_same_lines bytes least) (lacking_lines bytes least) (lacking_lines least bytes)) (lacking_lines bytes least) ls))) l
