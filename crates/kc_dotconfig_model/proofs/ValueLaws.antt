-- The text after `=` has the meaning that `value_meaning` returns, and no other.
use Rattle.std.proofs.Common.{ℤ}
use Rattle.kc_dotconfig_model.proofs.Common.{◌≡◌, ◌≢◌, ℕ, Bool, true, false, ◌==◌, cond, List, [], ◌∷◌, ◌++◌, Option, Some, None, refl, sym, ◌∙◌, ap, subst, is_some, option_map, false≢true, eqb-true, Tri, N, M, Y, Kind, Tristate, Text, Int, Hex, IsBetweenQuotes, none, plain, pair, IsQuoted, Tree, Symbol}
use Rattle.kc_dotconfig_model.proofs.Common.{unit_of, member_user, Language, is_tri_kind, number_of_text, NotOfType, Strings, Escaped, Raw, between_quotes, IsStringSpelling, LineMeaning, assigns, notice, silent, tri_of_text, unchosen_meaning, ValueMeans, tri, chosen, not_chosen, quoted, number}
use Rattle.kc_dotconfig_model.proofs.Common.{no_int, no_hex, value_meaning}
use Rattle.kc_value.specs.declared.value.Kind.TheVariants.{Bool as Boolean}
use Rattle.kc_value.specs.Number.{int_text, hex_text}
use Rattle.kc_rules_model.specs.declared.values.UserValue.TheVariants.{Text as TextUser}
use Rattle.kc_value.specs.Tri.{is_y}
use Rattle.kc_dotconfig_model.specs.ConfigLines.{no_tri, no_text, no_number}
use Rattle.kc_dotconfig_model.specs.between.LineMeanings.{ended, unquoted_rest, unquoted, before_quote, raw_text, string_text, tri_meaning, string_meaning, without_number, number_meaning, meaning_of_kind}

-- what is read after an opening quote is a body and a closing quote
record IsRest (rest means : List ℕ) : Type 0 where
  body : List ℕ
  whole : rest ≡ body ++ 34 ∷ []
  is_between_quotes : IsBetweenQuotes 34 body means

some_mapped : (c : ℕ) (o : Option (List ℕ)) (means : List ℕ) → option_map (λ text. c ∷ text) o ≡ Some means
    → (text : List ℕ) × (o ≡ Some text) × (means ≡ c ∷ text)
some_mapped c None means e = cc
some_mapped c (Some text) means e = (text, refl, cc)

at_end : (rest means : List ℕ) → ended rest ≡ Some means → (rest ≡ []) × (means ≡ [])
at_end [] means e = (refl, cc)
at_end (x ∷ rest) means e = cc

one_more : (c : ℕ) (rest text means : List ℕ) → (c == 34) ≡ false → (c == 92) ≡ false → means ≡ c ∷ text → IsRest rest text → IsRest (c ∷ rest) means
one_more c rest text means not_quote not_escape same r =
    record { body = c ∷ r.body; whole = ap (λ l. c ∷ l) r.whole; is_between_quotes = subst (IsBetweenQuotes 34 (c ∷ r.body)) (sym same) (plain not_quote not_escape r.is_between_quotes) }

pair_more : (c d : ℕ) (rest text means : List ℕ) → (c == 92) ≡ true → means ≡ d ∷ text → IsRest rest text → IsRest (c ∷ d ∷ rest) means
pair_more c d rest text means escape same r =
    record {
      body = c ∷ d ∷ r.body;
      whole = ap (λ l. c ∷ d ∷ l) r.whole;
      is_between_quotes = subst (λ b. IsBetweenQuotes 34 (b ∷ d ∷ r.body) means) (sym (eqb-true c 92 escape)) (subst (IsBetweenQuotes 34 (92 ∷ d ∷ r.body)) (sym same) (pair r.is_between_quotes));
    }

just_quote : (c : ℕ) (rest means : List ℕ) → (c == 34) ≡ true → ended rest ≡ Some means → IsRest (c ∷ rest) means
just_quote c rest means quote e =
    let o = at_end rest means e in
    record { body = []; whole = ap (λ b. b ∷ rest) (eqb-true c 34 quote) ∙ ap (λ l. 34 ∷ l) o.0; is_between_quotes = subst (IsBetweenQuotes 34 []) (sym o.1) none }

unquoted_sound : (rest means : List ℕ) → unquoted_rest false rest ≡ Some means → IsRest rest means
unquoted_sound [] means e = cc
unquoted_sound (c ∷ []) means e = go (c == 34) (c == 92) refl refl e where
  go : (q b : Bool) → (c == 34) ≡ q → (c == 92) ≡ b
      → cond q (ended []) (cond b (unquoted_rest true []) (option_map (λ text. c ∷ text) (unquoted_rest false []))) ≡ Some means → IsRest (c ∷ []) means
  go true b quote escape e = just_quote c [] means quote e
  go false true quote escape e = cc
  go false false quote escape e = cc
unquoted_sound (c ∷ d ∷ rest) means e = go (c == 34) (c == 92) refl refl e (unquoted_sound (d ∷ rest)) (unquoted_sound rest) where
  go : (q b : Bool) → (c == 34) ≡ q → (c == 92) ≡ b
      → cond q (ended (d ∷ rest)) (cond b (unquoted_rest true (d ∷ rest)) (option_map (λ text. c ∷ text) (unquoted_rest false (d ∷ rest)))) ≡ Some means
      → ((m : List ℕ) → unquoted_rest false (d ∷ rest) ≡ Some m → IsRest (d ∷ rest) m) → ((m : List ℕ) → unquoted_rest false rest ≡ Some m → IsRest rest m)
      → IsRest (c ∷ d ∷ rest) means
  go true b quote escape e one two = just_quote c (d ∷ rest) means quote e
  go false true quote escape e one two = let o = some_mapped d (unquoted_rest false rest) means e in pair_more c d rest o.0 means escape o.2 (two o.0 o.1)
  go false false quote escape e one two =
      let o = some_mapped c (unquoted_rest false (d ∷ rest)) means e in one_more c (d ∷ rest) o.0 means quote escape o.2 (one o.0 o.1)

unquoted_complete : (body means : List ℕ) → IsBetweenQuotes 34 body means → unquoted_rest false (body ++ 34 ∷ []) ≡ Some means
unquoted_complete body means none = refl
unquoted_complete body means (plain {c = c} {bs = bs} {cs = cs} quote escape rest) =
    ap (λ q. cond q (ended (bs ++ 34 ∷ [])) (cond (c == 92) (unquoted_rest true (bs ++ 34 ∷ []))
    (option_map (λ text. c ∷ text) (unquoted_rest false (bs ++ 34 ∷ []))))) quote
    ∙ ap (λ b. cond b (unquoted_rest true (bs ++ 34 ∷ [])) (option_map (λ text. c ∷ text) (unquoted_rest false (bs ++ 34 ∷ [])))) escape
    ∙ ap (option_map (λ text. c ∷ text)) (unquoted_complete bs cs rest)
unquoted_complete body means (pair {c = c} {bs = bs} {cs = cs} rest) = ap (option_map (λ text. c ∷ text)) (unquoted_complete bs cs rest)

-- if `unquoted` gives a text for some bytes, the bytes are a quoted string that represents this text
pub unquoted_means : (text means : List ℕ) → unquoted text ≡ Some means → IsQuoted text means
unquoted_means [] means e = cc
unquoted_means (c ∷ rest) means e = go (c == 34) refl e where
  go : (t : Bool) → (c == 34) ≡ t → cond t (unquoted_rest false rest) None ≡ Some means → IsQuoted (c ∷ rest) means
  go true quote e = let r = unquoted_sound rest means e in (r.body, ap (λ b. b ∷ rest) (eqb-true c 34 quote) ∙ ap (λ l. 34 ∷ l) r.whole, r.is_between_quotes)
  go false quote e = cc

pub means_unquoted : (text means : List ℕ) → IsQuoted text means → unquoted text ≡ Some means
means_unquoted text means q = ap unquoted q.1 ∙ unquoted_complete q.0 means q.2

before_quote_is : (text means : List ℕ) → before_quote text ≡ Some means → text ≡ means ++ 34 ∷ []
before_quote_is [] means e = cc
before_quote_is (c ∷ []) means e = go (c == 34) refl e where
  go : (t : Bool) → (c == 34) ≡ t → cond t (Some []) None ≡ Some means → c ∷ [] ≡ means ++ 34 ∷ []
  go true quote e = let same : [] ≡ means = cc in ap (λ b. b ∷ []) (eqb-true c 34 quote) ∙ ap (λ l. l ++ 34 ∷ []) same
  go false quote e = cc
before_quote_is (c ∷ d ∷ rest) means e =
    let o = some_mapped c (before_quote (d ∷ rest)) means e in
    ap (λ l. c ∷ l) (before_quote_is (d ∷ rest) o.0 o.1) ∙ ap (λ l. l ++ 34 ∷ []) (sym o.2)

before_its_quote : (means : List ℕ) → before_quote (means ++ 34 ∷ []) ≡ Some means
before_its_quote (c ∷ d ∷ means) = ap (option_map (λ text. c ∷ text)) (before_its_quote (d ∷ means))
before_its_quote _ = refl

raw_is : (text means : List ℕ) → raw_text text ≡ Some means → text ≡ between_quotes means
raw_is [] means e = cc
raw_is (c ∷ rest) means e = go (c == 34) refl e where
  go : (t : Bool) → (c == 34) ≡ t → cond t (before_quote rest) None ≡ Some means → c ∷ rest ≡ between_quotes means
  go true quote e = ap (λ b. b ∷ rest) (eqb-true c 34 quote) ∙ ap (λ l. 34 ∷ l) (before_quote_is rest means e)
  go false quote e = cc

-- if `string_text` gives a text for the bytes after `=`, the bytes are a spelling of this text, in each form of strings
pub string_is : (strings : Strings) (text means : List ℕ) → string_text strings text ≡ Some means → IsStringSpelling strings text means
string_is Escaped text means e = unquoted_means text means e
string_is Raw text means e = raw_is text means e

pub string_read : (strings : Strings) (text means : List ℕ) → IsStringSpelling strings text means → string_text strings text ≡ Some means
string_read Escaped text means is = means_unquoted text means is
string_read Raw text means is = ap raw_text is ∙ before_its_quote means

tri_sound : (strings : Strings) (tree : Tree) (s : ℕ) (symbol : Symbol) (kind : Kind) (text : List ℕ) → symbol.kind ≡ kind → is_tri_kind kind ≡ true
    → (c : Option ℕ)
    → symbol.choice ≡ c → (o : Option Tri) → tri_of_text symbol.kind text ≡ o
    → ValueMeans strings tree s symbol text (tri_meaning tree.language (unit_of tree s) s c o)
tri_sound strings tree s symbol kind text is small c choice None meant = no_tri text (ap is_tri_kind is ∙ small) meant
tri_sound strings tree s symbol kind text is small None choice (Some t) meant = tri text t choice meant
tri_sound strings tree s symbol kind text is small (Some c) choice (Some Y) meant = chosen c text choice meant
tri_sound strings tree s symbol kind text is small (Some c) choice (Some N) meant = not_chosen c text N choice meant (λ e. cc)
tri_sound strings tree s symbol kind text is small (Some c) choice (Some M) meant = not_chosen c text M choice meant (λ e. cc)

string_sound : (strings : Strings) (tree : Tree) (s : ℕ) (symbol : Symbol) (text : List ℕ) → symbol.kind ≡ Text → (o : Option (List ℕ))
    → string_text strings text ≡ o
    → ValueMeans strings tree s symbol text (string_meaning tree.language strings (unit_of tree s) text o)
string_sound strings tree s symbol text is None e = no_text text is (λ means q. let same = string_read strings text means q in cc)
string_sound strings tree s symbol text is (Some means) e = quoted text means is (string_is strings text means e)

number_sound : (strings : Strings) (tree : Tree) (s : ℕ) (symbol : Symbol) (text : List ℕ) → is_tri_kind symbol.kind ≡ false → symbol.kind ≢ Text
    → ValueMeans strings tree s symbol [] silent → (o : Option ℤ) → number_of_text symbol.kind text ≡ o
    → ValueMeans strings tree s symbol text (cond (is_some o) (assigns (unit_of tree s) (TextUser text)) (without_number text))
number_sound strings tree s symbol text large other empty (Some n) e = number text (ap is_some e)
number_sound strings tree s symbol [] large other empty None e = empty
number_sound strings tree s symbol (b ∷ text) large other empty None e = no_number b text large other e

means_at_kind : (strings : Strings) (tree : Tree) (s : ℕ) (symbol : Symbol) (text : List ℕ) (kind : Kind) → symbol.kind ≡ kind
    → ValueMeans strings tree s symbol text (meaning_of_kind tree.language strings kind (unit_of tree s) s symbol.choice text)
means_at_kind strings tree s symbol text Boolean is =
    tri_sound strings tree s symbol Boolean text is refl symbol.choice refl (tri_of_text Boolean text) (ap (λ k. tri_of_text k text) is)
means_at_kind strings tree s symbol text Tristate is =
    tri_sound strings tree s symbol Tristate text is refl symbol.choice refl (tri_of_text Tristate text) (ap (λ k. tri_of_text k text) is)
means_at_kind strings tree s symbol text Text is = string_sound strings tree s symbol text is (string_text strings text) refl
means_at_kind strings tree s symbol text Int is =
    number_sound strings tree s symbol text (ap is_tri_kind is) (λ e. cc) (no_int is) (number_of_text Int text) (ap (λ k. number_of_text k text) is)
means_at_kind strings tree s symbol text Hex is =
    number_sound strings tree s symbol text (ap is_tri_kind is) (λ e. cc) (no_hex is) (number_of_text Hex text) (ap (λ k. number_of_text k text) is)

-- the text after `=` has the meaning that `value_meaning` returns for its symbol
pub value_means : (strings : Strings) (tree : Tree) (s : ℕ) (symbol : Symbol) (text : List ℕ) → ValueMeans strings tree s symbol text
    (value_meaning strings tree s symbol text)
value_means strings tree s symbol text = means_at_kind strings tree s symbol text symbol.kind refl

is_tri_meant : (kind : Kind) (text : List ℕ) (t : Tri) → tri_of_text kind text ≡ Some t → is_tri_kind kind ≡ true
is_tri_meant Boolean text t e = refl
is_tri_meant Tristate text t e = refl
is_tri_meant _ text t e = cc

of_tri_kind : (language : Language) (strings : Strings) (kind : Kind) (u s : ℕ) (choice : Option ℕ) (text : List ℕ) → is_tri_kind kind ≡ true
    → meaning_of_kind language strings kind u s choice text ≡ tri_meaning language u s choice (tri_of_text kind text)
of_tri_kind language strings Boolean u s choice text e = refl
of_tri_kind language strings Tristate u s choice text e = refl
of_tri_kind language strings _ u s choice text e = absurd (false≢true e)

of_number_kind : (language : Language) (strings : Strings) (kind : Kind) (u s : ℕ) (choice : Option ℕ) (text : List ℕ) → is_tri_kind kind ≡ false → kind ≢ Text
    → meaning_of_kind language strings kind u s choice text ≡ number_meaning u kind text
of_number_kind language strings Text u s choice text e other = absurd (other refl)
of_number_kind language strings Int u s choice text e other = refl
of_number_kind language strings Hex u s choice text e other = refl
of_number_kind language strings _ u s choice text e other = absurd (false≢true (sym e))

number_kind : (kind : Kind) (text : List ℕ) → is_some (number_of_text kind text) ≡ true → (is_tri_kind kind ≡ false) × (kind ≢ Text)
number_kind Int text e = (refl, λ same. cc)
number_kind Hex text e = (refl, λ same. cc)
number_kind _ text e = absurd (false≢true e)

not_y : (t : Tri) → t ≢ Y → is_y t ≡ false
not_y Y other = absurd (other refl)
not_y _ other = refl

no_int_number : number_of_text Int [] ≡ None
unfolding int_text
no_int_number = refl

no_hex_number : number_of_text Hex [] ≡ None
unfolding hex_text
no_hex_number = refl

no_meaning : (strings : Strings) (text : List ℕ) (o : Option (List ℕ)) → string_text strings text ≡ o
    → ((means : List ℕ) → IsStringSpelling strings text means → ⊥)
    → o ≡ None
no_meaning strings text None e lacks = refl
no_meaning strings text (Some means) e lacks = absurd (lacks means (string_is strings text means e))

-- the text after `=` has no other meaning than the one that `value_meaning` returns for its symbol
pub value_meaning_is : (strings : Strings) (tree : Tree) (s : ℕ) (symbol : Symbol) (text : List ℕ) (meaning : LineMeaning)
    → ValueMeans strings tree s symbol text meaning
    → value_meaning strings tree s symbol text ≡ meaning
value_meaning_is strings tree s symbol text meaning (tri _ t out meant) =
    of_tri_kind tree.language strings symbol.kind (unit_of tree s) s symbol.choice text (is_tri_meant symbol.kind text t meant)
    ∙ ap (λ o. tri_meaning tree.language (unit_of tree s) s symbol.choice o) meant ∙ ap (λ c. tri_meaning tree.language (unit_of tree s) s c (Some t)) out
value_meaning_is strings tree s symbol text meaning (chosen c _ within meant) =
    of_tri_kind tree.language strings symbol.kind (unit_of tree s) s symbol.choice text (is_tri_meant symbol.kind text Y meant)
    ∙ ap (λ o. tri_meaning tree.language (unit_of tree s) s symbol.choice o) meant ∙ ap (λ k. tri_meaning tree.language (unit_of tree s) s k (Some Y)) within
value_meaning_is strings tree s symbol text meaning (not_chosen c _ t within meant other) =
    of_tri_kind tree.language strings symbol.kind (unit_of tree s) s symbol.choice text (is_tri_meant symbol.kind text t meant)
    ∙ ap (λ o. tri_meaning tree.language (unit_of tree s) s symbol.choice o) meant ∙ ap (λ k. tri_meaning tree.language (unit_of tree s) s k (Some t)) within
    ∙ ap (λ b. cond b (assigns (unit_of tree s) (member_user tree.language s)) (unchosen_meaning tree.language (unit_of tree s) s)) (not_y t other)
value_meaning_is strings tree s symbol text meaning (quoted _ means is is_between_quotes) =
    ap (λ k. meaning_of_kind tree.language strings k (unit_of tree s) s symbol.choice text) is
    ∙ ap (string_meaning tree.language strings (unit_of tree s) text) (string_read strings text means is_between_quotes)
value_meaning_is strings tree s symbol text meaning (number _ some) =
    let kinds = number_kind symbol.kind text some in
    of_number_kind tree.language strings symbol.kind (unit_of tree s) s symbol.choice text kinds.0 kinds.1
    ∙ ap (λ b. cond b (assigns (unit_of tree s) (TextUser text)) (without_number text)) some
value_meaning_is strings tree s symbol text meaning (no_int is) =
    ap (λ k. meaning_of_kind tree.language strings k (unit_of tree s) s symbol.choice []) is
    ∙ ap (λ o. cond (is_some o) (assigns (unit_of tree s) (TextUser [])) silent) no_int_number
value_meaning_is strings tree s symbol text meaning (no_hex is) =
    ap (λ k. meaning_of_kind tree.language strings k (unit_of tree s) s symbol.choice []) is
    ∙ ap (λ o. cond (is_some o) (assigns (unit_of tree s) (TextUser [])) silent) no_hex_number
value_meaning_is strings tree s symbol text meaning (no_tri _ small meant) =
    of_tri_kind tree.language strings symbol.kind (unit_of tree s) s symbol.choice text small ∙ ap (λ o. tri_meaning tree.language (unit_of tree s) s symbol.choice o) meant
value_meaning_is strings tree s symbol text meaning (no_text _ is lacks) =
    ap (λ k. meaning_of_kind tree.language strings k (unit_of tree s) s symbol.choice text) is
    ∙ ap (string_meaning tree.language strings (unit_of tree s) text)
    (no_meaning strings text (string_text strings text) refl lacks)
value_meaning_is strings tree s symbol text meaning (no_number b rest large other lacks) =
    of_number_kind tree.language strings symbol.kind (unit_of tree s) s symbol.choice (b ∷ rest) large other
    ∙ ap (λ o. cond (is_some o) (assigns (unit_of tree s) (TextUser (b ∷ rest))) (notice NotOfType)) lacks
