-- The meanings of the lines of a configuration file.
use Rattle.std.proofs.Common.{◌≡◌, ◌<◌, ℕ, Bool, true, false, not, cond, List, [], ◌∷◌, length, find, Option, Some, None, refl, sym, ◌∙◌, ap, subst, zero, suc, arith}
use Rattle.std.specs.Prelude.{IfSome, IfNone, IfOk, Result, Ok, Err, slice_get, is_some, option_map, bytes_eq}
use Rattle.std.proofs.lemmas.Slice.Eq.{bytes_eq-Decides}
use Rattle.kc_tokens.specs.Token.{is_white_byte}
use Rattle.kc_value.specs.declared.tri.Tri.{Tri}
use Rattle.kc_value.specs.declared.value.Kind.{Kind}
use Rattle.kc_value.specs.declared.value.Kind.TheVariants.{Bool as Boolean, Tristate, Text, Int, Hex}
use Rattle.kc_value.specs.Number.{number_of_text}
use Rattle.kc_tree_model.specs.Trees.{Tree, Symbol}
use Rattle.kc_tree_model.specs.TreeLookup.{IsConsistent, symbol_named}
use Rattle.kc_tree_model.proofs.Lookups.{found_by_name}
use Rattle.kc_value.specs.Tri.{is_y}
use Rattle.kc_dotconfig.specs.declared.meanings.Meaning.{Meaning}
use Rattle.kc_dotconfig.specs.between.MeaningViews.{meaning_view, IsWithin}
use Rattle.kc_rules_model.specs.declared.values.UserValue.TheVariants.{Text as TextUser, Lines as LinesUser}
use Rattle.kc_rules_model.specs.Rule.{member_user}
use Rattle.kc_tokens.specs.declared.language.Language.{Language}
use Rattle.kc_tokens.specs.Languages.{is_linux_6_12}
use Rattle.kc_tokens.specs.declared.language.Language.TheVariants.{Strict, Linux}
use Rattle.kc_dotconfig_model.specs.declared.format.Strings.{Strings}
use Rattle.kc_dotconfig_model.specs.declared.format.Strings.TheVariants.{Raw}
use Rattle.kc_dotconfig_model.specs.Formats.{FileFormat, IsStringSpelling}
use Rattle.kc_dotconfig_model.specs.declared.notice.NoticeKind.TheVariants.{NotOfType}
use Rattle.kc_dotconfig_model.specs.ConfigLines.{LineMeaning, assigns, assigns_escaped, unchosen, notice, silent, tri_of_text, unchosen_meaning, has_escape_notice, text_meaning, unset_meaning}
use Rattle.kc_dotconfig_model.specs.between.LineMeanings.{tri_meaning, string_meaning, number_meaning, without_number, meaning_of_kind, value_meaning, string_text, value_parts, unset_name, of_symbol_at, of_named, is_hash, of_other, of_unset, of_value, line_meaning}
use Rattle.kc_dotconfig_model.proofs.ValueLaws.{string_is, string_read}

-- a property that an optional value has if it is present holds for the value that it is
pub some_is : {X : Type 0} (o : Option X) (P : X → Type 0) (x : X) → IfSome o P → o ≡ Some x → P x
some_is o P x held is = subst (λ p. IfSome p P) is held

pub none_is : {X : Type 0} (o : Option X) (P : Type 0) → IfNone o P → o ≡ None → P
none_is o P held is = subst (λ p. IfNone p P) is held

-- a string has the meaning of its text
pub string_assigned : (language : Language) (strings : Strings) (unit : ℕ) (text means result : List ℕ) → result ≡ means → IsStringSpelling strings text means
    → text_meaning language strings unit text result ≡ string_meaning language strings unit text (string_text strings text)
string_assigned language strings unit text means result same is =
    ap (text_meaning language strings unit text) same ∙ sym (ap (string_meaning language strings unit text) (string_read strings text means is))

-- a text that is written raw has no notice
pub raw_assigned : (language : Language) (unit : ℕ) (text means result : List ℕ) → result ≡ means → IsStringSpelling Raw text means
    → assigns unit (TextUser result) ≡ string_meaning language Raw unit text (string_text Raw text)
raw_assigned Strict unit text means result same is = string_assigned Strict Raw unit text means result same is
raw_assigned (Linux version) unit text means result same is = string_assigned (Linux version) Raw unit text means result same is

pub no_string_noticed : (language : Language) (strings : Strings) (unit : ℕ) (text : List ℕ) → ((means : List ℕ) → IsStringSpelling strings text means → ⊥)
    → notice NotOfType ≡ string_meaning language strings unit text (string_text strings text)
no_string_noticed language strings unit text none = go (string_text strings text) refl where
  go : (o : Option (List ℕ)) → string_text strings text ≡ o → notice NotOfType ≡ string_meaning language strings unit text (string_text strings text)
  go None e = sym (ap (string_meaning language strings unit text) e)
  go (Some means) e = absurd (none means (string_is strings text means e))

-- what is assigned is assigned to the unit
unchosen_within : (language : Language) (n u s : ℕ) → u < n → IsWithin n (unchosen_meaning language u s)
unchosen_within language n u s h = go (is_linux_6_12 language) where
  go : (b : Bool) → IsWithin n (cond b (assigns u (LinesUser (record { member = s; is_y = false } ∷ []))) (unchosen u s))
  go true = h
  go false = tt

tri_within : (language : Language) (n u s : ℕ) (choice : Option ℕ) (o : Option Tri) → u < n → IsWithin n (tri_meaning language u s choice o)
tri_within language n u s choice None h = tt
tri_within language n u s None (Some t) h = h
tri_within language n u s (Some c) (Some t) h = go (is_y t) where
  go : (b : Bool) → IsWithin n (cond b (assigns u (member_user language s)) (unchosen_meaning language u s))
  go true = h
  go false = unchosen_within language n u s h

string_within : (language : Language) (strings : Strings) (n u : ℕ) (spelling : List ℕ) (o : Option (List ℕ)) → u < n
    → IsWithin n (string_meaning language strings u spelling o)
string_within language strings n u spelling None h = tt
string_within language strings n u spelling (Some text) h = go (has_escape_notice language strings spelling) where
  go : (b : Bool) → IsWithin n (cond b (assigns_escaped u text) (assigns u (TextUser text)))
  go true = h
  go false = h

number_within : (n u : ℕ) (kind : Kind) (text : List ℕ) → u < n → IsWithin n (number_meaning u kind text)
number_within n u kind text h = go (is_some (number_of_text kind text)) text where
  go : (b : Bool) (rest : List ℕ) → IsWithin n (cond b (assigns u (TextUser text)) (without_number rest))
  go true rest = h
  go false [] = tt
  go false (c ∷ rest) = tt

kind_within : (language : Language) (strings : Strings) (n : ℕ) (kind : Kind) (u s : ℕ) (choice : Option ℕ) (text : List ℕ) → u < n
    → IsWithin n (meaning_of_kind language strings kind u s choice text)
kind_within language strings n Boolean u s choice text h = tri_within language n u s choice (tri_of_text Boolean text) h
kind_within language strings n Tristate u s choice text h = tri_within language n u s choice (tri_of_text Tristate text) h
kind_within language strings n Text u s choice text h = string_within language strings n u text (string_text strings text) h
kind_within language strings n Int u s choice text h = number_within n u Int text h
kind_within language strings n Hex u s choice text h = number_within n u Hex text h

pub meaning_within : {E : Type 0} (r : Result Meaning E) (language : Language) (strings : Strings) (n : ℕ) (kind : Kind) (u s : ℕ) (choice : Option ℕ)
    (text : List ℕ) → u < n
    → IfOk r (λ meaning. meaning_view meaning ≡ meaning_of_kind language strings kind u s choice text) → IfOk r (λ meaning. IsWithin n (meaning_view meaning))
meaning_within (Ok meaning) language strings n kind u s choice text h is =
    subst (IsWithin n) (sym is) (kind_within language strings n kind u s choice text h)
meaning_within (Err e) language strings n kind u s choice text h is = tt

slice_there : {X : Type 0} (xs : List X) (k : ℕ) → k < length xs → (x : X) × (slice_get xs k ≡ Some x)
slice_there [] k h = absurd (omega (arith, h))
slice_there (x ∷ xs) zero h = (x, refl)
slice_there (x ∷ xs) (suc k) h = slice_there xs k (omega (arith, h))

-- the meaning of a line that names the symbol with number `s` is what the function says of this symbol
pub named_at : (tree : Tree) (say : ℕ → Symbol → LineMeaning) (s : ℕ) (x : LineMeaning) → s < length tree.symbols
    → ((symbol : Symbol) → slice_get tree.symbols s ≡ Some symbol → x ≡ say s symbol) → x ≡ of_named tree say (Some s)
named_at tree say s x h is = go (slice_get tree.symbols s) refl (slice_there tree.symbols s h) where
  go : (o : Option Symbol) → slice_get tree.symbols s ≡ o → ((symbol : Symbol) × (slice_get tree.symbols s ≡ Some symbol)) → x ≡ of_symbol_at say s o
  go None e there = let f = there.1 in cc
  go (Some symbol) e there = is symbol e

-- the meaning of a line `CONFIG_X=value` is that of the value for the symbol of its name
pub value_line_means : (format : FileFormat) (tree whole : Tree) (line text name rest : List ℕ) (x : LineMeaning) → whole ≡ tree → text ≡ line
    → value_parts format.prefix text ≡ Some (name, rest)
    → x ≡ of_named whole (λ s symbol. value_meaning format.strings whole s symbol rest) (symbol_named whole name) → Some x ≡ line_meaning format tree line
unfolding line_meaning
value_line_means format tree whole line text name rest x same is parts meaning_is =
    ap Some meaning_is ∙ sym (ap (of_value format whole text) parts) ∙ ap (λ l. line_meaning format whole l) is ∙ ap (λ t. line_meaning format t line) same

pub unset_line_means : (format : FileFormat) (tree whole : Tree) (line text name : List ℕ) (x : LineMeaning) → whole ≡ tree → text ≡ line
    → value_parts format.prefix text ≡ None → unset_name format.prefix text ≡ Some name
    → x ≡ of_named whole (λ s symbol. unset_meaning whole s symbol symbol.choice) (symbol_named whole name) → Some x ≡ line_meaning format tree line
unfolding line_meaning
unset_line_means format tree whole line text name x same is parts unset meaning_is =
    ap Some meaning_is ∙ sym (ap (of_value format whole text) parts ∙ ap (of_unset whole text) unset) ∙ ap (λ l. line_meaning format whole l) is
    ∙ ap (λ t. line_meaning format t line) same

pub other_line_means : (format : FileFormat) (tree whole : Tree) (line text : List ℕ) (o : Option LineMeaning) → whole ≡ tree → text ≡ line
    → value_parts format.prefix text ≡ None → unset_name format.prefix text ≡ None
    → o ≡ of_other text → o ≡ line_meaning format tree line
unfolding line_meaning
other_line_means format tree whole line text o same is parts unset meaning_is =
    meaning_is ∙ sym (ap (of_value format whole text) parts ∙ ap (of_unset whole text) unset) ∙ ap (λ l. line_meaning format whole l) is
    ∙ ap (λ t. line_meaning format t line) same

pub hash_is_silent : (line : List ℕ) → is_hash (find (λ b. not (is_white_byte b)) line) ≡ true → Some silent ≡ of_other line
hash_is_silent [] h = refl
hash_is_silent (b ∷ line) h = sym (ap (λ t. cond {A = Option LineMeaning} t (Some silent) None) h)

-- in a consistent tree, a symbol that has a name is the one found by the name
pub named_there : (tree : Tree) → IsConsistent tree → (s : ℕ) (found name : List ℕ) → option_map (λ (t : Symbol). t.name) (slice_get tree.symbols s)
    ≡ Some found
    → true ≡ bytes_eq found name → symbol_named tree name ≡ Some s
named_there tree sound s found name at equal = go (slice_get tree.symbols s) refl at where
  go : (o : Option Symbol) → slice_get tree.symbols s ≡ o → option_map (λ (t : Symbol). t.name) o ≡ Some found → symbol_named tree name ≡ Some s
  go None e f = cc
  go (Some symbol) e f =
      let same = (bytes_eq-Decides found name).0 (sym equal) in
      let n : symbol.name ≡ name = cc in
      subst (λ x. symbol_named tree x ≡ Some s) n (found_by_name tree sound s symbol e)
