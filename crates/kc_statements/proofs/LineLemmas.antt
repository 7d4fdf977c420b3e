-- The definitions of lines, by their first tokens.
use Rattle.std.proofs.Common.{not}
use Rattle.kc_statements.proofs.Common.{◌≡◌, ℕ, ◌<◌, Bool, true, false, ◌==◌, List, [], ◌∷◌, length, drop, refl, ap, sym, ◌∙◌, arith, Option, Some, None, Result, Ok, Err, slice_index_or, Exprs, Grows, Expr, Lexeme, lexeme_of, lexemes_of, TreeKind, Malformed, condition_line, prompt_line}
use Rattle.kc_statements.proofs.Common.{last_condition, optional_if, no_more, is_the_word, Attribute, TargetAttribute, Statement, attribute, head, if_in, target_in, IfNodeExists}
use Rattle.std.specs.Bool.{if◌then◌else◌}
use Rattle.kc_tokens.specs.declared.token.Token.{Token as CodeToken}
use Rattle.kc_tree_model.specs.Forms.{target_line, config_line, source_line, path_of}
use Rattle.kc_tree_model.specs.Keywords.{is_name, is_quoted_kind}
use Rattle.kc_tree_model.specs.Placement.{first_is}
use Rattle.kc_tree_model.specs.declared.statement.Head.TheVariants.{Config as config, Source as source}
use Rattle.kc_statements.proofs.FormLemmas.{first_of, none_there, stepped}
use Rattle.kc_statements.proofs.GrownArenas.{if_same}

-- if the first token is the expected word, the attribute of the line is that of the condition after the word
pub worded_is : (w : List ℕ) (f : Expr → Attribute) (ts : List CodeToken) → 0 < length ts → is_the_word w (lexeme_of (first_of ts)) ≡ true
    → condition_line w f (lexemes_of ts) ≡ stepped (λ x. attribute (f x)) (last_condition (drop 1 (lexemes_of ts)))
worded_is w f [] l h = absurd (omega (arith, l))
worded_is w f (t ∷ ts) l h = rw h refl

pub worded_other : (w : List ℕ) (f : Expr → Attribute) (ts : List CodeToken) → 0 < length ts → is_the_word w (lexeme_of (first_of ts)) ≡ false
    → condition_line w f (lexemes_of ts) ≡ Err Malformed
worded_other w f [] l h = absurd (omega (arith, l))
worded_other w f (t ∷ ts) l h = rw h refl

-- if the first token is a quoted text, the prompt is that of the optional condition after the text
pub prompt_is : (f : Option Expr → Attribute) (ts : List CodeToken) → 0 < length ts → is_quoted_kind (first_of ts).kind ≡ true
    → prompt_line f (lexemes_of ts) ≡ stepped (λ x. attribute (f x)) (optional_if (drop 1 (lexemes_of ts)))
prompt_is f [] l h = absurd (omega (arith, l))
prompt_is f (t ∷ ts) l h = rw h refl

pub prompt_other : (f : Option Expr → Attribute) (ts : List CodeToken) → 0 < length ts → is_quoted_kind (first_of ts).kind ≡ false
    → prompt_line f (lexemes_of ts) ≡ Err Malformed
prompt_other f [] l h = absurd (omega (arith, l))
prompt_other f (t ∷ ts) l h = rw h refl

-- an `if` after a name
target_as : (TargetAttribute → Attribute) → List ℕ → Option Expr → Statement
target_as f x c = attribute (f (record { name = x; condition = c }))

target_is : (f : TargetAttribute → Attribute) (ts : List CodeToken) → 0 < length ts → is_name (lexeme_of (first_of ts)) ≡ true
    → target_line f (lexemes_of ts) ≡ stepped (target_as f (first_of ts).text.now) (optional_if (drop 1 (lexemes_of ts)))
unfolding target_as
target_is f [] l h = absurd (omega (arith, l))
target_is f (t ∷ ts) l h = rw h refl

pub target_other : (f : TargetAttribute → Attribute) (ts : List CodeToken) → 0 < length ts → is_name (lexeme_of (first_of ts)) ≡ false
    → target_line f (lexemes_of ts) ≡ Err Malformed
target_other f [] l h = absurd (omega (arith, l))
target_other f (t ∷ ts) l h = rw h refl

pub target_line_is : (mid new : Exprs) (f : TargetAttribute → Attribute) (ts : List CodeToken) (id : ℕ) (c : Option ℕ) → 0 < length ts
    → is_name (lexeme_of (first_of ts)) ≡ true → Grows mid new
    → optional_if (drop 1 (lexemes_of ts)) ≡ Ok (if_in mid c) → IfNodeExists mid c → slice_index_or new.names id [] ≡ (first_of ts).text.now
    → target_line f (lexemes_of ts) ≡ Ok (attribute (f (target_in new (record { name = id; condition = c }))))
unfolding target_as
target_line_is mid new f ts id c l n g o h x =
    let k : Option Expr → Statement = target_as f (first_of ts).text.now in
    target_is f ts l n ∙ ap (stepped k) o ∙ ap (λ d. Ok (k d)) (sym (if_same mid new c g h)) ∙ ap (λ y. Ok (target_as f y (if_in new c))) (sym x)

pub target_refused : (f : TargetAttribute → Attribute) (ts : List CodeToken) (k : TreeKind) → 0 < length ts → is_name (lexeme_of (first_of ts)) ≡ true
    → optional_if (drop 1 (lexemes_of ts)) ≡ Err k → target_line f (lexemes_of ts) ≡ Err k
target_refused f ts k l n o = target_is f ts l n ∙ ap (stepped (target_as f (first_of ts).text.now)) o

-- one token
pub either_way : (b : Bool) (x : Result Statement TreeKind) → (if b then x else x) ≡ x
either_way true x = refl
either_way false x = refl

pub config_long : (ts : List CodeToken) → (length ts ≡ 1 → ⊥) → config_line (lexemes_of ts) ≡ Err Malformed
config_long [] n = refl
config_long (t ∷ []) n = absurd (n refl)
config_long (t ∷ u ∷ ts) n = either_way (is_name (lexeme_of t)) (Err Malformed)

pub config_other : (ts : List CodeToken) → length ts ≡ 1 → is_name (lexeme_of (first_of ts)) ≡ false → config_line (lexemes_of ts) ≡ Err Malformed
config_other [] l h = refl
config_other (t ∷ ts) l h = rw h refl

pub config_is : (ts : List CodeToken) → length ts ≡ 1 → is_name (lexeme_of (first_of ts)) ≡ true
    → config_line (lexemes_of ts) ≡ Ok (head (config (first_of ts).text.now))
config_is [] l h = absurd (omega (arith, l))
config_is (t ∷ []) l h = rw h refl
config_is (t ∷ u ∷ ts) l h = absurd (omega (arith, l))

-- the line of a path
source_by : List Lexeme → Option (List ℕ) → Result Statement TreeKind
source_by ts None = Err Malformed
source_by ts (Some x) = no_more (head (source x)) ts

source_reading : (ts : List Lexeme) (p : Option (List ℕ))
    → ◌≡◌ {A = Result Statement TreeKind} (elim p [ None ↦ Err Malformed | Some x ↦ no_more (head (source x)) ts ]) (source_by ts p)
unfolding source_by
source_reading ts None = refl
source_reading ts (Some x) = refl

path_after : (u : Lexeme) (ts : List Lexeme) (p : Option (List ℕ)) → source_by (u ∷ ts) p ≡ Err Malformed
unfolding source_by
path_after u ts None = refl
path_after u ts (Some x) = refl

pub source_long : (ts : List CodeToken) → (length ts ≡ 1 → ⊥) → source_line (lexemes_of ts) ≡ Err Malformed
source_long [] n = refl
source_long (t ∷ []) n = absurd (n refl)
source_long (t ∷ u ∷ ts) n = source_reading (lexemes_of (u ∷ ts)) (path_of (lexeme_of t)) ∙ path_after (lexeme_of u) (lexemes_of ts) (path_of (lexeme_of t))

pub source_is : (ts : List CodeToken) (x : List ℕ) → length ts ≡ 1 → path_of (lexeme_of (first_of ts)) ≡ Some x
    → source_line (lexemes_of ts) ≡ Ok (head (source x))
unfolding source_by
source_is [] x l h = absurd (omega (arith, l))
source_is (t ∷ []) x l h = source_reading [] (path_of (lexeme_of t)) ∙ ap (source_by []) h
source_is (t ∷ u ∷ ts) x l h = absurd (omega (arith, l))

-- a test of the first token of the code gives what `first_is` gives for the tokens as the definitions have them
pub first_reported : (test : Lexeme → Bool) (ts : List CodeToken) → 0 < length ts → test (lexeme_of (first_of ts)) ≡ first_is test (lexemes_of ts)
first_reported test [] l = absurd (omega (arith, l))
first_reported test (t ∷ ts) l = refl

pub first_none : (test : Lexeme → Bool) (ts : List CodeToken) (b : Bool) → b ≡ (length ts == 0) → b ≡ true → not b ≡ first_is test (lexemes_of ts)
first_none test ts b e f = rw (none_there ts b e f) (ap not f)
