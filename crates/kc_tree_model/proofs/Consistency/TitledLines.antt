-- The title of a line's statement is the text of one of its tokens.
use Rattle.kc_tree_model.proofs.Common.{ap, ◌∙◌, ◌≡◌, Bool, true, false, cond, List, [], ◌∷◌, Option, Some, None, Result, Ok, Err, ℕ, refl, sym, Lexeme, lexemes_from, quoted_text, Language, TreeKind, Malformed, LogicalLine, Head, choice, menu, condition, comment, source, mainmenu, Statement, head}
use Rattle.kc_tree_model.proofs.Common.{is_quoted_kind, Keyword, statement_of, titled_line, path_of, no_more, last_condition, Group}
use Rattle.kc_tree_model.specs.declared.keyword.Keyword.TheVariants as words
use Rattle.kc_tree_model.specs.TreeReading.{statement_on_line}
use Rattle.kc_tree_model.proofs.NestedTrees.LineFits.{bind_ok, sort_of_head, sort_of_word, other_sort, line_given}

-- the title of a `menu` or `comment` statement, or None of any other
abbrev pub title_in : Head → Option (List ℕ)
title_in (menu title) = Some title
title_in (comment title) = Some title
title_in h = None

-- a title is the text of one quoted token
abbrev Titled : List Lexeme → List ℕ → Type 0
Titled ts title = (t : Lexeme) × (us : List Lexeme) × (ts ≡ t ∷ us) × (quoted_text t.text ≡ title)

not_titled : (g h : Head) (title : List ℕ) → title_in g ≡ None → title_in h ≡ Some title → (r : Result Statement TreeKind) → r ≡ Ok (head g) → r ≡ Ok (head h)
    → ⊥
not_titled g h title none some r a b = let same : g ≡ h = cc in let both : None ≡ Some title = sym none ∙ ap title_in same ∙ some in cc

title_same : (q h : Head) (x title : List ℕ) → title_in q ≡ Some x → title_in h ≡ Some title → (r : Result Statement TreeKind) → r ≡ Ok (head q)
    → r ≡ Ok (head h) → x ≡ title
title_same q h x title first second r a b = let same : q ≡ h = cc in let both : Some x ≡ Some title = sym first ∙ ap title_in same ∙ second in cc

titled_by : (f : List ℕ → Head) → ((x : List ℕ) → title_in (f x) ≡ Some x) → (t : Lexeme) (us : List Lexeme) (h : Head) (title : List ℕ)
    → title_in h ≡ Some title → (b : Bool) → cond b (no_more {A = Statement} (head (f (quoted_text t.text))) us) (Err Malformed) ≡ Ok (head h) → Titled (t ∷ us) title
titled_by f has t [] h title e true k =
    (t, [], refl, title_same (f (quoted_text t.text)) h (quoted_text t.text) title (has (quoted_text t.text)) e (Ok (head (f (quoted_text t.text)))) refl k)
titled_by f has t (u ∷ us) h title e true k = cc
titled_by f has t us h title e false k = cc

titled : (f : List ℕ → Head) → ((x : List ℕ) → title_in (f x) ≡ Some x) → (ts : List Lexeme) (h : Head) (title : List ℕ) → title_in h ≡ Some title
    → titled_line f ts ≡ Ok (head h) → Titled ts title
titled f has [] h title e k = cc
titled f has (t ∷ us) h title e k = titled_by f has t us h title e (is_quoted_kind t.kind) k

no_main : (t : Lexeme) (us : List Lexeme) (h : Head) (title : List ℕ) → title_in h ≡ Some title → (b : Bool)
    → cond b (no_more {A = Statement} (head mainmenu) us) (Err Malformed) ≡ Ok (head h) → ⊥
no_main t [] h title e true k = not_titled mainmenu h title refl e (Ok (head mainmenu)) refl k
no_main t (u ∷ us) h title e true k = cc
no_main t us h title e false k = cc

no_source : (ts : List Lexeme) (h : Head) (title : List ℕ) → title_in h ≡ Some title → (o : Option (List ℕ))
    → elim o as (λ _. Result Statement TreeKind) [ None ↦ Err Malformed | Some path ↦ no_more (head (source path)) ts ] ≡ Ok (head h) → ⊥
no_source ts h title e None k = cc
no_source [] h title e (Some path) k = not_titled (source path) h title refl e (Ok (head (source path))) refl k
no_source (t ∷ ts) h title e (Some path) k = cc

title_in_tokens : (k : Keyword) (ts : List Lexeme) (h : Head) (title : List ℕ) → title_in h ≡ Some title → other_sort ≡ sort_of_word k
    → statement_of k ts ≡ Ok (head h) → Titled ts title
title_in_tokens words.Menu ts h title e s k = titled menu (λ x. refl) ts h title e k
title_in_tokens words.Comment ts h title e s k = titled comment (λ x. refl) ts h title e k
title_in_tokens words.Mainmenu [] h title e s k = cc
title_in_tokens words.Mainmenu (t ∷ ts) h title e s k = absurd (no_main t ts h title e (is_quoted_kind t.kind) k)
title_in_tokens words.Choice [] h title e s k = absurd (not_titled choice h title refl e (Ok (head choice)) refl k)
title_in_tokens words.Choice (t ∷ ts) h title e s k = cc
title_in_tokens words.If ts h title e s k =
    let x = bind_ok (last_condition ts) (λ c. Ok (head (condition c))) (head h) k in absurd
    (not_titled (condition x.0) h title refl e (Ok (head (condition x.0))) refl x.2)
title_in_tokens words.Source [] h title e s k = cc
title_in_tokens words.Source (t ∷ ts) h title e s k = absurd (no_source ts h title e (path_of t) k)
title_in_tokens w ts h title e s k = cc

titled_sort : (h : Head) (title : List ℕ) → title_in h ≡ Some title → sort_of_head h ≡ other_sort
titled_sort (menu x) title e = refl
titled_sort (comment x) title e = refl
titled_sort h title e = cc

-- if the statement of a line has a title, it is the text of the line's second token, read as quoted
pub line_titles : (language : Language) (read : List Group) (l : LogicalLine) (h : Head) (title : List ℕ) → title_in h ≡ Some title
    → statement_on_line language read l ≡ Ok (Some (head h))
    → (first : Lexeme) × (t : Lexeme) × (us : List Lexeme) × (lexemes_from language 0 0 l.text ≡ Ok (first ∷ t ∷ us)) × (quoted_text t.text ≡ title)
line_titles language read l h title e k =
    let s = line_given language read l (Some (head h)) k in
    let t = title_in_tokens s.keyword s.rest h title e (sym (titled_sort h title e) ∙ s.sort) s.form in
    (s.first, t.0, t.1, s.tokens_are ∙ ap (λ ts. Ok (s.first ∷ ts)) t.2, t.3)
