-- Macro references in a text: where one ends, its pieces, and the items into which a text is cut.
use Rattle.std.specs.Prelude.{ℕ, zero, suc, pred, ◌+◌, ◌-◌, Bool, true, false, ◌&&◌, ◌==◌, List, [], ◌∷◌, ◌++◌, length, take, Option, Some, None, option_map, if◌then◌else◌}
use Rattle.std.specs.List.{onto_first}

-- how many parentheses are open after this byte, given how many are open before it
abbrev pub open_after : ℕ → ℕ → ℕ
open_after c n = if c == 40 then n + 1 else if c == 41 then n - 1 else n

-- how many bytes come before the `)` that ends a macro reference, where `n` parentheses are open in it; `None` without such a `)`
abbrev pub inside_length : (n : ℕ) → List ℕ → Option ℕ
inside_length n [] = None
inside_length n (c ∷ s) = if c == 41 && (n == 0) then Some 0 else option_map suc (inside_length (open_after c n) s)

-- the pieces of a macro reference, a name and its arguments: its inside, cut at commas outside parentheses, of which `n` are open
abbrev pub pieces : (n : ℕ) → List ℕ → List (List ℕ)
pieces n [] = [] ∷ []
pieces n (c ∷ s) = let rest = pieces (open_after c n) s in if c == 44 && (n == 0) then [] ∷ rest else onto_first c rest

-- an item of a text: a byte; in quotes a backslash with the byte after it; a macro reference by its inside; a `$(` without its
-- `)`, with all that follows
pub data Item : Type 0 where
  byte : ℕ → Item
  escaped : ℕ → Item
  reference : List ℕ → Item
  unterminated : List ℕ → Item

-- the bytes of an item of a text, with the `$(` and `)` of a reference
abbrev pub item_bytes : Item → List ℕ
item_bytes (byte c) = c ∷ []
item_bytes (escaped c) = 92 ∷ c ∷ []
item_bytes (reference inside) = 36 ∷ 40 ∷ (inside ++ 41 ∷ [])
item_bytes (unterminated rest) = 36 ∷ 40 ∷ rest

-- the item that begins with `$(`, given the bytes after that and the length of its inside, which is `None` if it has no end
abbrev pub reference_of : List ℕ → Option ℕ → Item
reference_of s None = unterminated s
reference_of s (Some n) = reference (take n s)

-- the first item of a text, given its first byte and the bytes after that
abbrev pub first_item : (in_quotes : Bool) → ℕ → List ℕ → Item
first_item q c [] = byte c
first_item q c (d ∷ s) =
    if c == 36 && (d == 40) then reference_of s (inside_length 0 s)
    else if q && (c == 92) then escaped d
    else byte c

-- the items of a text; the first `skip` bytes belong to an earlier item
abbrev pub items : (in_quotes : Bool) (skip : ℕ) → List ℕ → List Item
items q skip [] = []
items q (suc skip) (c ∷ s) = items q skip s
items q zero (c ∷ s) = let i = first_item q c s in i ∷ items q (pred (length (item_bytes i))) s

-- whether an item of a text is a `$(` without its `)`
abbrev pub is_unterminated : Item → Bool
is_unterminated (unterminated rest) = true
is_unterminated i = false

-- whether an item of a text is a macro reference
abbrev pub is_reference : Item → Bool
is_reference (reference inside) = true
is_reference i = false

-- whether an item of a text is a `$` that begins no macro reference
abbrev pub is_plain_dollar : Item → Bool
is_plain_dollar (byte c) = c == 36
is_plain_dollar i = false
