-- The names that most proofs of this crate cite, passed on from one place. Declares nothing.
pub use Rattle.std.proofs.Common.{Bool, List, None, Option, Some, [], ap, append-nil, append_assoc, arith, cond, drop, eqb, false, get_or, inl, inr, leb, length, length-append, ltb, pos, refl, rules, subst, suc, sym, take, true, zero, ℕ, ℤ, ◌&&◌, ◌*◌, ◌++◌, ◌+◌, ◌-◌, ◌/◌, ◌<◌, ◌^◌, ◌||◌, ◌∙◌, ◌∷◌}
pub use Rattle.std.proofs.Common.{◌≡◌, ◌≤◌, ◌⊎◌}
pub use Rattle.std.proofs.Math.ListN.{drop_of_length-le}
pub use Rattle.std.proofs.Math.Seq.{take-append_seam, take-length}
pub use Rattle.std.proofs.lemmas.Bool.{and_parts, cases_lt, eq-eqb, eqb-true, le-leb, le-ltb, leb-true, lt-ltb, ltb-false, ltb-true, ne_eqb}
pub use Rattle.std.proofs.lemmas.Grind.{common_steps, elements}
pub use Rattle.std.proofs.lemmas.List.{drop_more, length-drop, take_all}
pub use Rattle.std.proofs.lemmas.Str.{IsUtf8-append, IsUtf8-encode, IsUtf8-nil, encode_ascii, inside_one}
pub use Rattle.std.specs.Char.{digit_value, is_digit}
pub use Rattle.std.specs.List.{flat_map, list_all}
pub use Rattle.std.specs.Prelude.{IsUtf8, encode_utf8_all, option_map, string_bytes, ◌==◌}
pub use Rattle.std.specs.Str.{chars}
pub use Rattle.kc_value.specs.ByteSearch.{NonePasses}
pub use Rattle.kc_value.specs.Number.{magnitude, number_of_text, number_spelling}
pub use Rattle.kc_value.specs.NumberGrammar.{IsInt, Writes, decimal, negative, prefixed}
pub use Rattle.kc_value.specs.QuotedTexts.{IsBetweenQuotes, IsQuoted, closing, escaped_byte, none, pair, plain, quoted, unescaped}
pub use lib.Utf8.{encode, encodes, low_scalar, scalar, scalars}
