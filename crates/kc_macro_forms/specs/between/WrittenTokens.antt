-- Written tokens of the code, as `kc_macros_model` defines them.
use Rattle.std.specs.Prelude.{List, map}
use Rattle.kc_macros_model.specs.WrittenTokens.{WrittenToken}
use Rattle.kc_macro_forms.specs.declared.written_tokens.WrittenToken.{WrittenToken as CodeToken}

-- a written token of the code as one of `kc_macros_model`
abbrev pub token_of : CodeToken → WrittenToken
token_of t = record { sort = t.sort; bytes = t.bytes; meaning = t.meaning }

-- written tokens of the code as those of `kc_macros_model`
abbrev pub tokens_of : List CodeToken → List WrittenToken
tokens_of ts = map token_of ts
