-- Quotes are single bytes of a text.
use Rattle.kc_tokens.proofs.Common.{◌≡◌, ℕ, ◌<◌, true, arith, nat_tests, is_quote}

pub quote_ascii : (c : ℕ) → is_quote c ≡ true → c < 128
quote_ascii c h = grind (arith, nat_tests)
