use Rattle.std.proofs.Common.{◌≡◌, ◌+◌, ◌<◌, ◌∷◌, ◌++◌, inl, inr, refl, suc, length, take, drop, ap, ◌∙◌, sym, arith}
use Rattle.kc_value.specs.Lines.{pieces}
use Rattle.kmin_lines.proofs.PieceLemmas.{parted_at, none_in, none_before, pieces_parted, one_piece, rest_from, rest_from_end}
use Rattle.kmin_lines.proofs.pieces.first_piece.Goals as goal

pub returns-in-Some-clause-bytes : goal.returns-in-Some-clause-bytes
returns-in-Some-clause-bytes c =
    let text = c.args.text.now in
    let at = c.in-Some.at in
    let found = c.in-Some.ensures in
    let n : at + 1 ≡ suc at = omega arith in
    inl
    (parted_at c.args.ender text at found.0.high found.1
    ∙ ap (λ rest. take at text ++ c.args.ender ∷ rest) (ap (λ m. drop m text) (sym n) ∙ sym (rest_from (at + 1) text)))

pub returns-in-None-clause-bytes : goal.returns-in-None-clause-bytes
returns-in-None-clause-bytes c = inr (refl, rest_from_end c.args.text.now)

pub returns-in-Some-clause-alone : goal.returns-in-Some-clause-alone
returns-in-Some-clause-alone c =
    let found = c.in-Some.ensures in
    none_before c.args.ender c.args.text.now c.in-Some.at found.0.high (λ k h. found.0.before k (omega arith) h)

pub returns-in-None-clause-alone : goal.returns-in-None-clause-alone
returns-in-None-clause-alone c = none_in c.args.ender c.args.text.now (λ k h. c.in-None.ensures k (omega arith) h)

pub returns-in-Some-clause-piece : goal.returns-in-Some-clause-piece
returns-in-Some-clause-piece c =
    let text = c.args.text.now in
    let at = c.in-Some.at in
    let found = c.in-Some.ensures in
    let n : at + 1 ≡ suc at = omega arith in
    ap (pieces c.args.ender) (parted_at c.args.ender text at found.0.high found.1)
    ∙ pieces_parted c.args.ender (take at text) (drop (suc at) text)
    (none_before c.args.ender text at found.0.high (λ k h. found.0.before k (omega arith) h))
    ∙ ap (λ rest. take at text ∷ pieces c.args.ender rest) (ap (λ m. drop m text) (sym n) ∙ sym (rest_from (at + 1) text))

pub returns-in-None-clause-piece : goal.returns-in-None-clause-piece
returns-in-None-clause-piece c =
    let text = c.args.text.now in
    let some : 0 < length text = grind arith in
    one_piece c.args.ender text some (λ k h. c.in-None.ensures k (omega arith) h)
    ∙ ap (λ rest. text ∷ pieces c.args.ender rest) (sym (rest_from_end text))
