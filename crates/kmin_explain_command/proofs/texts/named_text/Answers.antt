use Rattle.std.proofs.Common.{refl}
use Rattle.kmin_explain_command.proofs.TextEnds.{text_by, deep_symbols, plain_symbols}
use Rattle.kmin_explain_command.proofs.texts.named_text.Goals as goal

pub explained_text-requires : goal.explained_text-requires
explained_text-requires c = record { read = c.requires.read; there = rw c.deref.ensures.value c.in_ok-deep.ensures.there }

pub returns-then-flags : goal.returns-then-flags
returns-then-flags c =
    text_by c.args.form c.args.flags c.args.by.now c.args.symbols.now _ c.explained_text.result
    (deep_symbols c.args.form c.args.flags c.args.by.now c.args.symbols.now _ c.if-flags.true (rw c.deref.ensures.value c.in_ok-deep.ensures.deep))
    c.explained_text.ensures

pub returns : goal.returns
returns c =
    text_by c.args.form c.args.flags c.args.by.now c.args.symbols.now c.args.symbols.now c.explained_text-2.result
    (plain_symbols c.args.form c.args.flags c.args.by.now c.args.symbols.now c.args.symbols.now c.if-flags.false refl) c.explained_text-2.ensures
