use Rattle.kc_symbol_lines.proofs.Common.{cond, map, take, refl, ap, sym, ◌∙◌, subst, arith, is_some, is_linux_6_12, SymbolLines, position_view, HasBlocks, AreDefinitionLines}
use Rattle.kc_tree.specs.between.GroupedItems.{items_at}
use Rattle.kc_tree.specs.between.Views.{symbol_view}
use Rattle.kc_symbol_lines.proofs.IndexLaws.{many_symbols, symbol_name, symbol_choice, numbers_below, own_prompts_held, own_direct_held, kept_held, lines_are}
use Rattle.kc_symbol_lines.proofs.index.LineIndex.lines_of.Goals as goal

pub get-numbers-requires : goal.get-numbers-requires
get-numbers-requires c =
    let r = c.requires.read in
    let index = c.requires.index r.read r.tree_is r.has in
    let n = many_symbols c.args.tree.now r.read r.tree_is in
    record { there = omega (arith, index.symbols, n, c.requires.there, c.number-at.ensures) }

pub get-requires : goal.get-requires
get-requires c =
    let r = c.requires.read in
    let index = c.requires.index r.read r.tree_is r.has in
    let n = many_symbols c.args.tree.now r.read r.tree_is in
    record { there = omega (arith, index.selected, n, c.requires.there, c.number-at.ensures) }

pub get-requires-2 : goal.get-requires-2
get-requires-2 c =
    let r = c.requires.read in
    let index = c.requires.index r.read r.tree_is r.has in
    let n = many_symbols c.args.tree.now r.read r.tree_is in
    record { there = omega (arith, index.implied, n, c.requires.there, c.number-at.ensures) }

pub definition_lines-requires-clause-there : goal.definition_lines-requires-clause-there
definition_lines-requires-clause-there c =
    let r = c.requires.read in
    let t = c.args.tree.now in
    let d = c.args.self.now.definitions in
    let index = c.requires.index r.read r.tree_is r.has in
    let name = symbol_name t r.read c.args.s r.tree_is c.requires.there in
    let given = c.get-numbers.ensures.value ∙ ap (items_at d.starts.items d.items.items) c.number-at.ensures ∙ index.definitions c.args.s name.0 name.1 in
    numbers_below t.exprs t.tree.language c.args.lines.now r.read r.has name.0 c.get-numbers.result.now given

pub returns : goal.returns
returns c =
    let t = c.args.tree.now in
    let lines = c.args.lines.now in
    let self = c.args.self.now in
    let numbers = c.get-numbers.result.now in
    let found = c.in_ok-found.found in
    let chosen = c.is_some.ensures in
    let r = c.requires.read in
    let own = c.requires.index r.read r.tree_is r.has in
    let named = symbol_name t r.read c.args.s r.tree_is c.requires.there in
    let here = c.get-numbers.ensures.value ∙ ap (items_at self.definitions.starts.items self.definitions.items.items) c.number-at.ensures ∙ own.definitions c.args.s named.0 named.1 in
    let held = subst (λ l. AreDefinitionLines (is_linux_6_12 l) lines r.read numbers found) c.language.ensures
    (c.in_ok-found.ensures.ok t.exprs r.read r.has (subst (λ bs. HasBlocks bs r.read) (sym c.deref.ensures.value) own.blocks)) in
    record {
      ok = λ read name tree_is has at.
          let index = c.requires.index read tree_is has in
          let given = c.get-numbers.ensures.value ∙ ap (items_at self.definitions.starts.items self.definitions.items.items) c.number-at.ensures ∙ index.definitions c.args.s name at in
          let around = subst (λ bs. HasBlocks bs read) (sym c.deref.ensures.value) index.blocks in
          let are = subst (λ l. AreDefinitionLines (is_linux_6_12 l) lines read numbers found) c.language.ensures (c.in_ok-found.ensures.ok t.exprs read has around) in
          let choice = symbol_choice t read c.args.s name (symbol_view t.exprs c.symbol.result) tree_is at c.symbol.ensures.symbol in
          let result : SymbolLines = record {
            prompts = found.prompts;
            direct = c.keep_own.new.parts;
            defaults = found.defaults;
            ranges = found.ranges;
            selectors = c.in_ok-from_slice.field-0;
            impliers = c.in_ok-from_slice-2.field-0;
          } in
          lines_are t.exprs t.tree.language lines read has name found numbers result are given refl
          (c.keep_own.ensures ∙ ap (λ b. cond b (take 1 found.direct.items) found.direct.items) (chosen ∙ ap is_some choice)) refl refl
          (ap (map position_view) (c.in_ok-from_slice.ensures.items ∙ c.get.ensures.value ∙ ap (items_at self.selectors.starts.items self.selectors.items.items) c.number-at.ensures)
          ∙ index.selectors c.args.s name at)
          (ap (map position_view) (c.in_ok-from_slice-2.ensures.items ∙ c.get-2.ensures.value ∙ ap (items_at self.impliers.starts.items self.impliers.items.items) c.number-at.ensures)
          ∙ index.impliers c.args.s name at);
      prompts = own_prompts_held t.exprs t.tree.language lines r.read r.has named.0 numbers here found held;
      direct = kept_held t.exprs t.tree.language lines r.read r.has _ found.direct.items c.keep_own.new.parts.items c.keep_own.ensures
          (own_direct_held t.exprs t.tree.language lines r.read r.has named.0 numbers here found held);
    }
