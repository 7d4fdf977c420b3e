use Rattle.kmin_texts.proofs.Common.{◌≡◌, ℕ, List, Some, ap, map, option_map, sym, ◌∙◌, Bor, IfOk-weaker, prefix_bytes, near_names, utf8_line, line_detail, nearest_detail}
use Rattle.kc_tree_model.specs.Trees.{Symbol}
use Rattle.kmin_texts.proofs.OwnDetails.{same_parts}
use Rattle.kmin_texts.proofs.NoticeSteps.{named_is, nearest_on, shown_on}
use Rattle.kmin_texts.proofs.notice_details.shown_notice.Goals as goal

pub returns-in-UnknownSymbol : goal.returns-in-UnknownSymbol
returns-in-UnknownSymbol c =
    let line : List ℕ = c.args.line.now in
    let text : List ℕ = c.in-Some.line.now in
    let utf8 : utf8_line (Some line) ≡ Some text = sym c.utf8_or_none.ensures ∙ ap (option_map (λ (text : Bor (List ℕ)). text.now)) c.in-Some.is in
    let names : List (List ℕ) = map (λ (symbol : Symbol). symbol.name) c.args.tree.now.tree.symbols in
    rw c.in-UnknownSymbol.is
    (IfOk-weaker c.with_nearest.result _ _
    (λ detail e. nearest_on (prefix_bytes c.args.prefix.now) line text utf8 names (line_detail detail)
    (e ∙ ap (λ o. nearest_detail o names) (named_is c.named_on.result _ c.named_on.ensures.some c.named_on.ensures.none)))
    c.with_nearest.ensures)

pub returns-in_default-kind : goal.returns-in_default-kind
returns-in_default-kind c =
    let line : List ℕ = c.args.line.now in
    let text : List ℕ = c.in-Some.line.now in
    let utf8 : utf8_line (Some line) ≡ Some text = sym c.utf8_or_none.ensures ∙ ap (option_map (λ (text : Bor (List ℕ)). text.now)) c.in-Some.is in
    shown_on c.args.kind (prefix_bytes c.args.prefix.now) (near_names c.args.tree.now.tree c.args.kind) line text utf8 (line_detail c.notice_detail.result)
    (same_parts _ _ _ c.notice_detail.ensures.text c.notice_detail.ensures.names)
