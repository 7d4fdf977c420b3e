use Rattle.kc_config_reasons.proofs.Common.{◌≡◌, ◌-◌, suc, ap, sym, ◌∙◌, None, drop, arith, assigning_place, place_kept}
use Rattle.kc_config_reasons.proofs.PlaceLaws.{place_is, found_at, none_at, none_behind}
use Rattle.kc_config_reasons.proofs.places.deciding_line.Goals as goal

pub loop-file-init : goal.loop-file-init
loop-file-init c = none_behind c.args.unit c.args.s c.args.files.now

pub loop-file-preserved : goal.loop-file-preserved
loop-file-preserved c =
    let next : suc (c.loop-file.file - 1) ≡ c.loop-file.file = omega arith in
    none_at c.args.unit c.args.s c.args.files.now (c.loop-file.file - 1) c.index-files-file.result (omega arith) c.index-files-file.is (sym c.in_default.ensures)
    (ap (λ n. place_kept c.args.unit c.args.s n (drop n c.args.files.now)) next ∙ c.loop-file.invariant)

pub returns-in-Some : goal.returns-in-Some
returns-in-Some c = λ tree meanings own all.
    let u = c.args.unit in
    let s = c.args.s in
    let files = c.args.files.now in
    let next : suc (c.loop-file.file - 1) ≡ c.loop-file.file = omega arith in
    let none = ap (λ n. place_kept u s n (drop n files)) next ∙ c.loop-file.invariant in
    sym (found_at u s files (c.loop-file.file - 1) c.index-files-file.result c.in-Some.line.now (omega arith) c.index-files-file.is (sym c.in-Some.ensures) none)
    ∙ ap (λ w. place_kept w s 0 files) own ∙ place_is tree s 0 meanings files all ∙ ap (λ w. assigning_place w s 0 meanings) (sym own)

pub returns : goal.returns
returns c = λ tree meanings own all.
    let s = c.args.s in
    let files = c.args.files.now in
    let none : place_kept c.args.unit s 0 files ≡ None =
    ap (λ n. place_kept c.args.unit s n (drop n files)) (let over = c.loop-file-test.false in let same : 0 ≡ c.loop-file.file = omega arith in same) ∙ c.loop-file.invariant in
    sym none ∙ ap (λ w. place_kept w s 0 files) own ∙ place_is tree s 0 meanings files all ∙ ap (λ w. assigning_place w s 0 meanings) (sym own)
