use Rattle.std.proofs.Common.{◌≡◌, ◌<◌, ◌-◌, ◌/◌, ◌%◌, ◌∷◌, [], string_bytes, arith, append_assoc}
use Rattle.std.proofs.lemmas.Grind.{common_steps}
use Rattle.kmin_disk.specs.NewFiles.{hex_digits, hex_digit}
use Rattle.kmin_disk.proofs.Digits.{hex_digits-zero, hex_digits-suc}
use Rattle.kmin_disk.proofs.new_path.+push_hex.Goals as goal

pub returns-then-count-eq0 : goal.returns-then-count-eq0
returns-then-count-eq0 t c =
    let is : c.args.count ≡ 0 = c.if-count-eq0.true in
    rw is (hex_digits-zero (string_bytes c.args.text.now) c.args.number)

pub returns : goal.returns
returns t c =
    let some : 0 < c.args.count = omega arith in
    let before = c.in_ok-push_hex.ensures in
    let digits = hex_digits-suc c.args.count c.args.number some in
    let assoc = append_assoc (string_bytes c.args.text.now) (hex_digits (c.args.count - 1) (c.args.number / 16)) (hex_digit (c.args.number % 16) ∷ []) in
    grind (arith, common_steps, before, digits, assoc, c.hex_digit.ensures.value, c.push.ensures.bytes, c.push.ensures.ascii)
