use Rattle.std.proofs.Common.{◌≡◌, ℕ, List, true, ap, sym, ◌∙◌}
use Rattle.std.specs.Prelude.{bytes_eq}
use Rattle.std.specs.List.{list_any}
use Rattle.std.specs.Borrow.{Bor}
use Rattle.kmin_cli.specs.between.WordValues.{is_min}
use Rattle.kmin_options.proofs.Lists.{any_map}
use Rattle.kmin_cli.proofs.output_words.minimises_in_place.Goals as goal

pub returns-then-is_min : goal.returns-then-is_min
returns-then-is_min c =
    let output = c.in-Some.output.now in
    let minimises : is_min c.in-Over.verb ≡ true = sym c.is_min.ensures ∙ c.if-is_min.true in
    rw (c.in-Some.is, c.in-Over.is, minimises)
    (c.is_among.ensures
    ∙ ap (list_any (λ (other : Bor (List ℕ)). bytes_eq other.now output)) c.deref.ensures.value
    ∙ sym (any_map (λ (path : List ℕ). bytes_eq path output) (λ (path : Bor (List ℕ)). path.now) c.in-Over.files.items))
