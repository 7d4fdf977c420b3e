-- Attributes that a list has.
use Rattle.kmin_faults.proofs.Common.{◌≡◌, ℕ, ◌≤◌, ◌&&◌, List, length, ap, ◌∙◌, nat_le, slice_range, list_any, gives_type, has_type}
use Rattle.std.proofs.lemmas.Bool.{le-leb}
use Rattle.kc_parser.specs.declared.listing.Line.{Line}

pub has_type_within : (lines : List Line) (begin end : ℕ) → begin ≤ end → end ≤ length lines
    → has_type lines begin end ≡ list_any (λ (line : Line). gives_type line.attribute) (slice_range lines begin end)
has_type_within lines begin end h k =
    ap (λ b. b && nat_le end (length lines) && list_any (λ (line : Line). gives_type line.attribute) (slice_range lines begin end)) (le-leb begin end h)
    ∙ ap (λ b. b && list_any (λ (line : Line). gives_type line.attribute) (slice_range lines begin end)) (le-leb end (length lines) k)
