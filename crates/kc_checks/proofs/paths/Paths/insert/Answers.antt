use Rattle.kc_checks.proofs.Common.{ℕ, ap, ◌∙◌, List, map, string_bytes, with_path}
use Rattle.std.specs.Prelude.{String}
use Rattle.std.specs.declared.alloc.Global.{Global}
use Rattle.kc_checks.proofs.MissingPaths.{paths_pushed}
use Rattle.kc_checks.proofs.paths.Paths.insert.Goals as goal

pub returns : goal.returns
returns c =
    let v = c.in_ok-from_str.field-0 in
    ap (λ (ks : List (String Global)). map string_bytes ks) c.in_ok-insert.ensures.keys
    ∙ paths_pushed string_bytes v c.args.self.now.paths.keys
    ∙ ap (λ (x : List ℕ). with_path x (map string_bytes c.args.self.now.paths.keys)) c.in_ok-from_str.ensures.ok
