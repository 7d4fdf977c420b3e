use Rattle.kmin_inputs.proofs.Common.{◌<◌, ◌∷◌, ◌∙◌, [], ℕ, List, map, refl, ap, subst, Bor, inputs_named, lines_one}
use Rattle.kmin_cli.specs.Inputs.{named_twice}
use Rattle.kmin_inputs.specs.WordFiles.{twice}
use Rattle.kmin_report.specs.Reports.{refused_line}
use Rattle.kmin_inputs.proofs.ListReads.{words_stopped}
use Rattle.kmin_inputs.proofs.word_files.read_word_files.Goals as goal

pub returns-then-inputs-gt1-clause-stopped : goal.returns-then-inputs-gt1-clause-stopped
returns-then-inputs-gt1-clause-stopped g c =
    let same = c.inputs_named-inputs.ensures ∙ ap (λ (paths : List (Bor (List ℕ))). inputs_named (map (λ (path : Bor (List ℕ)). path.now) paths)) c.deref.ensures.value
    ∙ ap inputs_named c.in-Ok.ensures in
    (refused_line named_twice ∷ [], twice (subst (λ count. 1 < count) same c.if-inputs-gt1.true) refl refl, lines_one _ _ _ _ _ c.write_report.ensures)

pub returns-clause-stopped : goal.returns-clause-stopped
returns-clause-stopped g c =
    words_stopped (g.F.Files.surroundings c.args.files.now).content (g.I.Source.left c.args.input.now) _ _ _ _ _ _ _ _ _ _
    (ap (map (λ (path : Bor (List ℕ)). path.now)) c.deref-2.ensures.value ∙ c.in-Ok.ensures) c.exit_status-in-Err.ensures.status c.in-Err.ensures.stopped
    c.exit_status-in-Err.ensures.reported
