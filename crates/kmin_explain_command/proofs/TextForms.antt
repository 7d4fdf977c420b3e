-- The text of each form is what the question asks for in that form.
use Rattle.std.proofs.Common.{Vec}
use Rattle.kmin_explain_command.proofs.Common.{◌≡◌, ℕ, Bool, false, List, sym, subst, IfOk, Result, Group, LineMeaning, tree_in, config_of, sources_model, explained_text, missed_text}
use Rattle.std.specs.declared.alloc.AllocError.{AllocError}
use Rattle.std.specs.declared.alloc.Global.{Global}
use Rattle.std.specs.Prelude.{flat_map}
use Rattle.kc_dotconfig_model.specs.MissedAssignments.{missed as missed_symbols}
use Rattle.kc_rules_model.specs.Reports.{unmet as unmet_symbols}
use Rattle.kmin_explain.specs.Explanations.{SourcesModel, explained_in}
use Rattle.kmin_explain.specs.between.Sources.{AreSourcesOf}
use Rattle.kmin_explain.specs.declared.sources.Sources.{Sources}
use Rattle.kmin_missed.specs.MissedCauses.{causes_text, missed_causes}
use Rattle.kmin_missed.specs.MissedLines.{missed_lines}
use Rattle.kmin_missed.specs.UnmetLines.{unmet_of, unmet_row_at}
use Rattle.kmin_explain_records.specs.ListedMissed.{listed_missed}
use Rattle.kmin_explain_records.specs.SymbolRecords.{records_in}
use Rattle.kmin_options.specs.declared.job.MissedForm.{MissedForm}
use Rattle.kmin_options.specs.declared.job.MissedForm.TheVariants.{Lines, Causes}
use Rattle.kmin_records.specs.declared.output_form.OutputForm.{OutputForm}
use Rattle.kmin_records.specs.declared.output_form.OutputForm.TheVariants.{Plain, Json}
use Rattle.kmin_explain_command.specs.Explains.{unmet_text}

module _ (by : Sources) (r : Result (Vec ℕ Global) AllocError) where
  -- a call that succeeds gives this text of what was read
  abbrev pub Gives : (SourcesModel → List ℕ) → Type 0
  Gives text = (read : List Group) (meanings : List (List LineMeaning)) → AreSourcesOf by read meanings
      → IfOk r (λ found. found.items ≡ text (sources_model by read meanings))

  module _ (form : OutputForm) (all : Bool) (symbols : List ℕ) where
    pub plain_explained : form ≡ Plain → Gives (λ g. explained_in g all symbols) → Gives (λ g. explained_text form g all symbols)
    plain_explained e h = subst (λ (f : OutputForm). Gives (λ g. explained_text f g all symbols)) (sym e) h

    pub explained_as_json : form ≡ Json → Gives (λ g. records_in g all symbols) → Gives (λ g. explained_text form g all symbols)
    explained_as_json e h = subst (λ (f : OutputForm). Gives (λ g. explained_text f g all symbols)) (sym e) h

  module _ (form : OutputForm) (long_form : MissedForm) where
    pub plain_missed : form ≡ Plain → Gives (missed_text Plain long_form) → Gives (missed_text form long_form)
    plain_missed e h = subst (λ (f : OutputForm). Gives (missed_text f long_form)) (sym e) h

    pub missed_as_json : form ≡ Json → Gives (λ g. records_in g false (listed_missed g)) → Gives (missed_text form long_form)
    missed_as_json e h = subst (λ (f : OutputForm). Gives (missed_text f long_form)) (sym e) h

  module _ (form : MissedForm) where
    pub missed_by_line : form ≡ Lines → Gives missed_lines → Gives (missed_text Plain form)
    missed_by_line e h = subst (λ (f : MissedForm). Gives (missed_text Plain f)) (sym e) h

    pub missed_with_causes : form ≡ Causes → Gives missed_causes → Gives (missed_text Plain form)
    missed_with_causes e h = subst (λ (f : MissedForm). Gives (missed_text Plain f)) (sym e) h

  module _ (form : OutputForm) where
    pub plain_unmet : form ≡ Plain → Gives (λ g. flat_map (unmet_row_at g) (unmet_of g)) → Gives (unmet_text form)
    plain_unmet e h = subst (λ (f : OutputForm). Gives (unmet_text f)) (sym e) h

    pub unmet_as_json : form ≡ Json → Gives (λ g. records_in g false (unmet_of g)) → Gives (unmet_text form)
    unmet_as_json e h = subst (λ (f : OutputForm). Gives (unmet_text f)) (sym e) h

  -- symbols that are all that are missed, or unmet, can stand for these
  module _ (symbols : List ℕ) where
    pub causes_of_missed : symbols ≡ missed_symbols (tree_in (config_of by)) (config_of by).users (config_of by).values
        → Gives (λ g. causes_text g symbols) → Gives missed_causes
    causes_of_missed is h = subst (λ (xs : List ℕ). Gives (λ g. causes_text g xs)) is h

    pub rows_of_unmet : symbols ≡ unmet_symbols (tree_in (config_of by)) (config_of by).values
        → Gives (λ g. flat_map (unmet_row_at g) symbols) → Gives (λ g. flat_map (unmet_row_at g) (unmet_of g))
    rows_of_unmet is h = subst (λ (xs : List ℕ). Gives (λ g. flat_map (unmet_row_at g) xs)) is h

    pub records_of_unmet : symbols ≡ unmet_symbols (tree_in (config_of by)) (config_of by).values
        → Gives (λ g. records_in g false symbols) → Gives (λ g. records_in g false (unmet_of g))
    records_of_unmet is h = subst (λ (xs : List ℕ). Gives (λ g. records_in g false xs)) is h
