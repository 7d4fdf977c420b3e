-- Laws of the records of explained symbols.
use Rattle.std.specs.Prelude.{ℕ}
use Rattle.kc_tree_model.specs.Trees.{Symbol}
use Rattle.kc_reasons_model.specs.PlainReasons.{PlainReasons}
use Rattle.kc_reasons_model.specs.SymbolLines.{SymbolLines}
use Rattle.kmin_explain.specs.Explanations.{SourcesModel, reason_places}
use Rattle.kmin_records.specs.JsonValues.{members_of}
use Rattle.kmin_messages.specs.SmallNumbers.{MembersAreSmall}
use Rattle.kmin_records.specs.Records.{IsRecord}
use Rattle.kmin_explain_records.specs.SymbolRecords.{record_members, explained_as_json_by}

-- law: the record of a symbol is one object in one line, which reads back as its members, where the numbers of lines in it are small, as
-- those of files that are read are
abbrev pub RecordsAreReadBack : Type 0
RecordsAreReadBack = (g : SourcesModel) (s : ℕ) (symbol : Symbol) (r : PlainReasons) (lines : SymbolLines)
    → MembersAreSmall (members_of (record_members g s symbol r lines (reason_places g s symbol lines r.case)))
    → IsRecord (members_of (record_members g s symbol r lines (reason_places g s symbol lines r.case))) (explained_as_json_by g s symbol r lines)
