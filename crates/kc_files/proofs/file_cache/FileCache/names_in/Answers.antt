use Rattle.kc_files.proofs.Common.{◌∙◌, ap, sym, Some, option_map, items_of, names, folder_of}
use Rattle.kc_files.proofs.TableLemmas.{found_as, not_found_as}
use Rattle.kc_files.proofs.file_cache.FileCache.names_in.Goals as goal

pub returns-in-Some-Names-clause-value : goal.returns-in-Some-Names-clause-value
returns-in-Some-Names-clause-value c =
    found_as folder_of c.args.self.now.folders c.args.folder.now ∙ ap (option_map folder_of) (sym c.in-Some-Names.ensures)
    ∙ ap (λ r. Some (folder_of r)) c.in-Some-Names.field-0-is ∙ ap (λ vs. Some (names (items_of vs))) (sym c.as_slice.ensures.value)

pub returns-in-Some-TooMany-clause-stop : goal.returns-in-Some-TooMany-clause-stop
returns-in-Some-TooMany-clause-stop c =
    found_as folder_of c.args.self.now.folders c.args.folder.now ∙ ap (option_map folder_of) (sym c.in-Some-TooMany.ensures)
    ∙ ap (λ r. Some (folder_of r)) c.in-Some-TooMany.field-0-is

pub returns-in-Some-Unlisted-clause-stop : goal.returns-in-Some-Unlisted-clause-stop
returns-in-Some-Unlisted-clause-stop c =
    found_as folder_of c.args.self.now.folders c.args.folder.now ∙ ap (option_map folder_of) (sym c.in-Some-Unlisted.ensures)
    ∙ ap (λ r. Some (folder_of r)) c.in-Some-Unlisted.field-0-is

pub unreachable-requires : goal.unreachable-requires
unreachable-requires c = c.requires.listed (not_found_as folder_of c.args.self.now.folders c.args.folder.now (sym c.in-None.ensures))
