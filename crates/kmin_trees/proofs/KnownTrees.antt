-- The tree of accepted texts is that of the known bytes.
use Rattle.std.proofs.Common.{◌≢◌}
use Rattle.kc_value.specs.FileContents.{unknown, absent, known}
use Rattle.kc_tree_model.specs.TreeFiles.{index_of_file}
use Rattle.kc_tree_model.specs.Limits.{FileSource}
use Rattle.kc_tree_model.specs.TreeReading.{Outcome}
use Rattle.kc_tree_model.specs.MoreFiles.{reading_from, LacksNoFile, AreAmong}
use Rattle.kc_tree_model.specs.Contents.{tree_of_groups}
use Rattle.kc_tree_model.specs.TreesOfFiles.{origin_of}
use Rattle.kc_tree_model.proofs.MoreFiles.{more_files}
use Rattle.kc_tree_model.proofs.ReadingLaws.ReadingCompleteness.{whole_read}
use Rattle.kc_tree_model.proofs.ReadingLaws.ReadingSoundness.{whole_related, one_whole}
use Rattle.kmin_trees.proofs.Common.{◌≡◌, ℕ, List, Option, Some, None, refl, sym, ap, ◌∙◌, file_at, FileContent, MatchContentStart, path_below}
use Rattle.kmin_trees.specs.KnownTrees.{known_bytes, BytesHaveOneTree, KnownFilesDetermineTheTree}

-- texts that match what is known are among the known bytes
matched : (content : FileContent) (text : List ℕ) → content ≢ unknown → MatchContentStart content text → known_bytes content ≡ Some text
matched unknown text n m = absurd (n refl)
matched absent text n m = absurd m
matched (known bytes) text n m = ap Some (sym m)

no_fault_lacks_no_file : (o : Outcome) → o.fault ≡ None → LacksNoFile o
no_fault_lacks_no_file o e = λ fault h. (let z : Some fault ≡ None = sym h ∙ e in cc)

pub known_tree : KnownFilesDetermineTheTree
known_tree content_of root first texts tree all_known below accepted =
    let bytes : List ℕ → Option (List ℕ) = λ path. known_bytes (content_of (path_below root path)) in
    let source : FileSource = record { language = texts.language; bytes = bytes; number = index_of_file texts; root = first } in
    let among : AreAmong (file_at texts) bytes = λ path text e. matched (content_of (path_below root path)) text (all_known path) (below.content path text e) in
    let read = accepted.read in
    let own = whole_read (origin_of texts first) read.0 read.1 in
    let same = more_files texts.language (file_at texts) bytes (index_of_file texts) first among
    (no_fault_lacks_no_file (reading_from (origin_of texts first)) (ap (λ (o : Outcome). o.fault) own)) in
    (read.0, (whole_related source read.0).0 (same ∙ own), read.2, read.3)

pub one_tree : BytesHaveOneTree
one_tree language bytes number first tree other a b =
    let same = one_whole (record { language = language; bytes = bytes; number = number; root = first }) a.0 b.0 a.1 b.1 in
    a.3 ∙ ap (tree_of_groups language) same ∙ sym b.3
