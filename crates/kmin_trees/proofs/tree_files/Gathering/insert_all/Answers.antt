use Rattle.kmin_trees.proofs.Common.{◌≡◌, ◌∙◌, None, ap, subst, take, arith, List, ℕ, get_or, string_bytes, take_all, file_at, Surroundings, path_below, MayBeMissing}
use Rattle.std.proofs.lemmas.List.Elements.{All-map}
use Rattle.kmin_trees.proofs.Gatherings.{still_below, gathers_on}
use Rattle.kmin_trees.proofs.MissingFiles.{insert_step}
use Rattle.kmin_trees.proofs.tree_files.Gathering.insert_all.Goals as goal

pub insert_one-requires : goal.insert_one-requires
insert_one-requires g c = record { below = still_below _ _ _ _ _ _ c.paths.invariant.gathered }

pub paths-preserved : goal.paths-preserved
paths-preserved g c =
    let i = c.paths.invariant in
    let put = c.insert_one.ensures in
    let root = c.args.self.now.root.now in
    let texts = c.paths.self.texts in
    let before = g.F.Files.failures c.paths.files in
    let after = g.F.Files.failures c.insert_one.new.files in
    let known = g.F.Files.surroundings c.args.files.now in
    let given = c.as_str.result.now in
    let path = string_bytes (get_or c.args.paths.now c.paths.path-index c.path-item.result) in
    let at : given ≡ path = c.as_str.ensures.value ∙ ap string_bytes c.path-item.is in
    let step = insert_step known.content root string_bytes c.args.paths.now c.paths.path-index c.path-item.result c.args.self.now.texts texts
    c.insert_one.new.self.texts (g.F.Files.failures c.args.files.now) before after c.in_ok-inserted.inserted (omega arith) i.gathered.rising
    put.gathered.rising i.grows i.texts i.tried c.in_ok-inserted.ensures.inserted c.in_ok-inserted.ensures.same_texts
    (λ no. subst (λ (p : List ℕ). file_at texts p ≡ None → MayBeMissing (known.content (path_below root p)) before after) at
    (subst (λ (r : List ℕ). file_at texts given ≡ None → MayBeMissing (known.content (path_below r given)) before after) i.gathered.root
    (subst (λ (s : Surroundings). file_at texts given ≡ None → MayBeMissing (s.content (path_below c.paths.self.root.now given)) before after) i.gathered.same
    (c.in_ok-inserted.ensures.missing no)))) in
    record {
      gathered = gathers_on _ _ _ _ _ _ _ _ _ i.gathered put.gathered;
      grows = step.0;
      texts = step.1;
      tried = step.2;
    }

pub returns-clause-inserted : goal.returns-clause-inserted
returns-clause-inserted g c =
    let i = c.paths.invariant in
    let known = g.F.Files.surroundings c.args.files.now in
    let all : take c.paths.path-index c.args.paths.now ≡ c.args.paths.now = take_all c.paths.path-index c.args.paths.now (omega arith) in
    record {
      grows = i.grows;
      same = i.texts;
      tried = λ le. All-map (λ (path : List ℕ). file_at c.args.self.now.texts path ≡ None
          → MayBeMissing (known.content (path_below c.args.self.now.root.now path)) (g.F.Files.failures c.args.files.now) (g.F.Files.failures c.paths.files))
          string_bytes c.args.paths.now (rw all at (i.tried le));
    }
