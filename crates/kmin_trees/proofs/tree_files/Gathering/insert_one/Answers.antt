use Rattle.kmin_trees.proofs.Common.{◌≡◌, ℕ, List, None, refl, sym, no_value, file_at, MatchContentStart, path_below}
use Rattle.std.proofs.lemmas.Bool.{false≢true}
use Rattle.std.specs.Borrow.{Bor}
use Rattle.kmin_trees.proofs.TextGrowth.{inserted}
use Rattle.kmin_trees.proofs.Gatherings.{gathers_none}
use Rattle.kmin_trees.proofs.MissingFiles.{longer, has_text, lacks_text}
use Rattle.kmin_trees.proofs.tree_files.Gathering.insert_one.Goals as goal

pub returns-then-is_some : goal.returns-then-is_some
returns-then-is_some g c = record {
  gathered = gathers_none _ _ _ c.requires.below;
  inserted = λ e. absurd (false≢true e);
  same_texts = λ _. refl;
  missing = λ _ none. absurd (has_text (λ (b : Bor (List ℕ)). b.now) c.get.result c.is_some.result (file_at c.args.self.now.texts c.args.path.now)
      c.is_some.ensures c.if-is_some.true c.get.ensures none);
}

pub returns-in_err-bytes : goal.returns-in_err-bytes
returns-in_err-bytes g c = record {
  gathered = record { same = c.read_below.ensures.same; root = refl; first = refl; below = c.requires.below; rising = c.read_below.ensures.rising };
  inserted = no_value c.from_residual.result _ _ c.from_residual.ensures.1;
  same_texts = no_value c.from_residual.result _ _ c.from_residual.ensures.1;
  missing = no_value c.from_residual.result _ _ c.from_residual.ensures.1;
}

pub returns-in_default : goal.returns-in_default
returns-in_default g c = record {
  gathered = record { same = c.read_below.ensures.same; root = refl; first = refl; below = c.requires.below; rising = c.read_below.ensures.rising };
  inserted = λ e. absurd (false≢true e);
  same_texts = λ _. refl;
  missing = λ _ _. rw c.in_default.is at c.in_ok-bytes.ensures.missing;
}

pub returns-in_err-insert_whole : goal.returns-in_err-insert_whole
returns-in_err-insert_whole g c = record {
  gathered = record {
    same = c.read_below.ensures.same;
    root = refl;
    first = refl;
    below = rw c.in_err-insert_whole.ensures.err c.requires.below;
    rising = c.read_below.ensures.rising;
  };
  inserted = no_value c.from_residual-in_err-insert_whole.result _ _ c.from_residual-in_err-insert_whole.ensures.1;
  same_texts = no_value c.from_residual-in_err-insert_whole.result _ _ c.from_residual-in_err-insert_whole.ensures.1;
  missing = no_value c.from_residual-in_err-insert_whole.result _ _ c.from_residual-in_err-insert_whole.ensures.1;
}

pub returns : goal.returns
returns g c =
    let content_of = (g.F.Files.surroundings c.args.files.now).content in
    let root = c.args.self.now.root.now in
    let texts = c.args.self.now.texts in
    let starts : MatchContentStart (content_of (path_below root c.args.path.now)) c.in-Some.bytes.items =
    rw c.in-Some.is at c.in_ok-bytes.ensures.bytes in
    let absent : file_at texts c.args.path.now ≡ None = lacks_text (λ (b : Bor (List ℕ)). b.now) c.get.result c.is_some.result _
    c.is_some.ensures c.if-is_some.false c.get.ensures in record {
      gathered = record {
        same = c.read_below.ensures.same;
        root = refl;
        first = refl;
        below = rw c.in_ok-insert_whole.ensures.ok (inserted content_of root c.args.path.now c.in-Some.bytes.items texts c.requires.below starts);
        rising = c.read_below.ensures.rising;
      };
      inserted = λ _. longer texts c.insert_whole.new.self c.args.path.now c.in-Some.bytes.items absent c.in_ok-insert_whole.ensures.ok;
      same_texts = λ e. absurd (false≢true (sym e));
      missing = λ e none. absurd (false≢true (sym e));
    }
