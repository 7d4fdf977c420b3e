use Rattle.kc_tree_model.proofs.Common.{ap, ◌∙◌, List, ℕ, Some, Vec, option_map, Global, file_at}
use Rattle.std.specs.Prelude.{Option}
use Rattle.std.specs.declared.rc.Rc.{Rc}
use Rattle.kc_tree_model.proofs.TextsLemmas.{find_file}
use Rattle.kc_tree_model.proofs.texts.Texts.get.Goals as goal

pub returns : goal.returns
returns c =
    ap (λ (b : List ℕ). Some b) c.as_slice.ensures.value
    ∙ ap (λ (v : Vec ℕ Global). Some v.items) c.deref.ensures
    ∙ ap (λ (o : Option (Rc (Vec ℕ Global) Global)). option_map (λ (v : Rc (Vec ℕ Global) Global). v.value.items) o) c.in_ok-bytes.ensures.value
    ∙ find_file c.args.path.now c.self.inside.files.entries
    ∙ ap (λ fs. file_at fs c.args.path.now) c.self.view_is

pub returns-in_err-bytes : goal.returns-in_err-bytes
returns-in_err-bytes c =
    rw c.from_residual.ensures
    (ap (λ (o : Option (Rc (Vec ℕ Global) Global)). option_map (λ (v : Rc (Vec ℕ Global) Global). v.value.items) o) c.in_err-bytes.ensures.value
    ∙ find_file c.args.path.now c.self.inside.files.entries
    ∙ ap (λ fs. file_at fs c.args.path.now) c.self.view_is)
