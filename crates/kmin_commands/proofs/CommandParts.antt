-- Commands and arguments, of which a part is changed or to which one is added.
use Rattle.std.proofs.Common.{◌≡◌, ℕ, Bool, false, not, ◌&&◌, List, [], ◌∷◌, ◌++◌, ap, ap₂, refl, arith, ◌∙◌}
use Rattle.std.specs.Borrow.{Bor}
use Rattle.std.proofs.lemmas.Bool.{and_right, ne_eqb}
use Rattle.clap.specs.Words.{App, Rule, Shape, AddsArg, AddsConflicts, AddsRequiredUnless, AddsRequirements, AddsSubcommand, rule_of, with_subcommand}
use Rattle.clap.specs.Simple.{app_of_fields}
use Rattle.clap.specs.Walk.{is_empty, is_free_arg}
use Rattle.clap.specs.declared.builder.arg.Arg.{Arg}
use Rattle.clap.specs.declared.builder.arg.ArgPredicate.{ArgPredicate}
use Rattle.clap.specs.declared.builder.command.Command.{Command}
use Rattle.clap.specs.declared.builder.command.Command.TheOpen.{Command-F}
use Rattle.clap.specs.declared.builder.command.Command.TheViews.{out-Command as fields_of}
use Rattle.kmin_commands.specs.Declarations.{added, linked}
use Rattle.kmin_commands.specs.checker.Commands.{IsReadBy, IsDeclared, HasApp}

-- a command of a known shape has that shape with one rule more once an argument is added
pub with_argument : (old new : Command) (argument : Arg) (shape : Shape) (rule : Rule) → AddsArg old argument new → IsReadBy rule argument
    → IsDeclared shape old → IsDeclared (added shape rule) new
with_argument old new argument shape rule adds read declared = (
  adds.globals ∙ rw (read.0, declared.0) refl,
  ap (λ (app : App). app.top) (adds.shape read.0) ∙ ap₂ added declared.1 read.1,
)

-- a program of known commands has one command more once it is added
pub with_command : (old new sub : Command) (app : App) (shape : Shape) → AddsSubcommand old sub new → IsDeclared shape sub
    → HasApp app old → HasApp (with_subcommand app shape) new
with_command old new sub app shape adds declared has = (
  adds.globals ∙ rw (has.0, declared.0) refl,
  adds.shape declared.0 ∙ ap₂ with_subcommand has.1 declared.1,
)

-- a command of which no field is changed that a parser reads is the same to a parser
pub with_fields : (fields : Command-F Command) (new : Command) (app : App) → fields_of new ≡ fields → fields.has_globals ≡ false
    → app_of_fields fields ≡ app → HasApp app new
with_fields fields new app same local is = (ap (λ (f : Command-F Command). f.has_globals) same ∙ local, ap app_of_fields same ∙ is)

-- a list with a last element isn't empty
has_last : {X : Type 0} (xs : List X) (x : X) → is_empty (xs ++ x ∷ []) ≡ false
has_last [] x = refl
has_last (y ∷ ys) x = ne_eqb _ _ (λ e. omega arith)

-- a list with a last element passes no test that it is empty
not_both : {X : Type 0} (all xs : List X) (x : X) (b : Bool) → all ≡ xs ++ x ∷ [] → (is_empty all && b) ≡ false
not_both all xs x b is = ap (λ empty. empty && b) (ap is_empty is ∙ has_last xs x)

-- an argument that requires another one is read by the same rule, but that it is linked
pub with_requirement : (old new : Arg) (rule : Rule) (other : ArgPredicate × Bor (List ℕ)) → IsReadBy rule old
    → AddsRequirements old new (other ∷ []) → IsReadBy (linked rule) new
with_requirement old new rule other read adds =
    let free : is_free_arg (record old { needs = new.needs }) ≡ false =
    and_right _ _ (and_right _ _ (not_both new.needs.items old.needs.items other _ adds.1)) in (
      ap (λ (a : Arg). a.global) adds.0 ∙ read.0,
      ap rule_of adds.0 ∙ ap₂ (λ (r : Rule) b. record r { is_free = b }) read.1 free,
    )

-- the same of one that conflicts with another
pub with_conflict : (old new : Arg) (rule : Rule) (other : Bor (List ℕ)) → IsReadBy rule old → AddsConflicts old new (other ∷ [])
    → IsReadBy (linked rule) new
with_conflict old new rule other read adds =
    let free : is_free_arg (record old { conflicts = new.conflicts }) ≡ false =
    and_right _ _ (not_both new.conflicts.items old.conflicts.items other _ adds.1) in (
      ap (λ (a : Arg). a.global) adds.0 ∙ read.0,
      ap rule_of adds.0 ∙ ap₂ (λ (r : Rule) b. record r { is_free = b }) read.1 free,
    )

-- the same of one that is required unless another is there
pub required_without : (old new : Arg) (rule : Rule) (other : Bor (List ℕ)) → IsReadBy rule old → AddsRequiredUnless old new (other ∷ [])
    → IsReadBy (linked rule) new
required_without old new rule other read adds =
    let free : is_free_arg (record old { r_unless = new.r_unless }) ≡ false =
    and_right (not old.exclusive) _ (and_right (is_empty old.conflicts.items) _ (and_right (is_empty old.needs.items) _
    (and_right (is_empty old.r_ifs.items) _ (and_right (is_empty old.r_ifs_all.items) _
    (not_both new.r_unless.items old.r_unless.items other (is_empty old.r_unless_all.items) adds.1))))) in (
      ap (λ (a : Arg). a.global) adds.0 ∙ read.0,
      ap rule_of adds.0 ∙ ap₂ (λ (r : Rule) b. record r { is_free = b }) read.1 free,
    )
