-- The line of a cycle, written in three parts.
use Rattle.std.proofs.Common.{◌≡◌, ℕ, List, ◌∷◌, [], ◌++◌, Option, codes, subst, append_assoc}
use Rattle.kmin_report.specs.StandardError.{TakesWhole, TakesPart}
use Rattle.kmin_report.proofs.WriterLemmas.{whole_whole, whole_part, part_more}

-- the parts, joined
parts_joined : (path number units : List ℕ)
    → ((path ++ (58 ∷ (number ++ codes ": Cycle"))) ++ units) ++ (10 ∷ []) ≡ path ++ (58 ∷ (number ++ (codes ": " ++ ((codes "Cycle" ++ units) ++ codes "\n"))))
parts_joined path number units = simp append_assoc

module _ (before : Option (List ℕ)) (failed : ℕ) (path number units : List ℕ) (after : Option (List ℕ)) (failed_after : ℕ) where
  part_of_line : TakesPart before failed (((path ++ (58 ∷ (number ++ codes ": Cycle"))) ++ units) ++ (10 ∷ [])) after failed_after
      → TakesPart before failed (path ++ (58 ∷ (number ++ (codes ": " ++ ((codes "Cycle" ++ units) ++ codes "\n"))))) after failed_after
  part_of_line h = subst (λ text. TakesPart before failed text after failed_after) (parts_joined path number units) h

  pub cut_in_head : TakesPart before failed (path ++ (58 ∷ (number ++ codes ": Cycle"))) after failed_after
      → TakesPart before failed (path ++ (58 ∷ (number ++ (codes ": " ++ ((codes "Cycle" ++ units) ++ codes "\n"))))) after failed_after
  cut_in_head h = part_of_line (part_more before after failed failed_after _ (10 ∷ []) (part_more before after failed failed_after _ units h))

  pub cut_in_units : (middle : Option (List ℕ)) (failed_middle : ℕ)
      → TakesWhole before failed (path ++ (58 ∷ (number ++ codes ": Cycle"))) middle failed_middle → TakesPart middle failed_middle units after failed_after
      → TakesPart before failed (path ++ (58 ∷ (number ++ (codes ": " ++ ((codes "Cycle" ++ units) ++ codes "\n"))))) after failed_after
  cut_in_units middle failed_middle h k =
      part_of_line (part_more before after failed failed_after _ (10 ∷ []) (whole_part before middle after failed failed_middle failed_after _ units h k))

  pub cut_at_end : (middle last : Option (List ℕ)) (failed_middle failed_last : ℕ)
      → TakesWhole before failed (path ++ (58 ∷ (number ++ codes ": Cycle"))) middle failed_middle → TakesWhole middle failed_middle units last failed_last
      → TakesPart last failed_last (10 ∷ []) after failed_after
      → TakesPart before failed (path ++ (58 ∷ (number ++ (codes ": " ++ ((codes "Cycle" ++ units) ++ codes "\n"))))) after failed_after
  cut_at_end middle last failed_middle failed_last h k l =
      part_of_line (whole_part before last after failed failed_last failed_after _ (10 ∷ [])
      (whole_whole before middle last failed failed_middle failed_last _ units h k) l)
