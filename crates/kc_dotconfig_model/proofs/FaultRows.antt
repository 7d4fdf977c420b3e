-- The first fault of small files, and of the same files where a read failed after them.
use Rattle.kc_dotconfig_model.proofs.Common.{◌≡◌, inl, inr, ℕ, ◌≤◌, true, List, [], ◌∷◌, ◌++◌, Some, None, length, refl, arith, codes, Y, tree_a, Malformed, Read, has_no_byte, Escaped, FileFormat, LineMeaning, assigns, complete, cut_short, IsFirstFault, IsSound, IsCutFile}
use Rattle.kc_rules_model.specs.declared.values.UserValue.TheVariants.{Tri as TriUser}
use Rattle.kc_dotconfig_model.specs.between.LineMeanings.{line_meaning}
use Rattle.kc_dotconfig_model.proofs.LineLaws.{line_read}
use Rattle.kc_rules_model.proofs.FittingValues.{low_utf8}
use Rattle.kc_dotconfig_model.proofs.FirstFaults.{failed_reads}
use Rattle.kc_dotconfig_model.proofs.FaultsAtCuts.{clean, malformed, held}

abbrev plain : FileFormat
plain = record { prefix = codes "CONFIG_"; strings = Escaped }

-- a line that is whole
abbrev front : List ℕ
front = codes "CONFIG_A=y\n"

abbrev first : List LineMeaning
first = assigns 0 (TriUser Y) ∷ []

first_read : line_meaning plain tree_a (codes "CONFIG_A=y") ≡ Some (assigns 0 (TriUser Y))
unfolding line_meaning
first_read = refl

first_sound : IsSound plain tree_a (codes "CONFIG_A=y") (assigns 0 (TriUser Y))
first_sound = record {
  text = low_utf8 (codes "CONFIG_A=y") refl;
  short = omega arith;
  has_meaning = (line_read plain tree_a (codes "CONFIG_A=y") (assigns 0 (TriUser Y)) refl).0 first_read;
}

known_front : IsCutFile plain tree_a front [] first
known_front = record {
  front = front;
  whole = refl;
  ended = inr (codes "CONFIG_A=y", refl);
  one_line = refl;
  sound = (first_sound, tt);
  few = omega arith;
  room = λ some. absurd (omega arith);
  small = omega arith;
  short = omega arith;
}

-- after it a line that isn't whole
known_more : (line : List ℕ) → length line ≤ 8 → has_no_byte 10 line ≡ true → IsCutFile plain tree_a (front ++ line) ([] ++ line) first
known_more line few one = held plain tree_a front [] first known_front line one (omega arith) (omega arith) (omega arith)

none_read : line_meaning plain tree_a (codes "CON") ≡ None
unfolding line_meaning
none_read = refl

-- at the file's end it is malformed, and where a read failed it counts for nothing
malformed_line : IsFirstFault plain tree_a complete (codes "CONFIG_A=y\nCON") Malformed 2
malformed_line =
    malformed plain tree_a (front ++ codes "CON") (codes "CON") first (known_more (codes "CON") (omega arith) refl) [] (inl (refl, omega arith))
    (low_utf8 (codes "CON") refl)
    (λ meaning has_meaning. let some = (line_read plain tree_a (codes "CON") meaning refl).1 has_meaning in let none = none_read in cc (some, none))

cut_line : IsFirstFault plain tree_a cut_short (codes "CONFIG_A=y\nCON") Read 2
cut_line =
    (failed_reads plain tree_a (codes "CONFIG_A=y\nCON") 2).1 (
      (λ kind byte number comes. clean plain tree_a (front ++ codes "CON") (codes "CON") first (known_more (codes "CON") (omega arith) refl) [] kind byte number
          comes),
      refl,
    )

-- so it is of bytes that aren't UTF-8
cut_odd_line : IsFirstFault plain tree_a cut_short (front ++ 255 ∷ []) Read 2
cut_odd_line =
    (failed_reads plain tree_a (front ++ 255 ∷ []) 2).1 (
      (λ kind byte number comes. clean plain tree_a (front ++ 255 ∷ []) (255 ∷ []) first (known_more (255 ∷ []) (omega arith) refl) [] kind byte number comes),
      refl,
    )
