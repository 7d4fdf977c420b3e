use Rattle.kc_value.proofs.HexLaws.{hex_sound, hex_complete, loose_sound, loose_complete}
use Rattle.kc_value.proofs.NumberLaws.{int_sound, int_complete}
use Rattle.kc_value.proofs.number.number_texts_are_the_grammars.Goals as goal

pub returns-clause-int : goal.returns-clause-int
returns-clause-int c = λ text z. (int_sound text z, int_complete text z)

pub returns-clause-hex : goal.returns-clause-hex
returns-clause-hex c = λ text z. (hex_sound text z, hex_complete text z)

pub returns-clause-loose : goal.returns-clause-loose
returns-clause-loose c = λ text z. (loose_sound text z, loose_complete text z)
