-- Bytes that were read of a file, by what is known of it.
use Rattle.std.proofs.Common.{◌≡◌, ℕ, List, [], ◌++◌, Option, Some, None, refl, sym, ap, ◌∙◌, append-nil}
use Rattle.std.specs.Io.KnownBytes.{Consumes, IsAtEnd}
use Rattle.kc_value.specs.FileContents.{FileContent, unknown, absent, known, OpensAs, AreKnownBytes, content_of_reader}

-- the bytes that were read of an opened file are the first bytes of its content, as far as that is known
pub rest_of : (content : FileContent) (before after : Option (List ℕ)) (bytes : List ℕ) → OpensAs content (Some before) → Consumes before after bytes
    → (rest : List ℕ) × AreKnownBytes content (bytes ++ rest)
rest_of unknown before after bytes o h = ([], tt)
rest_of absent before after bytes o h = let f : Some before ≡ None = o in cc
rest_of (known all) before None bytes o h =
    let s : before ≡ Some all = cc in let k : Consumes (Some all) None bytes = rw s at h in absurd k
rest_of (known all) before (Some rest) bytes o h =
    let s : before ≡ Some all = cc in let k : Consumes (Some all) (Some rest) bytes = rw s at h in (rest, sym k)

pub whole_memory : (text : List ℕ) (after : Option (List ℕ)) (bytes : List ℕ) → Consumes (Some text) after bytes → IsAtEnd after → text ≡ bytes
whole_memory text None bytes h e = absurd h
whole_memory text (Some rest) bytes h e = h ∙ ap (λ z. bytes ++ z) e ∙ append-nil bytes

-- the bytes that were read of an opened file up to its end are its whole content, as far as that is known
pub whole_content : (content : FileContent) (before after : Option (List ℕ)) (bytes : List ℕ) → OpensAs content (Some before)
    → Consumes before after bytes → IsAtEnd after → AreKnownBytes content bytes
whole_content unknown before after bytes o h e = tt
whole_content absent before after bytes o h e = let f : Some before ≡ None = o in cc
whole_content (known all) before after bytes o h e =
    let s : before ≡ Some all = cc in
    sym (whole_memory all after bytes (rw s at h) e)

-- a reader opens as the file that it reads
pub reader_opens : (left : Option (List ℕ)) → OpensAs (content_of_reader left) (Some left)
reader_opens None = tt
reader_opens (Some bytes) = refl
