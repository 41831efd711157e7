-- The way of a sealed file (document 01, "The model session of demand 3", its last paragraph but one): a message is coded for
-- sealing under U, sealed by the driver from an IV, and opened; what the three calls are to answer.
use Rattle.std.specs.Prelude.{◌≡◌, List, ◌++◌, map, ℕ, ◌≤◌, ◌<◌, length, drop}
use Rattle.lists.specs.Blocks.{blocks}
use Rattle.cipher.specs.Lea.{encipher}
use Rattle.cipher.specs.Cbc.{cbc_enciphered}
use Rattle.cipher.specs.Coding.{set_of, decoded}
use Rattle.cipher.specs.Answers.{schedule_of, key_size}
use Rattle.cipher.specs.Book.{book_body}
use Rattle.pad.specs.Padding.{padded_for_sealing, coded_text}
use Rattle.pad.specs.Answers.{sealing_answer}
use Rattle.driver.specs.Driver.{sealed, seal_answer}
use Rattle.archive.specs.Archive.{open_answer}

-- the message coded for sealing under the set u, and the sealed file
abbrev pub code_of : List ℕ → List ℕ → List ℕ
code_of u m = coded_text (set_of u) (padded_for_sealing m)

abbrev pub file_of : List ℕ → List ℕ → List ℕ → List ℕ → List ℕ
file_of u bk iv m = sealed (book_body bk) iv (code_of u m)

-- a call that writes x into the front of a buffer and tells its length; it gives refusal 9 exactly where the buffer is shorter
-- than `room`, and no other
pub record Writes (answer : List ℕ → (ℕ × ℕ) × List ℕ) (room : ℕ) (x : List ℕ) : Type 0 where
  pub short : (out : List ℕ) → length out < room → answer out ≡ ((9, 0), out)
  pub written : (out : List ℕ) → room ≤ length out → answer out ≡ ((0, length x), x ++ drop (length x) out)

-- none of the three calls gives another refusal than 9, and opening gives back the message and its length. The sealed file's blocks,
-- decoded by the set s, are the padded message's enciphered under the key in CBC (SP 800-38A) from the decoded IV
pub record SealedWay (schedule : ℕ) (key u s bk iv m : List ℕ) : Type 0 where
  pub coding : Writes (sealing_answer u m) (length (code_of u m)) (code_of u m)
  pub sealing : Writes (seal_answer bk iv (code_of u m)) (length (file_of u bk iv m)) (file_of u bk iv m)
  pub opening : Writes (open_answer schedule key s iv (file_of u bk iv m)) (length (file_of u bk iv m)) m
  pub enciphered : map (decoded (set_of s)) (blocks (file_of u bk iv m)) ≡ cbc_enciphered (encipher (schedule_of schedule) (key_size key) key) (decoded (set_of s) iv) (blocks (padded_for_sealing m))
