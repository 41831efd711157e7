-- What the benchmark's call answers: the CBC-MAC of the whole blocks of a text, under a key by the schedule s.
use Rattle.std.specs.Prelude.{List, ℕ}
use Rattle.lists.specs.Blocks.{zeros, blocks}
use Rattle.lists.specs.Refusals.{first}
use Rattle.cipher.specs.Lea.{encipher}
use Rattle.cipher.specs.Cmac.{cbc_mac}
use Rattle.cipher.specs.Answers.{key_tests, schedule_of, key_size}

abbrev pub cbc_mac_answer : ℕ → List ℕ → List ℕ → ℕ × List ℕ
cbc_mac_answer s key text = first (key_tests s key) (λ n. (n, zeros)) (0, cbc_mac (encipher (schedule_of s) (key_size key) key) zeros (blocks text))
