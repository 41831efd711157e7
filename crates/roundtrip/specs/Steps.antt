-- The steps of the two round trips, in the inner functions' own words: both begin with a book; after a call comes its refusal or the next
-- call; the tag is made call by call.
use Rattle.std.specs.Prelude.{List, ℕ, zero, suc, ◌-◌, ◌/◌, length, take, Result, Ok, Err}
use Rattle.lists.specs.Blocks.{block_of, block_length}
use Rattle.lists.specs.Refusals.{first}
use Rattle.cipher.specs.Answers.{key_size}
use Rattle.cipher.specs.Refusal.{number_of}
use Rattle.cipher.specs.declared.refusal.Refusal.{Refusal}
use Rattle.cipher.specs.declared.size.KeySize.{KeySize}
use Rattle.cipher.specs.declared.size.KeySize.TheVariants.{Bytes16}
use Rattle.pad.specs.Answers.{sealing_answer, tag_answer}
use Rattle.driver.specs.Driver.{seal_answer, begin_answer, block_answer, last_answer}
use Rattle.driver.specs.declared.session.Session.{Session}
use Rattle.archive.specs.Archive.{open_answer, check_answer}
use Rattle.roundtrip.specs.Roundtrips.{key_book, over, build_call_tests}

-- the start of both: a book in the front of its buffer, and the size of the key; the size stands for nothing where there is none
abbrev pub start_told : Result KeySize Refusal → ℕ × KeySize
start_told (Ok z) = (0, z)
start_told (Err q) = (number_of q, Bytes16)

unfoldable pub start_answer : ℕ → List ℕ → List ℕ → List ℕ → (ℕ × KeySize) × List ℕ
start_answer schedule key ch bk = first (build_call_tests schedule key ch bk) (λ q. ((q, Bytes16), bk)) ((0, key_size key), over (key_book schedule key ch) bk)

-- after a call's number: its refusal, or what comes next
unfoldable pub next : {A : Type 0} → ℕ → (ℕ → A) → A → A
next zero refuse go = go
next (suc q) refuse go = refuse (suc q)

-- after the answer of a call that writes into a buffer: what comes next gets the bytes written, and leaves buffers of its own,
-- which otherwise are as they were
abbrev pub written : {B : Type 0} → (ℕ × ℕ) × List ℕ → B → (List ℕ → (ℕ × ℕ) × B) → (ℕ × ℕ) × (List ℕ × B)
written a left go =
    next a.0.0 (λ q. ((q, 0), (a.1, left))) ((go (take a.0.1 a.1)).0, (a.1, (go (take a.0.1 a.1)).1))

-- a coded text c sealed and opened; a message coded, sealed and opened
unfoldable pub sealed_opened : ℕ → List ℕ → List ℕ → List ℕ → List ℕ → List ℕ → List ℕ → List ℕ → (ℕ × ℕ) × (List ℕ × List ℕ)
sealed_opened schedule key s bk iv c se out = written (seal_answer bk iv c se) out (λ f. open_answer schedule key s iv f out)

unfoldable pub coded_opened : ℕ → List ℕ → List ℕ → List ℕ → List ℕ → List ℕ → List ℕ → List ℕ → List ℕ → List ℕ → (ℕ × ℕ) × (List ℕ × (List ℕ × List ℕ))
coded_opened schedule key u s bk iv m co se out = written (sealing_answer u m co) (se, out) (λ c. sealed_opened schedule key s bk iv c se out)

-- the session after the block calls with the first n blocks of a text, from a session s
unfoldable pub after_blocks : List ℕ → List ℕ → ℕ → Session → Session
after_blocks bk c zero s = s
after_blocks bk c (suc n) s = (block_answer bk (block_of c n) (after_blocks bk c n s)).1

-- what the last call answers, on the session after n block calls
abbrev pub last_after : List ℕ → List ℕ → ℕ → ℕ → Session → (ℕ × List ℕ) × Session
last_after bk c k n s = last_answer bk (block_of c n) k (after_blocks bk c n s)

-- the tag of a text and a kind, from a session just begun
unfoldable pub tag_by : List ℕ → List ℕ → ℕ → List ℕ
tag_by bk c k = (last_after bk c k (length c / block_length - 1) (begin_answer bk).1).0.1

-- a message coded, tagged and checked
unfoldable pub coded_checked : ℕ → List ℕ → List ℕ → List ℕ → List ℕ → List ℕ → List ℕ → (ℕ × ℕ) × List ℕ
coded_checked schedule key u s bk m co =
    let a = tag_answer u m co in
    next a.0.0 (λ q. ((q, 0), a.1)) (check_answer schedule key s m (tag_by bk (take a.0.1.0 a.1) a.0.1.1), a.1)
