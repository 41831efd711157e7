-- Demand 3 whole: it holds for every schedule, key, chain and buffer with which a book is built, and a book is built with every key of a known
-- size, every valid chain and every buffer with room. (`PremisesMet`: the identity chain is one, and so is one of which no coding is the identity.)
use mathlib.Core.List.{List, ◌++◌}
use Prim.Native.Nat.{ℕ}
use lib.ListN.{drop}
use Rattle.lists.specs.Blocks.{Bytes}
use Rattle.cipher.specs.KeySize.{book_length}
use Rattle.cipher.specs.Schedules.{key_rows}
use Rattle.cipher.specs.Book.{whole_book}
use Rattle.claims.specs.Built.{Built, book_in}
use Rattle.claims.specs.Demand3.{Demand3, Demand3ForAll}
use Rattle.claims.proofs.BuiltLaws.{built_chain, any_built}
use Rattle.claims.proofs.PadCalls.{pad_calls}
use Rattle.claims.proofs.SessionTheorem.{session_built}
use Rattle.claims.proofs.LentTheorem.{lent_built}
use Rattle.claims.proofs.RoundsTheorem.{after_rounds_built}
use Rattle.claims.proofs.SealTheorem.{seal_built}
use Rattle.claims.proofs.TagTheorem.{calls_accepted, tag_built}

pub demand3 : (schedule : ℕ) (key ch out held : List ℕ) → Bytes key → Built schedule key ch out held → Demand3 schedule key ch (book_in key held)
demand3 schedule key ch out held hk b = record {
  after_rounds = after_rounds_built schedule key ch out held b;
  session = session_built schedule key ch out held b;
  lent = lent_built schedule key ch out held b;
  tag = λ m hm l. tag_built schedule key ch out held b m hm l;
  taken = λ m hm l. calls_accepted schedule key ch out held b m hm l;
  coded = λ m l. pad_calls key ch (built_chain schedule key ch out held b) m l;
  seal = λ m iv hm l li. seal_built schedule key ch out held b hk m iv hm l li;
}

pub demand3_for_all : Demand3ForAll
demand3_for_all schedule k z key ch out e hk v room =
    let held = whole_book z (key_rows k z key) ch ++ drop (book_length z) out in
    let b : Built schedule key ch out held = any_built schedule k z key ch out e v room in
    record { held = held; built = b; holds = demand3 schedule key ch out held hk b }
