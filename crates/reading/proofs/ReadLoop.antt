-- A sealed text read block by block, as a loop that fills a buffer goes.
use mathlib.Core.Path.{◌≡◌}
use mathlib.Core.List.{List}
use Prim.Native.Nat.{ℕ, ◌/◌}
use lib.ListN.{length}
use Rattle.lists.specs.Tabulation.{chunks}
use Rattle.lists.specs.Blocks.{blocks}
use Rattle.lists.proofs.BlockLaws.{each_cut}
use Rattle.reading.specs.Shown.{read_block, read_text, read_at}

pub read_text_lem : (bk : List ℕ) (r : ℕ) (iv sealed : List ℕ) → read_text bk r iv sealed ≡ chunks (length sealed / 16) (read_at bk r iv sealed)
unfolding read_text blocks read_at
read_text_lem bk r iv sealed = each_cut (read_block bk r) iv sealed (length sealed / 16)
