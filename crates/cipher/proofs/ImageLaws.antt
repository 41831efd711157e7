-- The table of images: how its rows make it, and that a block coded by it is the block coded by the set.
use Rattle.std.proofs.Common.{◌≡◌, ℕ, ◌+◌, ◌*◌, ◌/◌, ◌%◌, ◌<◌, List, get_or, sym, ap, ◌∙◌, ap₂, arith, lit<}
use Rattle.lists.specs.Tabulation.{tab, chunks}
use Rattle.lists.specs.Blocks.{Bytes, Block}
use Rattle.lists.proofs.TabulationLaws.{get_or_tab, tab_ext, tab_below}
use Rattle.lists.proofs.ChunkLaws.{tab_rows}
use Rattle.lists.proofs.BlockLaws.{block_tab}
use Rattle.cipher.specs.Coding.{LowSet, set_of, byte_coded, coded}
use Rattle.cipher.specs.Images.{images_of, image_at, imaged}
use Rattle.cipher.proofs.InverseLaws.{coded_each}

module _ (s : List ℕ) where
  -- the entries of a row
  pub image_is : (k h l : ℕ) → h < 16 → l < 16 → get_or s (32 * k + l) 0 + 16 * get_or s (32 * k + 16 + h) 0 ≡ byte_coded s k (16 * h + l)
  image_is k h l hh hl =
      let d : l ≡ (16 * h + l) % 16 = omega arith in
      let r : (16 * h + l) / 16 ≡ h = omega arith in
      let w : h % 16 ≡ h = omega arith in
      let q : h ≡ (16 * h + l) / 16 % 16 = sym (ap (λ (x : ℕ). x % 16) r ∙ w) in
      ap₂ (λ (a b : ℕ). get_or s (32 * k + a) 0 + 16 * get_or s (32 * k + 16 + b) 0) d q

  -- the rows make the table
  pub images_rows : chunks 256 (λ r. tab 16 (λ l. byte_coded s (r / 16) (16 * (r % 16) + l))) ≡ images_of s
  unfolding images_of
  images_rows =
      sym (tab_rows 256 16 (λ i. byte_coded s (i / 256) (i % 256)) (λ r l. byte_coded s (r / 16) (16 * (r % 16) + l)) (λ r l hr hl.
      let d : (r * 16 + l) / 256 ≡ r / 16 = omega arith in
      let m : (r * 16 + l) % 256 ≡ 16 * (r % 16) + l = omega arith in
      ap₂ (byte_coded s) d m))

  -- what is looked up in it
  pub image_at_lem : (k v : ℕ) → k < 16 → v < 256 → image_at (images_of s) k v ≡ byte_coded s k v
  unfolding images_of
  image_at_lem k v hk hv =
      let d : (256 * k + v) / 256 ≡ k = omega arith in
      let m : (256 * k + v) % 256 ≡ v = omega arith in
      get_or_tab 4096 (λ i. byte_coded s (i / 256) (i % 256)) (256 * k + v) (omega arith) ∙ ap₂ (byte_coded s) d m

  -- a block coded by the table
  pub imaged_coded : (b : List ℕ) → Bytes b → imaged (images_of s) b ≡ coded (set_of s) b
  unfolding imaged
  imaged_coded b h =
      tab_ext 16 (λ k. image_at (images_of s) k (get_or b k 0)) (λ k. byte_coded s k (get_or b k 0)) (λ k l. image_at_lem k (get_or b k 0) l (h k))
      ∙ sym (coded_each s b)

-- the table of a set of half bytes is one of bytes
pub bytes_images : (s : List ℕ) → LowSet s → Bytes (images_of s)
unfolding images_of
bytes_images s h =
    tab_below 256 4096 (λ i. byte_coded s (i / 256) (i % 256)) (lit< tt) (λ i l.
    omega (arith, h (32 * (i / 256) + i % 256 % 16) (omega arith), h (32 * (i / 256) + 16 + i % 256 / 16 % 16) (omega arith)))

-- what any table of bytes makes of a block is a block
pub block_imaged : (t b : List ℕ) → Bytes t → Block (imaged t b)
unfolding imaged
block_imaged t b h = block_tab (λ k. image_at t k (get_or b k 0)) (λ k l. h (256 * k + get_or b k 0))
