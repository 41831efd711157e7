-- The masks of a round from bytes (document 02, 2026-03 and 2026-06), as they come out by hand.
use Rattle.std.specs.Prelude.{◌≡◌, [], ◌∷◌, ◌++◌, replicate}
use Rattle.maker.specs.MadeChain.{masks_from}

pub record MarkedMasks : Type 0 where
  -- the lowest bit of a byte, whatever the highest is
  pub low : masks_from (replicate 24 0x01) ≡ replicate 24 1
  pub both : masks_from (replicate 24 0x81) ≡ replicate 24 1
  pub high : masks_from (replicate 24 0x80) ≡ replicate 24 0
  -- each from its own byte, those at j = 0 too
  pub each : masks_from (0x01 ∷ replicate 7 0x00 ++ 0x00 ∷ replicate 7 0x01 ++ 0xff ∷ replicate 6 0xfe ++ 0x03 ∷ [])
      ≡ 1 ∷ replicate 7 0 ++ 0 ∷ replicate 7 1 ++ 1 ∷ replicate 6 0 ++ 1 ∷ []
