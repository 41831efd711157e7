-- `blocks::Sealed::open_blocks` meets its contract.
use Rattle.std.proofs.Common.{◌≡◌, ℕ, List, ◌+◌, ◌*◌, ◌++◌, length, take, drop, refl, ap, ◌∙◌, arith}
use Rattle.lists.specs.Tabulation.{chunks}
use Rattle.words.specs.Word.{bytes}
use Rattle.cipher.specs.KeySize.{rounds}
use Rattle.cipher.specs.Images.{imaged}
use Rattle.cipher.proofs.ImageLaws.{block_imaged}
use Rattle.archive.specs.Opened.{opened_of}
use Rattle.archive.specs.declared.blocks.Sealed.{Sealed}
use Rattle.archive.proofs.OpenLaws.{opened_four, block_opened, open_turn}
use Rattle.archive.proofs.blocks.Sealed.open_blocks.Goals as goal

-- one block more
turn : (s : Sealed) (out₀ : List ℕ) (k n : ℕ) (out y : List ℕ) → k + 1 ≡ n
    → out ≡ chunks k (opened_of s) ++ drop (16 * k) out₀
    → y ≡ opened_of s k
    → take (16 * k) out ++ y ++ drop (16 * k + 16) out ≡ chunks n (opened_of s) ++ drop (16 * n) out₀
turn s out₀ k n out y e eo ey =
    let f = imaged s.table.now in
    let g = opened_of s in
    let size : (k : ℕ) → length (g k) ≡ 16 = λ k. (block_opened s.keys.rows (rounds s.keys.size) f (λ b. block_imaged s.table.now b s.decodes) s.iv s.text.now k).size in
    open_turn g size out₀ k out y eo ey ∙ (λ i. chunks (e i) g ++ drop (16 * e i) out₀)

pub loop-j-init : goal.loop-j-init
unfolding chunks
loop-j-init c = (omega arith, (refl, refl))

pub loop-m-preserved : goal.loop-m-preserved
loop-m-preserved c =
    let s = c.args.self.now in
    let block =
    opened_four s.keys.rows s.keyed (rounds s.keys.size) (imaged s.table.now) (λ b. block_imaged s.table.now b s.decodes) s.iv s.text.now (4 * c.loop-j.j) _ _ _ _ _ _
    c.words_before-prior.ensures c.words_of-a.ensures c.words_of-b.ensures c.words_of-c.ensures c.words_of-d.ensures c.decipher_four-y.ensures c.loop-m.m (omega arith) _
    (c.bytes.ensures ∙ ap bytes c.xor.ensures) in (
      omega arith,
      (
        c.put_block.ensures ∙ turn s c.args.out.now (4 * c.loop-j.j + c.loop-m.m) _ c.loop-m.out _ (omega arith) c.loop-m.invariant.1.0 block,
        c.put_block.auto.d ∙ c.loop-m.invariant.1.1,
      ),
    )

pub loop-k-preserved : goal.loop-k-preserved
loop-k-preserved c = (
  omega arith,
  (
    c.put_block-in-loop-k.ensures ∙ turn c.args.self.now c.args.out.now c.loop-k.k _ c.loop-k.out _ refl c.loop-k.invariant.1.0 c.open_block.ensures,
    c.put_block-in-loop-k.auto.d ∙ c.loop-k.invariant.1.1,
  ),
)
