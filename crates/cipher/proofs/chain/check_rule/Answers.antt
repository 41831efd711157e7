-- `chain::check_rule` meets its contract.
use Rattle.std.proofs.Common.{◌≡◌, ℕ, ◌+◌, ◌*◌, ◌≤◌, Bool, true, false, List, length, sym, ap, ◌∙◌, arith}
use Rattle.cipher.specs.KeySize.{rounds, chain_length}
use Rattle.cipher.specs.Chain.{coding_rule_holds, words_kept, mask_rule_holds}
use Rattle.cipher.specs.declared.size.KeySize.{KeySize}
use Rattle.cipher.proofs.KeySizeLaws.{rounds_le}
use Rattle.cipher.proofs.CheckLaws.{chain_length_wrong, chain_codings_wrong, chain_words_wrong, chain_masks_wrong, chain_right}
use Rattle.cipher.proofs.chain.check_rule.Goals as goal

-- a chain of the right length has all the bytes that its rounds need
long : (z : KeySize) (ch : List ℕ) (r : ℕ) → r ≡ rounds z → length ch ≡ chain_length z → (r ≤ 32) × (1024 + 920 * r ≤ length ch)
long z ch r e h = (omega (arith, rounds_le z), omega arith)

-- the answer of a test that was given the rounds of the size
told : (test : ℕ → List ℕ → Bool) (z : KeySize) (ch : List ℕ) (r : ℕ) (t b : Bool) → r ≡ rounds z → t ≡ test r ch → t ≡ b → test (rounds z) ch ≡ b
told test z ch r t b e h k = ap (λ (n : ℕ). test n ch) (sym e) ∙ sym h ∙ k

pub returns-then-chain-chain_len : goal.returns-then-chain-chain_len
returns-then-chain-chain_len c = sym (chain_length_wrong _ _ _ _ (λ e. c.if-chain-chain_len.true (e ∙ sym c.chain_len.ensures)))

pub invariant_of-rounds : goal.invariant_of-rounds
invariant_of-rounds c =
    let a = c.args in
    let room = long a.size a.chain.now _ c.rounds-r.ensures (c.if-chain-chain_len.false ∙ c.chain_len.ensures) in
    record { few = room.0; whole = room.1 }

pub returns-then-not-codings_permute : goal.returns-then-not-codings_permute
returns-then-not-codings_permute c =
    let a = c.args in
    sym (chain_codings_wrong a.from a.to a.size a.chain.now (c.if-chain-chain_len.false ∙ c.chain_len.ensures)
    (told coding_rule_holds a.size a.chain.now _ _ false c.rounds-r.ensures c.codings_permute.ensures (c.if-not-codings_permute.true)))

pub words_kept-requires : goal.words_kept-requires
words_kept-requires c =
    let a = c.args in
    let room = long a.size a.chain.now _ c.rounds-r.ensures (c.if-chain-chain_len.false ∙ c.chain_len.ensures) in
    (room.0, room.1, c.requires.0, c.requires.1)

pub returns-then-not-words_kept : goal.returns-then-not-words_kept
returns-then-not-words_kept c =
    let a = c.args in
    sym (chain_words_wrong a.from a.to a.size a.chain.now (c.if-chain-chain_len.false ∙ c.chain_len.ensures)
    (told coding_rule_holds a.size a.chain.now _ _ true c.rounds-r.ensures c.codings_permute.ensures (c.if-not-codings_permute.false))
    (told (words_kept a.from a.to) a.size a.chain.now _ _ false c.rounds-r.ensures c.words_kept.ensures (c.if-not-words_kept.true)))

pub returns-then-not-all_masks_hold : goal.returns-then-not-all_masks_hold
returns-then-not-all_masks_hold c =
    let a = c.args in
    sym (chain_masks_wrong a.from a.to a.size a.chain.now (c.if-chain-chain_len.false ∙ c.chain_len.ensures)
    (told coding_rule_holds a.size a.chain.now _ _ true c.rounds-r.ensures c.codings_permute.ensures (c.if-not-codings_permute.false))
    (told (words_kept a.from a.to) a.size a.chain.now _ _ true c.rounds-r.ensures c.words_kept.ensures (c.if-not-words_kept.false))
    (told mask_rule_holds a.size a.chain.now _ _ false c.rounds-r.ensures c.all_masks_hold.ensures (c.if-not-all_masks_hold.true)))

pub returns : goal.returns
returns c =
    let a = c.args in
    sym (chain_right a.from a.to a.size a.chain.now (c.if-chain-chain_len.false ∙ c.chain_len.ensures)
    (told coding_rule_holds a.size a.chain.now _ _ true c.rounds-r.ensures c.codings_permute.ensures (c.if-not-codings_permute.false))
    (told (words_kept a.from a.to) a.size a.chain.now _ _ true c.rounds-r.ensures c.words_kept.ensures (c.if-not-words_kept.false))
    (told mask_rule_holds a.size a.chain.now _ _ true c.rounds-r.ensures c.all_masks_hold.ensures (c.if-not-all_masks_hold.false)))
