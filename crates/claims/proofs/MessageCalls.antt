-- The model on the calls of a message: none is refused, and the one tag is the message's CMAC, coded by set r.
use mathlib.Core.Path.{◌≡◌, refl, ap, ap₂, ◌∙◌}
use mathlib.Core.Bool.{false}
use mathlib.Core.List.{List, [], ◌∷◌, map}
use Prim.Native.Nat.{ℕ, suc, ◌+◌, ◌-◌, ◌/◌, ◌≤◌, ◌<◌}
use native.Mathlib.Omega.{arith}
use lib.ListN.{length, length-map}
use Rattle.lists.specs.Blocks.{Bytes, zeros, xor_block, blocks}
use Rattle.lists.proofs.BlockLaws.{Blocks, none, more, blocks_blocks, length_blocks}
use Rattle.cipher.specs.Cmac.{cmac}
use Rattle.cipher.specs.Coding.{Set, Permutations, coded, decoded}
use Rattle.cipher.proofs.CodingLaws.{block_coded, decoded_coded}
use Rattle.pad.specs.Padding.{padded_for_tag, kind_of}
use Rattle.pad.proofs.PadLaws.{kind_most, tag_blocks, tag_bytes}
use Rattle.pad.proofs.CodeLaws.{tag_code_blocks}
use Rattle.claims.specs.Model.{Call, block_call, last_call, Answer, State, begun, kind_key, block_taken, tag_of, model_call}
use Rattle.claims.specs.Calls.{run, model_answers, calls_of, message_calls, accepted_calls, tags_of}
use Rattle.claims.proofs.ModelCases.{model_block, model_last}
use Rattle.claims.proofs.CmacBlocks.{mac_of, mac_is_cmac}

-- a state that has not finished
abbrev at : List ℕ → ℕ → State
at x n = record { held = x; taken = n; ended = false }

module _ (E : List ℕ → List ℕ) (U S : Set) where
  abbrev f : Call → State → Answer × State
  f = model_call E U S

  -- what a list of calls must come to, from a state: one tag, no call refused
  abbrev Comes : List Call → State → List ℕ → Type 0
  Comes cs s t = (tags_of (run f cs s) ≡ t ∷ []) × (accepted_calls cs (run f cs s) ≡ cs)

  comes_last : (b x : List ℕ) (n k : ℕ) → length b ≡ 16 → k ≤ 1 → Comes (last_call b k ∷ []) (at x n) (tag_of E U S b k (at x n))
  unfolding run tags_of accepted_calls
  comes_last b x n k l h = rw (model_last E U S b (at x n) l k h refl) (refl, refl)

  comes_block : (b x t : List ℕ) (n : ℕ) (cs : List Call) → length b ≡ 16 → n < 65535 → Comes cs (at (E (xor_block x (decoded U b))) (suc n)) t
      → Comes (block_call b ∷ cs) (at x n) t
  unfolding run tags_of accepted_calls block_taken
  comes_block b x t n cs l h c = rw (model_block E U S b (at x n) l refl h) (c.0, ap {B = List Call} (λ r. block_call b ∷ r) c.1)

  comes : (k : ℕ) (b : List ℕ) (bs : List (List ℕ)) (x : List ℕ) (n : ℕ) → Blocks (b ∷ bs) → k ≤ 1 → n + length bs ≤ 65535
      → Comes (calls_of k (b ∷ bs)) (at x n) (coded S (mac_of E (kind_key E k) x (map (decoded U) (b ∷ bs))))
  unfolding calls_of mac_of tag_of
  comes k b [] x n (more h hs) hk hn = comes_last b x n k h.size hk
  comes k b (c ∷ bs) x n (more h hs) hk hn =
      comes_block b x (coded S (mac_of E (kind_key E k) x (map (decoded U) (b ∷ c ∷ bs)))) n (calls_of k (c ∷ bs)) h.size (omega arith)
      (comes k c bs (E (xor_block x (decoded U b))) (suc n) hs hk (omega arith))

  module _ (p : Permutations U) where
    coded_blocks : (bs : List (List ℕ)) → Blocks (map (coded U) bs)
    coded_blocks [] = none
    coded_blocks (b ∷ bs) = more (block_coded U p b) (coded_blocks bs)

    blocks_decoded : (bs : List (List ℕ)) → Blocks bs → map (decoded U) (map (coded U) bs) ≡ bs
    blocks_decoded [] none = refl
    blocks_decoded (b ∷ bs) (more h hs) = ap₂ {C = List (List ℕ)} (λ (c : List ℕ) (cs : List (List ℕ)). c ∷ cs) (decoded_coded U p b h) (blocks_decoded bs hs)

    comes_coded : (k : ℕ) (bs : List (List ℕ)) → Blocks bs → k ≤ 1 → 0 < length bs → length bs ≤ 65536
        → Comes (calls_of k (map (coded U) bs)) begun (coded S (mac_of E (kind_key E k) zeros bs))
    comes_coded k [] h hk h0 hn = absurd (omega arith)
    comes_coded k (b ∷ bs) h hk h0 hn =
        let c = comes k (coded U b) (map (coded U) bs) zeros 0 (coded_blocks (b ∷ bs)) hk (omega (arith, length-map bs (coded U))) in
        (c.0 ∙ ap (λ (l : List (List ℕ)). coded S (mac_of E (kind_key E k) zeros l) ∷ []) (blocks_decoded (b ∷ bs) h), c.1)

    -- the message's calls: one tag, and no call refused
    module _ (m : List ℕ) (hm : Bytes m) (most : length m ≤ 1048575) where
      message_comes : Comes (message_calls U m) begun (coded S (cmac E m))
      unfolding message_calls
      message_comes =
          let e = length_blocks (padded_for_tag m) ((length m - 1) / 16 + 1) (tag_blocks m) in
          let c = comes_coded (kind_of (length m)) (blocks (padded_for_tag m))
          (blocks_blocks (padded_for_tag m) ((length m - 1) / 16 + 1) (tag_blocks m) (tag_bytes m hm))
          (kind_most (length m)) (omega (arith, e)) (omega (arith, e, most)) in
          rw (tag_code_blocks U p m)
          (c.0 ∙ ap (λ (t : List ℕ). coded S t ∷ []) (mac_is_cmac E m), c.1)

      pub message_tag : tags_of (model_answers E U S (message_calls U m)) ≡ coded S (cmac E m) ∷ []
      unfolding model_answers
      message_tag = message_comes.0

      pub message_taken : accepted_calls (message_calls U m) (model_answers E U S (message_calls U m)) ≡ message_calls U m
      unfolding model_answers
      message_taken = message_comes.1
