-- What the two lines are: the opened blocks are LEA's first round, and all of LEA, on the input block decoded by set 0, for
-- every key size and every valid chain (document 01, "The model session of demand 3", its paragraph on n rounds).
use mathlib.Core.Path.{◌≡◌, refl, ap₂, ◌∙◌}
use mathlib.Core.List.{List, [], ◌++◌}
use Prim.Native.Nat.{ℕ, ◌≤◌, ◌<◌}
use native.Mathlib.Nat.{le_refl}
use native.Mathlib.Omega.{arith}
use lib.ListN.{get_or, drop}
use Rattle.cipher.specs.KeySize.{rounds, chain_length}
use Rattle.cipher.specs.Schedules.{key_rows}
use Rattle.cipher.specs.Lea.{first_rounds, encipher}
use Rattle.cipher.specs.Coding.{decoded}
use Rattle.cipher.specs.Tables.{RoundTables}
use Rattle.cipher.specs.Chain.{Chain, chain_set, round_codings}
use Rattle.cipher.specs.Book.{book_round}
use Rattle.cipher.specs.declared.size.KeySize.{KeySize}
use Rattle.cipher.specs.declared.schedules.Schedule.TheVariants.{Lea}
use Rattle.cipher.proofs.KeySizeLaws.{rounds_more}
use Rattle.cipher.proofs.RoundsLaw.{rounds_law}
use Rattle.cipher.proofs.ChainTests.{valid_round}
use Rattle.cipher.proofs.BookLaw.{round_made}
use Rattle.round.specs.Text.{line}
use Rattle.round.specs.Round.{tables_of, opened_after, two_lines, length_byte, key_part, after_key, chain_part, block_part, printed, printed_after, Input, plain_block}
use Rattle.round.proofs.AnswerLaws.{printed_after_lem, on_run}

module _ (z : KeySize) (key ch : List ℕ) (v : Chain z ch) where
  tables_are : (l : ℕ) → l < rounds z → RoundTables (round_codings (rounds z) ch l) (get_or (key_rows Lea z key) l []) (tables_of z key ch l)
  unfolding book_round
  tables_are l h = round_made (round_codings (rounds z) ch l) (get_or (key_rows Lea z key) l [])

  -- after n rounds, for every n
  pub opened_lea : (b : List ℕ) (n : ℕ) → n ≤ rounds z → opened_after z key ch n b ≡ first_rounds (key_rows Lea z key) n (decoded (chain_set ch 0) b)
  opened_lea b n h =
      rounds_law (rounds z) (chain_set ch) (round_codings (rounds z) ch) (key_rows Lea z key) (tables_of z key ch)
      (λ l. unfold round_codings in refl) (λ l. unfold round_codings in refl)
      (valid_round (rounds z) ch v.codings v.words v.masks) tables_are b n h (v.codings.sets n h)

  pub lines_lea : (b : List ℕ)
      → two_lines z key ch b
      ≡ line 1 1 (first_rounds (key_rows Lea z key) 1 (decoded (chain_set ch 0) b)) ++ line 2 (rounds z) (encipher Lea z key (decoded (chain_set ch 0) b))
  unfolding two_lines
  lines_lea b =
      let m = rounds_more z in
      ap₂ (λ (x y : List ℕ). line 1 1 x ++ line 2 (rounds z) y) (opened_lea b 1 (omega arith)) (opened_lea b (rounds z) (le_refl (rounds z)))

-- what is printed for an input that is not refused
pub printed_lea : (z : KeySize) (i : List ℕ) → Input z i
    → printed i
    ≡ line 1 1 (first_rounds (key_rows Lea z (key_part (length_byte i) i)) 1 (plain_block z i))
    ++ line 2 (rounds z) (encipher Lea z (key_part (length_byte i) i) (plain_block z i))
unfolding printed_after
printed_lea z i h =
    let key = key_part (length_byte i) i in
    let s = after_key (length_byte i) i in
    printed_after_lem i z h.size h.key
    ∙ on_run z key (chain_part z s) (drop (chain_length z) s) h.chain h.block
    ∙ lines_lea z key (chain_part z s) h.chain (block_part z s)
