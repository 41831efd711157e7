-- The start, the groups and the rounds put together are the body of the book, and with a byte before them the book.
use mathlib.Core.Path.{◌≡◌, refl, sym, ap, ap₂, ◌∙◌}
use mathlib.Core.List.{List, [], ◌∷◌, ◌++◌, append_assoc}
use Prim.Native.Nat.{ℕ, zero, suc, ◌+◌, ◌-◌, ◌*◌, ◌≤◌, ◌<◌}
use native.Mathlib.Nat.{le_of_eq}
use native.Mathlib.Omega.{arith}
use lib.ListN.{length, get_or, set, take, drop, length-append, length-drop}
use lib.Seq.{drop_at, length-take-le}
use Rattle.lists.specs.Tabulation.{chunks}
use Rattle.lists.specs.Blocks.{zeros}
use Rattle.lists.proofs.TabulationLaws.{length_tab}
use Rattle.lists.proofs.ChunkLaws.{length_chunks, chunks_ext}
use Rattle.lists.proofs.PartLaws.{grown_part, grown_whole, part_end}
use Rattle.cipher.specs.KeySize.{rounds}
use Rattle.cipher.specs.Lea.{first_rounds}
use Rattle.cipher.specs.Cmac.{subkey1, subkey2}
use Rattle.cipher.specs.Coding.{Set, FirstPermutations, set_of, of_halves, coded}
use Rattle.cipher.specs.Chain.{ChainBy, round_codings}
use Rattle.cipher.specs.Book.{start_part, group_part, group_key, book_group, book_round, book_of}
use Rattle.cipher.proofs.BookLaw.{group_size, round_size}
use Rattle.cipher.specs.declared.size.KeySize.{KeySize}
use Rattle.table_maker.specs.Made.{three_keys}
use Rattle.table_maker.proofs.ChainLaws.{sets_permute}

-- set l of a valid chain, from its place on
pub set_in : {from to : ℕ} (z : KeySize) (ch S : List ℕ) (l : ℕ) → ChainBy from to z ch → l ≤ rounds z → S ≡ drop (512 * (l + 1)) ch → FirstPermutations 32 S × (512 ≤ length S)
set_in z ch S l h hl e =
    let d : 512 * (l + 1) ≡ 512 * suc l = omega arith in
    let n : length S ≡ length ch - 512 * (l + 1) = ap length e ∙ length-drop (512 * (l + 1)) ch in
    (rw (e, d) (sets_permute z ch h l hl), omega (arith, h.size))

pub start_length_lem : (x : List ℕ) (S : Set) → x ≡ coded S zeros → length x ≡ 16
unfolding coded of_halves
start_length_lem x S e = ap length e ∙ length_tab 16 _

pub groups_length : (x : List ℕ) (S U F : Set) (k : ℕ → List ℕ) → x ≡ chunks 3 (λ g. group_part S U F (k g)) → length x ≡ 24576
groups_length x S U F k e = ap length e ∙ length_chunks (λ g. group_part S U F (k g)) 8192 (λ g. group_size S U F (k g)) 3

pub rounds_length : (x : List ℕ) (r : ℕ) (rows : List (List ℕ)) (ch : List ℕ) → x ≡ chunks r (book_round r rows ch) → length x ≡ r * 18432
unfolding book_round
rounds_length x r rows ch e =
    ap length e ∙ length_chunks (book_round r rows ch) 18432 (λ l. round_size (round_codings r ch l) (get_or rows l [])) r

-- set 0, from its place on
pub after_first : (ch : List ℕ) → 1024 ≤ length ch → 512 ≤ length (take (length ch - 512) (drop 512 ch))
after_first ch h =
    let e : length (take (length ch - 512) (drop 512 ch)) ≡ length ch - 512 = ap length (part_end ch 512) ∙ length-drop 512 ch in
    omega arith

-- x in front of out, then y, then w
abbrev pub after_two : List ℕ → List ℕ → List ℕ → List ℕ
after_two x y out = take 16 (x ++ drop 16 out) ++ (y ++ drop 24576 (drop 16 (x ++ drop 16 out)))

module _ (x out : List ℕ) (n r : ℕ) (lx : length x ≡ 16) (room : length out ≡ 24592 + 18432 * r) (en : n ≡ 24592 + 18432 * r) where
  pub groups_room : length (take 24576 (drop 16 (x ++ drop 16 out))) ≡ 24576
  groups_room = rw (drop_at x (drop 16 out) 16 lx) (length-take-le 24576 (drop 16 out) (rw (length-drop 16 out) (omega arith)))

  module _ (y : List ℕ) (ly : length y ≡ 24576) where
    two : length (x ++ y) ≡ 24592
    two = length-append x y ∙ rw (lx, ly)

    after_is : after_two x y out ≡ (x ++ y) ++ drop 24592 out
    after_is = grown_part x y out 16 24576 lx

    pub after_length : length (after_two x y out) ≡ 24592 + 18432 * r
    after_length =
        ap length after_is ∙ length-append (x ++ y) (drop 24592 out) ∙ rw (two, length-drop 24592 out) (omega arith)

    pub rounds_room : length (take (n - 24592) (drop 24592 (after_two x y out))) ≡ r * 18432
    rounds_room =
        let k : n - 24592 ≡ r * 18432 = omega arith in
        ap₂ (λ (m : ℕ) (d : List ℕ). length (take m (drop 24592 d))) k after_is
        ∙ rw (drop_at (x ++ y) (drop 24592 out) 24592 two) (length-take-le (r * 18432) (drop 24592 out) (rw (length-drop 24592 out) (omega arith)))

    module _ (w : List ℕ) where
      pub all_joined : take 24592 (after_two x y out) ++ (w ++ drop (n - 24592) (drop 24592 (after_two x y out))) ≡ x ++ (y ++ w)
      all_joined =
          let k : 24592 + (n - 24592) ≡ length out = omega arith in
          ap (λ (d : List ℕ). take 24592 d ++ (w ++ drop (n - 24592) (drop 24592 d))) after_is
          ∙ grown_part (x ++ y) w out 24592 (n - 24592) two
          ∙ grown_whole ((x ++ y) ++ w) out (24592 + (n - 24592)) (le_of_eq (sym k))
          ∙ append_assoc x y w

      pub all_length : length w ≡ r * 18432 → length (take 24592 (after_two x y out) ++ (w ++ drop (n - 24592) (drop 24592 (after_two x y out)))) ≡ length out
      all_length lw = ap length all_joined ∙ length-append x (y ++ w) ∙ rw (length-append y w, lx, ly, lw) (omega arith)

-- a byte b in front of out, and after it x up to the place m, written n
pub byte_joined : (b : ℕ) (x out : List ℕ) (n m : ℕ) → n ≡ m → 1 ≤ m → m ≤ length out
    → take 1 (set out 0 b) ++ (x ++ drop (n - 1) (drop 1 (set out 0 b))) ≡ (b ∷ x) ++ drop m out
byte_joined b x [] n m e some h = absurd (omega arith)
byte_joined b x (o ∷ out) n m e some h =
    let k : suc (n - 1) ≡ m = omega arith in
    ap (λ (j : ℕ). b ∷ (x ++ drop j (o ∷ out))) k

-- the parts are those of the body
keys_are : (cipher : List ℕ → List ℕ) (g : ℕ) → three_keys (subkey1 cipher) (subkey2 cipher) g ≡ group_key cipher g
unfolding three_keys group_key
keys_are cipher zero = refl
keys_are cipher (suc zero) = refl
keys_are cipher (suc (suc g)) = refl

one : (r : ℕ) (rows : List (List ℕ)) (ch S F k1 k2 : List ℕ) (g : ℕ) → S ≡ drop (512 * suc r) ch → F ≡ drop 512 ch
    → k1 ≡ subkey1 (first_rounds rows r) → k2 ≡ subkey2 (first_rounds rows r)
    → group_part (set_of S) (set_of ch) (set_of F) (three_keys k1 k2 g) ≡ book_group r rows ch g
unfolding book_group
one r rows ch S F k1 k2 g eS eF e1 e2 = rw (eS, eF, e1, e2, keys_are (first_rounds rows r) g)

place : (q r : ℕ) → q ≡ r → 512 * (q + 1) ≡ 512 * suc r
place q r e = omega arith

pub book_is : (r q : ℕ) (rows : List (List ℕ)) (ch S F k1 k2 x y w : List ℕ) → q ≡ r → S ≡ drop (512 * (q + 1)) ch → F ≡ drop 512 ch
    → k1 ≡ subkey1 (first_rounds rows r) → k2 ≡ subkey2 (first_rounds rows r) → x ≡ coded (set_of S) zeros
    → y ≡ chunks 3 (λ g. group_part (set_of S) (set_of ch) (set_of F) (three_keys k1 k2 g)) → w ≡ chunks r (book_round r rows ch)
    → x ++ (y ++ w) ≡ book_of r rows ch
unfolding book_of start_part
book_is r q rows ch S F k1 k2 x y w eq eS eF e1 e2 ex ey ew =
    ap₂ {C = List ℕ} (λ (a b : List ℕ). a ++ b) (ex ∙ ap (λ (s : List ℕ). coded (set_of s) zeros) last)
    (ap₂ {C = List ℕ} (λ (a b : List ℕ). a ++ b) (ey ∙ chunks_ext 3 (λ g. group_part (set_of S) (set_of ch) (set_of F) (three_keys k1 k2 g)) (book_group r rows ch) group) ew)
  where
    last : S ≡ drop (512 * suc r) ch
    last = eS ∙ ap (λ (o : ℕ). drop o ch) (place q r eq)

    group : (g : ℕ) → g < 3 → group_part (set_of S) (set_of ch) (set_of F) (three_keys k1 k2 g) ≡ book_group r rows ch g
    group g hg = one r rows ch S F k1 k2 g last eF e1 e2
