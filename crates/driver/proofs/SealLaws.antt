-- A chain of blocks sealed one after another into a buffer: one turn of the loop, and the whole.
use mathlib.Core.Path.{◌≡◌, refl, sym, ap, ap₂, ◌∙◌}
use mathlib.Core.List.{List, [], ◌∷◌, ◌++◌, flatten}
use Prim.Native.Nat.{ℕ, zero, suc, ◌+◌, ◌*◌}
use native.Mathlib.Numerals.{add-one}
use native.Mathlib.Omega.{arith}
use lib.ListN.{length, take, drop, length-append}
use Rattle.lists.specs.Blocks.{cut}
use Rattle.lists.proofs.BlockLaws.{cut_more, flatten_more}
use Rattle.lists.proofs.PartLaws.{put_more}
use Rattle.driver.specs.Driver.{passed_from, pass}
use Rattle.driver.proofs.PassLaws.{block_pass}

module _ (step : List ℕ → List ℕ → List ℕ) where
  -- the block that a chain ends with
  unfoldable pub passed_last : List ℕ → List (List ℕ) → List ℕ
  passed_last x [] = x
  passed_last x (m ∷ ms) = passed_last (step x m) ms

  pub end_more : (x : List ℕ) (ms : List (List ℕ)) (m : List ℕ) → passed_last x (ms ++ (m ∷ [])) ≡ step (passed_last x ms) m
  unfolding passed_last
  end_more x [] m = refl
  end_more x (k ∷ ms) m = end_more (step x k) ms m

  pub passed_more : (x : List ℕ) (ms : List (List ℕ)) (m : List ℕ)
      → passed_from step x (ms ++ (m ∷ [])) ≡ passed_from step x ms ++ (step (passed_last x ms) m ∷ [])
  unfolding passed_from passed_last
  passed_more x [] m = refl
  passed_more x (k ∷ ms) m = ap (λ (l : List (List ℕ)). step x k ∷ l) (passed_more (step x k) ms m)

  pub length_passed : ((x m : List ℕ) → length (step x m) ≡ 16) → (x : List ℕ) (ms : List (List ℕ)) → length (flatten (passed_from step x ms)) ≡ 16 * length ms
  unfolding passed_from flatten
  length_passed h x [] = refl
  length_passed h x (m ∷ ms) =
      length-append (step x m) (flatten (passed_from step (step x m) ms)) ∙ omega (arith, h x m, length_passed h (step x m) ms)

length_cut : (n : ℕ) (l : List ℕ) → length (cut n l) ≡ n
unfolding cut
length_cut zero l = refl
length_cut (suc n) l = ap suc (length_cut n (drop 16 l))

module _ (bk iv cs out₀ : List ℕ) where
  -- the first k blocks sealed
  abbrev pub done : ℕ → List ℕ
  done k = flatten (passed_from (pass bk 0) iv (cut k cs))

  done_length : (k : ℕ) → length (done k) ≡ 16 * k
  done_length k = length_passed (pass bk 0) (λ x m. (block_pass bk 0 x m).size) iv (cut k cs) ∙ ap (λ (n : ℕ). 16 * n) (length_cut k cs)

  module _ (k : ℕ) (x m y out : List ℕ) (ex : x ≡ passed_last (pass bk 0) iv (cut k cs)) (em : m ≡ take 16 (drop (16 * k) cs)) (ey : y ≡ pass bk 0 x m)
      (eo : out ≡ done k ++ drop (16 * k) out₀) where
    next_is : y ≡ pass bk 0 (passed_last (pass bk 0) iv (cut k cs)) (take 16 (drop (16 * k) cs))
    next_is = ey ∙ ap₂ (pass bk 0) ex em

    more : cut (k + 1) cs ≡ cut k cs ++ (take 16 (drop (16 * k) cs) ∷ [])
    more = ap (λ (n : ℕ). cut n cs) (add-one k) ∙ cut_more k cs

    pub seal_end : y ≡ passed_last (pass bk 0) iv (cut (k + 1) cs)
    seal_end = next_is ∙ sym (ap (passed_last (pass bk 0) iv) more ∙ end_more (pass bk 0) iv (cut k cs) (take 16 (drop (16 * k) cs)))

    done_more : done (k + 1) ≡ done k ++ y
    done_more =
        ap (λ (l : List (List ℕ)). flatten (passed_from (pass bk 0) iv l)) more
        ∙ ap flatten (passed_more (pass bk 0) iv (cut k cs) (take 16 (drop (16 * k) cs)))
        ∙ flatten_more (passed_from (pass bk 0) iv (cut k cs)) (pass bk 0 (passed_last (pass bk 0) iv (cut k cs)) (take 16 (drop (16 * k) cs)))
        ∙ ap (λ (b : List ℕ). done k ++ b) (sym next_is)

    pub seal_turn : take (16 * k) out ++ y ++ drop (16 * k + 16) out ≡ done (k + 1) ++ drop (16 * (k + 1)) out₀
    seal_turn =
        let q : 16 * k + 16 ≡ 16 * (k + 1) = omega arith in
        put_more (done k) out₀ out y (16 * k) 16 (done_length k) eo ∙ ap₂ (λ (a : List ℕ) (n : ℕ). a ++ drop n out₀) (sym done_more) q
