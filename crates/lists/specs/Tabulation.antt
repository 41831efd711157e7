-- Lists given by a rule for each place. Both grow at the end, as a loop that fills a buffer does.
use Rattle.std.specs.Prelude.{List, [], ◌∷◌, ◌++◌, ℕ, zero, suc, ◌/◌, ◌%◌}

-- the numbers f 0, f 1, .., f (n - 1)
unfoldable pub tab : ℕ → (ℕ → ℕ) → List ℕ
tab zero f = []
tab (suc n) f = tab n f ++ (f n ∷ [])

-- the lists g 0, g 1, .., g (n - 1), one after another
unfoldable pub chunks : ℕ → (ℕ → List ℕ) → List ℕ
chunks zero g = []
chunks (suc n) g = chunks n g ++ g n

-- m tables of s numbers each, one after another: table p = 8i + j has the rule f i j
unfoldable pub tables : ℕ → ℕ → (ℕ → ℕ → ℕ → ℕ) → List ℕ
tables m s f = chunks m (λ p. tab s (f (p / 8) (p % 8)))
