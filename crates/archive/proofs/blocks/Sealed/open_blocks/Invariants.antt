-- `blocks::Sealed::open_blocks` meets its contract. The invariants: 4j blocks are opened, m more of them, and then k.
use Rattle.std.proofs.Common.{◌≡◌, ℕ, List, ◌+◌, ◌*◌, ◌≤◌, ◌++◌, length, drop}
use Rattle.lists.specs.Tabulation.{chunks}
use Rattle.archive.specs.Opened.{opened_of}
use Rattle.archive.specs.declared.blocks.Sealed.{Sealed}
use Rattle.archive.proofs.blocks.Sealed.open_blocks.Given as goal

-- what out holds, which held out₀, when n blocks are opened
abbrev opened : Sealed → List ℕ → ℕ → List ℕ → Type 0
opened s out₀ n out =
    (out ≡ chunks n (opened_of s) ++ drop (16 * n) out₀)
    × (length out ≡ length out₀)

abbrev pub invariant-loop-j : goal.invariant-loop-j
invariant-loop-j l = (l.j ≤ l.fours) × opened l.self l.fn.out (4 * l.j) l.out

abbrev pub invariant-loop-m : goal.invariant-loop-m
invariant-loop-m l = (l.m ≤ 4) × opened l.self l.fn.out (l.k + l.m) l.out

abbrev pub invariant-loop-k : goal.invariant-loop-k
invariant-loop-k l = (l.k ≤ l.n) × opened l.self l.fn.out l.k l.out
