use Rattle.std.proofs.Common.{◌≡◌, ℕ, ◌+◌, ◌%◌, ◌<◌, ◌≤◌, cond, eqb, get_or}
use Rattle.search_tests.proofs.disturb.Given as goal

abbrev pub invariant-loop-k : goal.invariant-loop-k
invariant-loop-k l = record {
  done : (k : ℕ) → k < l.k → get_or l.marks k 0 ≡ cond (eqb ((l.offset + k % 3) % 3) 0) 1 (get_or l.initial.marks k 0);
  left : (k : ℕ) → l.k ≤ k → get_or l.marks k 0 ≡ get_or l.initial.marks k 0;
}
