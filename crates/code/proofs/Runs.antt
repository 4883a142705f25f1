-- Lists of numbers that follow each other. Assumes nothing.
use Rattle.std.proofs.Common.{◌≡◌, ℕ, ◌+◌, ◌-◌, ◌<◌, ◌≤◌, true, false, ◌⊎◌, List, inl, inr, arith}
use Rattle.shape.specs.Outages.{among}
use Rattle.shape.proofs.Among.{among_at, among_none}
use Rattle.code.specs.Steps.{Run}

-- what is among them
pub run_in : (first n : ℕ) (nodes : List ℕ) → Run first nodes n → (i : ℕ) → first ≤ i → i < first + n → among nodes i ≡ true
run_in first n nodes run i low high =
    let m = run.0 in
    let e = run.1 (i - first) (omega arith) in
    among_at nodes (i - first) i (omega arith) (omega arith)

pub run_out : (first n : ℕ) (nodes : List ℕ) → Run first nodes n → (i : ℕ) → (i < first) ⊎ (first + n ≤ i) → among nodes i ≡ false
run_out first n nodes run i (inl low) = among_none nodes i (λ k l e. let m = run.0 in let h = run.1 k (omega arith) in omega arith)
run_out first n nodes run i (inr high) = among_none nodes i (λ k l e. let m = run.0 in let h = run.1 k (omega arith) in omega arith)
