-- What is printed of an answer. Assumes nothing.
use Rattle.std.specs.Prelude.{ℕ, List, ◌++◌, codes, decimal}
use Rattle.vault_calls.specs.declared.answer.Answer.{Answer}

-- how many nodes a call filled, and how many words it drew
abbrev pub answer_words : Answer → List ℕ
answer_words a = codes "filled " ++ (decimal a.filled ++ (codes ", drawn " ++ decimal a.drawn))
