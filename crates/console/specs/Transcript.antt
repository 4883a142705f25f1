-- What the console prints for a whole input. Assumes nothing.
use Rattle.std.specs.Prelude.{ℕ, cond, List, [], ◌∷◌, ◌++◌, take, ◌==◌}
use Rattle.console.specs.Session.{State, Answered}

-- the lines that byte 10 ends, where some bytes of the first have come before; the last bytes, if no 10 ends them, are no line
unfoldable pub lines_after : List ℕ → List ℕ → List (List ℕ)
lines_after begun [] = []
lines_after begun (b ∷ bs) = cond (b == 10) (begun ∷ lines_after [] bs) (lines_after (begun ++ b ∷ []) bs)

-- the complete lines of a text
abbrev pub lines_of : List ℕ → List (List ℕ)
lines_of text = lines_after [] text

-- the complete lines of an input: those of its first 65,536 bytes
abbrev pub complete_lines : List ℕ → List (List ℕ)
complete_lines input = lines_of (take 65536 input)

-- lines answered one after the other: what is printed, and the state after the last
pub data Transcribed : State → List (List ℕ) → List ℕ → State → Type 0 where
  none : {s : State} → Transcribed s [] [] s
  next : {s s' final : State} {line : List ℕ} {more : List (List ℕ)} {rest : List ℕ} (bytes : List ℕ) → Answered s line bytes s' → Transcribed s' more rest final → Transcribed s (line ∷ more) (bytes ++ rest) final
