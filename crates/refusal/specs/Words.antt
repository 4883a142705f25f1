-- What is printed of a refusal. Assumes nothing.
use Rattle.std.specs.Prelude.{ℕ, List, ◌++◌, codes, decimal}
use Rattle.refusal.specs.declared.reason.Refusal.{Refusal}
use Rattle.refusal.specs.declared.reason.Refusal.TheVariants as reason
use Rattle.refusal.specs.declared.reason.Fault.{Fault}
use Rattle.refusal.specs.Numbers.{number_of, cause_number}

-- the number of what is wrong with a byte, and where the byte stands
abbrev pub fault_words : Fault → List ℕ
fault_words f =
    codes "cause " ++ (decimal (cause_number f.cause) ++ (codes ": room " ++ (decimal f.room ++ (codes ", record " ++ (decimal f.record ++ (codes ", byte " ++ decimal f.byte))))))

-- what comes after the number: of a malformed image, where it is
abbrev pub place_words : Refusal → List ℕ
place_words (reason.Image f) = codes ", " ++ fault_words f
place_words _ = codes ""

-- the number of a refusal, and of a malformed image where it is
abbrev pub refusal_words : Refusal → List ℕ
refusal_words r = codes "refused by " ++ (decimal (number_of r) ++ place_words r)
