-- A line that was answered, printed or not. Assumes nothing.
use Rattle.std.proofs.Common.{◌≡◌, ℕ, List, ◌++◌, is_ok, Some, Ok, Err, Option, Result, sym, refl, subst, inr, OnOk, OnErr}
use Rattle.lines.specs.Printed.{printed}
use Rattle.lines.specs.Requests.{Request, request}
use Rattle.refusal.specs.declared.reason.Refusal.{Refusal}
use Rattle.vault_calls.specs.declared.answer.Answer.{Answer}
use Rattle.console.specs.Session.{State, Replied, AnsweredTo, Answered, Unprinted, reply_line}

-- the request of a line was replied to, and its reply printed if there was memory for it
pub printed_or_not : {X E : Type 0} (r : Result X E) (before after line words : List ℕ) (asks : Request) (o : Option (Result Answer Refusal)) (s s' : State) → request line ≡ Some asks → Replied asks s o words s' → after ≡ printed (is_ok r) before (reply_line o words)
    → OnOk r ((bytes : List ℕ) × ((after ≡ before ++ bytes) × Answered s line bytes s')) × OnErr r ((after ≡ before) × Unprinted s line s')
printed_or_not r before after line words asks o s s' is h e =
    let answered : Answered s line (reply_line o words) s' = subst (λ x. AnsweredTo x s (reply_line o words) s') (sym is) (o, (words, (h, refl))) in
    go r e answered
  where
    go : {X E : Type 0} (r : Result X E) → after ≡ printed (is_ok r) before (reply_line o words) → Answered s line (reply_line o words) s'
        → OnOk r ((bytes : List ℕ) × ((after ≡ before ++ bytes) × Answered s line bytes s')) × OnErr r ((after ≡ before) × Unprinted s line s')
    go (Ok x) e a = ((reply_line o words, (e, a)), tt)
    go (Err x) e a = (tt, (e, inr (reply_line o words, a)))
