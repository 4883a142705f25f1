-- Words as elements. Assumes nothing.
use Rattle.std.proofs.Common.{◌≡◌, ℕ, ◌<◌, ◌≤◌, Result, Ok, Err, MatchResult, ltb, sym, ap, ◌∙◌}
use Rattle.std.specs.Result.{result_unwrap_or}
use Rattle.refusal.specs.declared.reason.Refusal.{Refusal}
use Rattle.refusal.specs.declared.reason.Refusal.TheVariants.{NoCode}
use Rattle.std.proofs.lemmas.Bool.{cond-true, cond-false, lt-ltb, le-ltb}
use Rattle.field.specs.Field.{Arith, Laws}
use Rattle.code.specs.Reading.{read}

module _ {E : Type 0} (f : Arith E) where
  pub read_code : (w : ℕ) → w < f.size → read f w ≡ f.of w
  unfolding read
  read_code w l = cond-true (ltb w f.size) (f.of w) f.zero (lt-ltb w f.size l)

  pub read_none : (w : ℕ) → f.size ≤ w → read f w ≡ f.zero
  unfolding read
  read_none w l = cond-false (ltb w f.size) (f.of w) f.zero (le-ltb w f.size l)

  -- the element of a word, or zero
  pub read_or_zero : (w : ℕ) (r : Result E Refusal) → MatchResult r (λ a. (w < f.size) × (a ≡ f.of w)) (λ e. (f.size ≤ w) × (e ≡ NoCode)) → result_unwrap_or r f.zero ≡ read f w
  read_or_zero w (Ok a) h = h.1 ∙ sym (read_code w h.0)
  read_or_zero w (Err e) h = sym (read_none w h.0)

  -- what is written is read
  pub read_written : Laws f → (a : E) → read f (f.code a) ≡ a
  read_written laws a = read_code (f.code a) (laws.code_below a) ∙ laws.of_code a

  -- code 0 is zero's alone
  pub zero_from : Laws f → (a : E) → f.code a ≡ 0 → a ≡ f.zero
  zero_from laws a e = sym (laws.of_code a) ∙ ap f.of (e ∙ sym laws.zero_code) ∙ laws.of_code f.zero
