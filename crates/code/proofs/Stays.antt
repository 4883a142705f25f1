-- Arrays that stay over the same words. Assumes nothing.
use Rattle.std.proofs.Common.{◌≡◌, ℕ, ◌*◌, ◌^◌, Bool, ap, ◌∙◌, subst, ap₂}
use Rattle.field.specs.Field.{Arith}
use Rattle.shape.specs.declared.dimensions.Shape.{Shape}
use Rattle.code.specs.declared.array.Array.{Array}
use Rattle.code.specs.declared.array.ArrayMut.{ArrayMut}
use Rattle.code.specs.Arrays.{Stays, symbols_of, symbols_in}
use Rattle.code.specs.Calls.{Tells}
use Rattle.code.specs.Code.{Checks}
use Rattle.code.specs.Reading.{symbols}
use Rattle.code.specs.Steps.{Sound}
use Rattle.code.specs.Theorems.{Agree}
use Rattle.code.proofs.Writes.{sound_both}

module _ {F E : Type 0} (f : Arith E) where
  pub stays_both : (a b c : ArrayMut F) → Stays f a b → Stays f b c → Stays f a c
  stays_both a b c h k = record {
    same_words = k.same_words ∙ h.same_words;
    same_shape = k.same_shape ∙ h.same_shape;
    sound = sound_both f _ a.words.now b.words.now c.words.now h.sound
        (subst (λ (s : Shape). Sound f (s.q * s.t * s.q ^ s.t) b.words.now c.words.now) h.same_shape k.sound);
  }

  -- a view has the array's symbols
  pub seen : (v : Array F) (a : ArrayMut F) → v.shape ≡ a.shape → v.words.now ≡ a.words.now → symbols_of f v ≡ symbols_in f a
  seen v a e h = ap₂ (λ (s : Shape) ws. symbols f (s.q ^ s.t) ws) e h

  -- what is said of a view, at the shape that its array has
  pub told_at : (v : Array F) (a : ArrayMut F) (s : Shape) (r : Bool) → v.shape ≡ a.shape → v.words.now ≡ a.words.now → a.shape ≡ s
      → Tells r (Checks f v.shape.q v.shape.t v.shape.q (symbols_of f v)) → Tells r (Checks f s.q s.t s.q (symbols f (s.q ^ s.t) a.words.now))
  told_at v a s r e h at t = subst (λ us. Tells r (Checks f s.q s.t s.q (symbols f (s.q ^ s.t) us))) h (subst (λ (z : Shape). Tells r (Checks f z.q z.t z.q (symbols f (z.q ^ z.t) v.words.now))) (e ∙ at) t)

  -- what is said of an array and of what it was, at the shape that both have
  module _ (s : Shape) (a b : ArrayMut F) (at : a.shape ≡ s) (stays : Stays f a b) where
    pub sound_at : Sound f (s.q * s.t * s.q ^ s.t) a.words.now b.words.now
    sound_at = subst (λ (z : Shape). Sound f (z.q * z.t * z.q ^ z.t) a.words.now b.words.now) at stays.sound

    same : symbols_in f b ≡ symbols f (s.q ^ s.t) b.words.now
    same = ap (λ (z : Shape). symbols f (z.q ^ z.t) b.words.now) (stays.same_shape ∙ at)

    pub checks_at : (n : ℕ) → Checks f a.shape.q a.shape.t n (symbols_in f b) → Checks f s.q s.t n (symbols f (s.q ^ s.t) b.words.now)
    checks_at n h = subst (λ B. Checks f s.q s.t n B) same (subst (λ (z : Shape). Checks f z.q z.t n (symbols_in f b)) at h)

    pub agree_at : (erased : ℕ → Bool) → Agree f a.shape.q a.shape.t erased (symbols_in f b) (symbols_in f a)
        → Agree f s.q s.t erased (symbols f (s.q ^ s.t) b.words.now) (symbols f (s.q ^ s.t) a.words.now)
    agree_at erased h = subst (λ B. Agree f s.q s.t erased B (symbols f (s.q ^ s.t) a.words.now)) same
        (subst (λ (z : Shape). Agree f z.q z.t erased (symbols_in f b) (symbols f (z.q ^ z.t) a.words.now)) at h)
