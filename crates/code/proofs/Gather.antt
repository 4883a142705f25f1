-- A system of a few nodes among n, gathered. Assumes nothing.
use Rattle.std.proofs.Common.{◌≡◌, ℕ, zero, suc, ◌<◌, true, false, cond, eqb, ◌⊎◌, List, [], ◌∷◌, length, get_or, sym, refl, ap, ◌∙◌, ap₂, inl, inr, arith}
use Rattle.std.proofs.lemmas.Bool.{cases_Bool, cases_eq, eq-eqb, ne_eqb, cond-true, cond-false}
use Rattle.field.specs.Field.{Arith, Laws}
use Rattle.code.specs.Code.{power, total, moment}
use Rattle.shape.specs.Outages.{among, Distinct}
use Rattle.shape.proofs.Among.{among_first, among_rest}
use Rattle.code.proofs.Ring.{zero_sum, product_zero}
use Rattle.code.proofs.Sums.{total_same, total_zero, total_sum, moment_same, moment_sum}

module _ {E : Type 0} (f : Arith E) (laws : Laws f) where
  open f use {sum as ◌⊕◌, product as ◌⊗◌, zero as 𝟎}

  infixl 60 ◌⊕◌
  infixl 70 ◌⊗◌
  -- the first term of a sum
  total_front : (g : ℕ → E) (n : ℕ) → total f g (suc n) ≡ g 0 ⊕ total f (λ i. g (suc i)) n
  unfolding total
  total_front g zero = laws.sum_comm 𝟎 (g 0)
  total_front g (suc n) = ap (λ v. v ⊕ g (suc n)) (total_front g n) ∙ laws.sum_assoc (g 0) (total f (λ i. g (suc i)) n) (g (suc n))

  -- a sum with one term
  total_one : (g : ℕ → E) (j n : ℕ) → j < n → total f (λ i. cond (eqb i j) (g i) 𝟎) n ≡ g j
  total_one g j zero l = absurd (omega arith)
  total_one g j (suc n) l = go (cases_eq n j) (λ k. total_one g j n k)
    where
      h : ℕ → E
      h i = cond (eqb i j) (g i) 𝟎

      more : total f h (suc n) ≡ total f h n ⊕ h n
      more = unfold total in refl

      go : (n ≡ j) ⊎ (n ≡ j → ⊥) → (j < n → total f h n ≡ g j) → total f h (suc n) ≡ g j
      go (inl e) below =
          more
          ∙ ap₂ ◌⊕◌ (total_zero f laws h n (λ i li. cond-false (eqb i j) (g i) 𝟎 (ne_eqb i j (λ k. omega arith)))) (cond-true (eqb n j) (g n) 𝟎 (eq-eqb n j e) ∙ ap g e)
          ∙ zero_sum f laws (g j)
      go (inr ne) below =
          more ∙ ap₂ ◌⊕◌ (below (omega arith)) (cond-false (eqb n j) (g n) 𝟎 (ne_eqb n j ne)) ∙ laws.sum_zero (g j)

  -- the sum over the nodes of a list
  pub total_among : (g : ℕ → E) (js : List ℕ) (n : ℕ) → Distinct js n → total f (λ i. cond (among js i) (g i) 𝟎) n ≡ total f (λ k. g (get_or js k 0)) (length js)
  total_among g [] n d = total_zero f laws (λ i. 𝟎) n (λ i l. refl) ∙ (unfold total in refl)
  total_among g (j ∷ js) n d =
      total_same f laws (λ i. cond (among (j ∷ js) i) (g i) 𝟎) (λ i. cond (eqb i j) (g i) 𝟎 ⊕ cond (among js i) (g i) 𝟎) n (λ i l. parts i (cases_eq i j))
      ∙ total_sum f laws (λ i. cond (eqb i j) (g i) 𝟎) (λ i. cond (among js i) (g i) 𝟎) n
      ∙ ap₂ ◌⊕◌ (total_one g j n d.0) (total_among g js n d.2)
      ∙ sym (total_front (λ k. g (get_or (j ∷ js) k 0)) (length js))
    where
      parts : (i : ℕ) → (i ≡ j) ⊎ (i ≡ j → ⊥) → cond (among (j ∷ js) i) (g i) 𝟎 ≡ cond (eqb i j) (g i) 𝟎 ⊕ cond (among js i) (g i) 𝟎
      parts i (inl e) =
          cond-true (among (j ∷ js) i) (g i) 𝟎 (among_first j js i e)
          ∙ sym (ap₂ ◌⊕◌ (cond-true (eqb i j) (g i) 𝟎 (eq-eqb i j e)) (cond-false (among js i) (g i) 𝟎 (ap (among js) e ∙ d.1)) ∙ laws.sum_zero (g i))
      parts i (inr ne) =
          ap (λ b. cond b (g i) 𝟎) (among_rest j js i ne)
          ∙ sym (ap (λ v. v ⊕ cond (among js i) (g i) 𝟎) (cond-false (eqb i j) (g i) 𝟎 (ne_eqb i j ne)) ∙ zero_sum f laws (cond (among js i) (g i) 𝟎))

  -- moments, split into those of the nodes of a list and the others
  pub moment_parts : (pt b x : ℕ → E) (js : List ℕ) (n e : ℕ) → Distinct js n
      → moment f pt (λ i. cond (among js i) (b i) (x i)) n e
      ≡ moment f (λ k. pt (get_or js k 0)) (λ k. b (get_or js k 0)) (length js) e ⊕ moment f pt (λ i. cond (among js i) 𝟎 (x i)) n e
  moment_parts pt b x js n e d =
      moment_same f laws pt (λ i. cond (among js i) (b i) (x i)) (λ i. cond (among js i) (b i) 𝟎 ⊕ cond (among js i) 𝟎 (x i)) n e (λ i l. parts i (cases_Bool (among js i)))
      ∙ moment_sum f laws pt (λ i. cond (among js i) (b i) 𝟎) (λ i. cond (among js i) 𝟎 (x i)) n e
      ∙ ap (λ v. v ⊕ moment f pt (λ i. cond (among js i) 𝟎 (x i)) n e) gathered
    where
      parts : (i : ℕ) → (among js i ≡ true) ⊎ (among js i ≡ false) → cond (among js i) (b i) (x i) ≡ cond (among js i) (b i) 𝟎 ⊕ cond (among js i) 𝟎 (x i)
      parts i (inl t) = cond-true (among js i) (b i) (x i) t ∙ sym (ap₂ ◌⊕◌ (cond-true (among js i) (b i) 𝟎 t) (cond-true (among js i) 𝟎 (x i) t) ∙ laws.sum_zero (b i))
      parts i (inr t) = cond-false (among js i) (b i) (x i) t ∙ sym (ap₂ ◌⊕◌ (cond-false (among js i) (b i) 𝟎 t) (cond-false (among js i) 𝟎 (x i) t) ∙ zero_sum f laws (x i))

      inside : (i : ℕ) → (among js i ≡ true) ⊎ (among js i ≡ false) → power f (pt i) e ⊗ cond (among js i) (b i) 𝟎 ≡ cond (among js i) (power f (pt i) e ⊗ b i) 𝟎
      inside i (inl t) = ap (λ v. power f (pt i) e ⊗ v) (cond-true (among js i) (b i) 𝟎 t) ∙ sym (cond-true (among js i) (power f (pt i) e ⊗ b i) 𝟎 t)
      inside i (inr t) = ap (λ v. power f (pt i) e ⊗ v) (cond-false (among js i) (b i) 𝟎 t) ∙ product_zero f laws (power f (pt i) e) ∙ sym (cond-false (among js i) (power f (pt i) e ⊗ b i) 𝟎 t)

      gathered : moment f pt (λ i. cond (among js i) (b i) 𝟎) n e ≡ moment f (λ k. pt (get_or js k 0)) (λ k. b (get_or js k 0)) (length js) e
      gathered =
          unfold moment in
          total_same f laws (λ i. power f (pt i) e ⊗ cond (among js i) (b i) 𝟎) (λ i. cond (among js i) (power f (pt i) e ⊗ b i) 𝟎) n (λ i l. inside i (cases_Bool (among js i)))
          ∙ total_among (λ i. power f (pt i) e ⊗ b i) js n d
