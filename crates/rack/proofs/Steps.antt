-- The steps of loops over the places of a node, over models alone. Assumes nothing.
use Rattle.std.proofs.Common.{◌≡◌, ℕ, ◌+◌, ◌<◌, Ok, arith}
use Rattle.std.proofs.lemmas.Grind.{common_steps}
use Rattle.rack.specs.Model.{Model, with_word, with_draw, got, after_get, after_put}
use Rattle.rack.specs.Filled.{with_words, with_draws}

-- a word more, and a draw more, of a node whether it is there or not
pub with_more : (m : Model) (i n : ℕ) (f : ℕ → ℕ) → with_word (with_words m i f n) i n (f n) ≡ with_words m i f (n + 1)
with_more m i n f = grind (arith, common_steps)

pub drawn_more : (m : Model) (i n : ℕ) → with_draw (with_draws m i n) i ≡ with_draws m i (n + 1)
drawn_more m i n = grind (arith, common_steps)

-- one word more of a node that is there; x is the rack with the first p words written
pub words_more : (m : Model) (i p : ℕ) → i < m.nodes → p < m.places → (f : ℕ → ℕ) (x : Model) → x ≡ with_words m i f p → (y : Model) → y ≡ after_put x i p (f p) → y ≡ with_words m i f (p + 1)
words_more m i p hi hp f x at y left = grind (arith, common_steps)

-- x is the rack drawn n times at node i, and one word more was got there
module _ (m : Model) (i n : ℕ) (x : Model) (at : x ≡ with_draws m i n) (p w : ℕ) (was : Ok w ≡ got x i p) where
  -- the word that is drawn
  pub draws_word : w ≡ m.words i p
  draws_word = grind (arith, common_steps)

  -- one draw more
  pub draws_more : (y : Model) → y ≡ after_get x i p → y ≡ with_draws m i (n + 1)
  draws_more y left = grind (arith, common_steps)
