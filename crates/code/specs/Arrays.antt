-- What arrays hold, and what a write leaves of one. Assumes nothing.
use Rattle.std.specs.Prelude.{◌≡◌, ℕ, ◌*◌, ◌^◌}
use Rattle.field.specs.Field.{Arith}
use Rattle.code.specs.declared.array.Array.{Array}
use Rattle.code.specs.declared.array.ArrayMut.{ArrayMut}
use Rattle.code.specs.Code.{Words, laid}
use Rattle.code.specs.Reading.{symbols}
use Rattle.code.specs.Steps.{Sound}

module _ {F : Type 0} where
  -- the words of an array's nodes
  abbrev pub words_of : Array F → Words
  words_of a = laid (a.shape.q ^ a.shape.t) a.words.now

  -- those of an array that is written
  abbrev pub words_in : ArrayMut F → Words
  words_in a = laid (a.shape.q ^ a.shape.t) a.words.now

  module _ {E : Type 0} (f : Arith E) where
    -- the symbols of an array
    abbrev pub symbols_of : Array F → ℕ → ℕ → E
    symbols_of a = symbols f (a.shape.q ^ a.shape.t) a.words.now

    -- those of an array that is written
    abbrev pub symbols_in : ArrayMut F → ℕ → ℕ → E
    symbols_in a = symbols f (a.shape.q ^ a.shape.t) a.words.now

    -- an array is over the same words, of the same shape, and sound as before
    pub record Stays (before after : ArrayMut F) : Type 0 where
      pub same_words : after.words.ghost_name ≡ before.words.ghost_name
      pub same_shape : after.shape ≡ before.shape
      pub sound : Sound f (before.shape.q * before.shape.t * before.shape.q ^ before.shape.t) before.words.now after.words.now
