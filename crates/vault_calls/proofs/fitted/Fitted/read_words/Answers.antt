use Rattle.std.proofs.Common.{◌≡◌, ℕ, ◌+◌, ◌/◌, ◌%◌, ◌<◌, length, sym, refl, ◌∙◌, arith}
use Rattle.shape.proofs.Bounds.{shaped, message_bound, places_positive}
use Rattle.vault_calls.proofs.Fetching.{read_none, read_word, read_step, buffer_more, not_refused, read_end, words_end}
use Rattle.vault_calls.proofs.Lending.{lent_same, lent_joined}
use Rattle.vault_calls.proofs.Refusing.{right_size}
use Rattle.vault_calls.proofs.fitted.Fitted.read_words.Goals as goal

pub loop-j-init : goal.loop-j-init
loop-j-init g c = (
  read_none (g.R.Rack.model c.args.self.now.rack.now) c.args.start c.places-places.result,
  (λ k l. absurd (omega arith)),
  lent_same g.met.R.Rack.keeping _ _,
)

pub overflow_add-start : goal.overflow_add-start
overflow_add-start g c = let small = message_bound (shaped c.args.self.now.shape) in omega arith

pub overflow_add-start-in-loop-j : goal.overflow_add-start-in-loop-j
overflow_add-start-in-loop-j g c = let small = message_bound (shaped c.args.self.now.shape) in omega arith

pub returns-in_err-word : goal.returns-in_err-word
returns-in_err-word g c =
    let q = c.args.self.now.shape.q in
    let t = c.args.self.now.shape.t in
    let model = g.R.Rack.model in
    let m0 = model c.args.self.now.rack.now in
    absurd
    (not_refused q t c.args.start (length c.args.buffer.now) c.loop-j.j c.places-places.result m0 (model c.loop-j.self.rack.now) (right_size q t m0 c.args.self.now.sized) c.requires.inside (places_positive (shaped c.args.self.now.shape)) c.loop-j-test.true
    c.places-places.ensures c.loop-j.invariant.0 c.requires.stand _ (sym c.in_err-word.was ∙ c.get.ensures.answer))

pub loop-j-preserved : goal.loop-j-preserved
loop-j-preserved g c =
    let model = g.R.Rack.model in
    let m0 = model c.args.self.now.rack.now in
    let m = model c.loop-j.self.rack.now in
    let start = c.args.start in
    let P : ℕ = c.places-places.result in
    let j = c.loop-j.j in
    let w = c.in_ok-word.field-0 in
    let word = sym c.in_ok-word.was ∙ c.get.ensures.answer in
    let room : j < length c.loop-j.buffer = omega (arith, c.loop-j-test.true, c.loop-j.auto.buffer) in (
      read_step m0 m start P j c.loop-j.invariant.0 w word (model c.get.new.self) c.get.ensures.after,
      buffer_more c.loop-j.buffer j w (λ k. m0.words ((start + k) / P) ((start + k) % P)) room c.loop-j.invariant.1 (read_word m0 m start P j c.loop-j.invariant.0 w word),
      lent_joined g.met.R.Rack.keeping c.loop-j.invariant.2 (record { same_shape = refl; same_rack = refl; stays = c.get.ensures.stays }),
    )

pub nonzero_div-start : goal.nonzero_div-start
nonzero_div-start g c = omega (arith, places_positive (shaped c.args.self.now.shape), c.places-places.ensures)

pub nonzero_rem-start : goal.nonzero_rem-start
nonzero_rem-start g c = omega (arith, places_positive (shaped c.args.self.now.shape), c.places-places.ensures)

pub returns : goal.returns
returns g c =
    let q = c.args.self.now.shape.q in
    let t = c.args.self.now.shape.t in
    let m0 = g.R.Rack.model c.args.self.now.rack.now in
    let len = length c.args.buffer.now in
    let end : c.loop-j.j ≡ len = omega (arith, c.loop-j.auto.j-end, c.loop-j-test.false) in
    record {
      accepted = refl;
      after = read_end q t c.args.start len c.places-places.result c.loop-j.j m0 (g.R.Rack.model c.loop-j.self.rack.now) c.places-places.ensures end c.loop-j.invariant.0;
      words = words_end q t c.args.start len c.places-places.result c.loop-j.j m0 c.loop-j.buffer c.places-places.ensures end c.loop-j.invariant.1;
      stays = c.loop-j.invariant.2;
    }
