use Rattle.std.proofs.Common.{ℕ, ◌+◌, ◌/◌, ◌^◌, sym, ap, ◌∙◌, below_more, arith}
use Rattle.shape.proofs.Bounds.{shaped, message_bound, places_positive}
use Rattle.shape.proofs.Every.{every_from, every_missed}
use Rattle.vault_calls.proofs.Fetching.{word_within}
use Rattle.vault_calls.proofs.Listing.{standing_flag}
use Rattle.vault_calls.proofs.Refusing.{right_size}
use Rattle.vault_calls.proofs.fitted.Fitted.all_stand.Goals as goal

pub overflow_add-start : goal.overflow_add-start
overflow_add-start g c = let small = message_bound (shaped c.args.self.now.shape) in omega arith

pub loop-j-preserved : goal.loop-j-preserved
loop-j-preserved g c =
    let q = c.args.self.now.shape.q in
    let t = c.args.self.now.shape.t in
    let m = g.R.Rack.model c.args.self.now.rack.now in
    let node : ℕ = (c.args.start + c.loop-j.j) / c.places-places.result in
    let within = word_within q t m.nodes c.args.start c.args.len c.loop-j.j c.places-places.result (right_size q t m c.args.self.now.sized).0 c.requires (places_positive (shaped c.args.self.now.shape)) c.loop-j-test.true c.places-places.ensures in
    below_more _ _ c.loop-j.invariant (sym (standing_flag m node within) ∙ sym c.stands.ensures ∙ c.if-not-stands.false)

pub returns-then-not-stands : goal.returns-then-not-stands
returns-then-not-stands g c =
    let q = c.args.self.now.shape.q in
    let t = c.args.self.now.shape.t in
    let m = g.R.Rack.model c.args.self.now.rack.now in
    let node : ℕ = (c.args.start + c.loop-j.j) / c.places-places.result in
    let within = word_within q t m.nodes c.args.start c.args.len c.loop-j.j c.places-places.result (right_size q t m c.args.self.now.sized).0 c.requires (places_positive (shaped c.args.self.now.shape)) c.loop-j-test.true c.places-places.ensures in
    sym (every_missed (λ j. m.flags ((c.args.start + j) / q ^ t)) c.args.len c.loop-j.j c.loop-j-test.true
    (ap (λ P. m.flags ((c.args.start + c.loop-j.j) / P)) (sym c.places-places.ensures) ∙ sym (standing_flag m node within) ∙ sym c.stands.ensures ∙ c.if-not-stands.true))

pub returns : goal.returns
returns g c =
    let m = g.R.Rack.model c.args.self.now.rack.now in
    sym (every_from (λ j. m.flags ((c.args.start + j) / c.args.self.now.shape.q ^ c.args.self.now.shape.t)) c.args.len
    (λ j l. ap (λ P. m.flags ((c.args.start + j) / P)) (sym c.places-places.ensures) ∙ c.loop-j.invariant j (omega arith)))
