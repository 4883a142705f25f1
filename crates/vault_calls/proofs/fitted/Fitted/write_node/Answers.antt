use Rattle.std.proofs.Common.{ℕ, ◌*◌, length, ap, ◌∙◌, arith}
use Rattle.code.specs.Code.{laid}
use Rattle.rack.specs.Filled.{filled}
use Rattle.vault_calls.proofs.Refusing.{right_size}
use Rattle.vault_calls.proofs.Scattering.{row_room, row_filled}
use Rattle.vault_calls.proofs.fitted.Fitted.write_node.Goals as goal

pub slice_bounds-row-end : goal.slice_bounds-row-end
slice_bounds-row-end g c =
    let n : ℕ = c.args.self.now.shape.q * c.args.self.now.shape.t in
    row_room n c.places-places.result c.args.node (length c.args.space.now) c.requires.node (omega (arith, ap (λ x. n * x) c.places-places.ensures, c.requires.room))

pub returns-clause-after : goal.returns-clause-after
returns-clause-after g c =
    let m = g.R.Rack.model c.args.self.now.rack.now in
    let i = c.args.node in
    let s = c.args.space.now in
    let n : ℕ = c.args.self.now.shape.q * c.args.self.now.shape.t in
    let P : ℕ = c.places-places.result in
    let size = right_size c.args.self.now.shape.q c.args.self.now.shape.t m c.args.self.now.sized in
    let room = row_room n P i (length s) c.requires.node (omega (arith, ap (λ x. n * x) c.places-places.ensures, c.requires.room)) in
    c.fill_node.ensures.after ∙ row_filled m P i s room (omega (arith, size.0, c.requires.node)) (omega (arith, size.1, c.places-places.ensures)) ∙ ap (λ x. filled m i (laid x s i)) c.places-places.ensures
