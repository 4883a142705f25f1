use Rattle.std.proofs.Common.{◌≡◌, ℕ, ◌*◌, ◌^◌, ◌<◌, ◌≤◌, length, sym, ap, ◌∙◌, subst, arith}
use Rattle.code.specs.Code.{laid}
use Rattle.rack.specs.Filled.{filled}
use Rattle.shape.specs.Listing.{outages}
use Rattle.shape.specs.Outages.{among}
use Rattle.vault_calls.specs.Steps.{written_below, StaysLent}
use Rattle.vault_calls.proofs.Lending.{lent_same, lent_joined}
use Rattle.vault_calls.proofs.Scattering.{written_none, written_skip, written_more}
use Rattle.vault_calls.proofs.fitted.Fitted.write_listed.Goals as goal
use Rattle.vault_calls.proofs.fitted.Fitted.write_listed.Goals.{then-contains+in_ok-write_node, else-contains}

pub loop-i-preserved : goal.loop-i-preserved
loop-i-preserved g c =
    let model = g.R.Rack.model in
    let m0 = model c.args.self.now.rack.now in
    let m = model c.loop-i.self.rack.now in
    let i = c.loop-i.i in
    let w = laid (c.args.self.now.shape.q ^ c.args.self.now.shape.t) c.args.space.now in
    let test = among (outages c.args.list.now) in
    let inv = c.loop-i.invariant in
    elim c.if-contains.branch [
      | then-contains+in_ok-write_node x ↦ (
        ap (λ s. model s.rack.now) x.self-is ∙ written_more m0 m test w i inv.0 (sym c.contains.ensures ∙ x.if-contains.true) (model x.write_node.new.self.rack.now)
            (x.write_node.ensures.after ∙ ap (λ s. filled m i (laid (s.q ^ s.t) c.args.space.now i)) inv.1.same_shape),
        subst (λ s. StaysLent g.R.Rack.kept c.args.self.now.shape c.args.self.now.rack s.shape s.rack) (sym x.self-is) (lent_joined g.met.R.Rack.keeping inv.1 x.write_node.ensures.stays),
      )
      | else-contains x ↦ (
        ap (λ s. model s.rack.now) x.self-is ∙ written_skip m0 m test w i inv.0 (sym c.contains.ensures ∙ x.if-contains.false),
        subst (λ s. StaysLent g.R.Rack.kept c.args.self.now.shape c.args.self.now.rack s.shape s.rack) (sym x.self-is) inv.1,
      )
    ]

pub write_node-requires : goal.write_node-requires
write_node-requires g c =
    let same = c.loop-i.invariant.1.same_shape in
    record {
      node = subst (λ s. c.loop-i.i < s.q * s.t) (sym same) (omega (arith, c.nodes-i-end.ensures, c.loop-i-test.true));
      room = subst (λ s. s.q * s.t * s.q ^ s.t ≤ length c.args.space.now) (sym same) c.requires;
    }

pub loop-i-init : goal.loop-i-init
loop-i-init g c = (
  written_none (g.R.Rack.model c.args.self.now.rack.now) (among (outages c.args.list.now)) (laid (c.args.self.now.shape.q ^ c.args.self.now.shape.t) c.args.space.now),
  lent_same g.met.R.Rack.keeping _ _,
)

pub returns-clause-after : goal.returns-clause-after
returns-clause-after g c =
    let n : ℕ = c.args.self.now.shape.q * c.args.self.now.shape.t in
    let m = g.R.Rack.model c.args.self.now.rack.now in
    let w = laid (c.args.self.now.shape.q ^ c.args.self.now.shape.t) c.args.space.now in
    let end : c.loop-i.i ≡ n = omega (arith, c.nodes-i-end.ensures, c.loop-i.auto.i-end, c.loop-i-test.false) in
    c.loop-i.invariant.0 ∙ ap (λ x. written_below m (among (outages c.args.list.now)) w x) end
