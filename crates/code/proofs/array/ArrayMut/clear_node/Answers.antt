use Rattle.std.proofs.Common.{◌≡◌, ◌+◌, ◌-◌, ◌*◌, ◌^◌, replicate, sym, refl, ap, ◌∙◌, subst, ap₂, drop, length-drop, arith}
use Rattle.std.proofs.lemmas.List.{length-take-le}
use borrow.Rule.Slice.PartMut.{put_mid}
use Rattle.code.specs.Code.{laid}
use Rattle.code.specs.Steps.{NodeCleared, Sound}
use Rattle.code.proofs.Clearing.{node_cleared, clear_sound}
use Rattle.code.proofs.Places.{node_within}
use Rattle.code.proofs.array.ArrayMut.clear_node.Goals as goal

pub slice_bounds-fill-end : goal.slice_bounds-fill-end
slice_bounds-fill-end g c =
    let s = c.args.self.now.shape in
    let e : c.args.node * c.places-places.result ≡ c.args.node * s.q ^ s.t = cc in
    let w = node_within (s.q * s.t) (s.q ^ s.t) c.args.node c.requires in
    let r = c.args.self.now.room in
    omega arith

-- the words of the node, set to 0
zeros : (g : _) (c : goal.After-self-2-1 g) → c.fill.new.self ≡ replicate (c.args.self.now.shape.q ^ c.args.self.now.shape.t) 0
zeros g c =
    let s = c.args.self.now.shape in
    let ws = c.args.self.now.words.now in
    let start : c.args.node * c.places-places.result ≡ c.args.node * s.q ^ s.t = cc in
    let w = node_within (s.q * s.t) (s.q ^ s.t) c.args.node c.requires in
    let r = c.args.self.now.room in
    let long : c.args.node * c.places-places.result + c.places-places.result - c.args.node * c.places-places.result ≡ s.q ^ s.t = omega arith in
    c.fill.ensures.after (λ y h. h)
    ∙ ap (λ n. replicate n 0) (length-take-le _ (drop (c.args.node * c.places-places.result) ws) (omega (arith, length-drop (c.args.node * c.places-places.result) ws)) ∙ long)

pub returns-clause-cleared : goal.returns-clause-cleared
returns-clause-cleared g c =
    let s = c.args.self.now.shape in
    let P = s.q ^ s.t in
    let ws = c.args.self.now.words.now in
    let start : c.args.node * c.places-places.result ≡ c.args.node * P = cc in
    let long : c.args.node * c.places-places.result + c.places-places.result - c.args.node * c.places-places.result ≡ P = omega arith in
    subst (λ us. NodeCleared P c.args.node P (laid P ws) (laid P us)) (sym (ap₂ (λ a k. put_mid a k ws c.fill.new.self) start long))
    (node_cleared (s.q * s.t) P c.args.node ws c.fill.new.self c.requires c.args.self.now.room (zeros g c))

pub returns-clause-stays : goal.returns-clause-stays
returns-clause-stays g c =
    let s = c.args.self.now.shape in
    let P = s.q ^ s.t in
    let ws = c.args.self.now.words.now in
    let start : c.args.node * c.places-places.result ≡ c.args.node * P = cc in
    let long : c.args.node * c.places-places.result + c.places-places.result - c.args.node * c.places-places.result ≡ P = omega arith in
    let f = g.F.Field.arith in
    record {
      same_words = refl;
      same_shape = refl;
      sound = subst (λ us. Sound f (s.q * s.t * P) ws us) (sym (ap₂ (λ a k. put_mid a k ws c.fill.new.self) start long))
          (clear_sound (s.q * s.t) P c.args.node ws c.fill.new.self c.requires c.args.self.now.room (zeros g c) f g.met.F.Field.lawful);
    }
