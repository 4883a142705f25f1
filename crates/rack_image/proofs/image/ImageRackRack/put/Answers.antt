use Rattle.std.proofs.Common.{◌≡◌, ◌/◌, ◌%◌, List, ℕ, get_or, refl, ap, ◌∙◌, arith}
use Rattle.std.proofs.lemmas.List.{length-set}
use Rattle.rack_image.proofs.ImageCalls.{word_after, word_formed}
use Rattle.rack_image.proofs.image.ImageRackRack.put.Goals as goal

low : (c : goal.After-to_le_bytes) → get_or c.to_le_bytes.result 0 0 ≡ c.args.word % 256
low c = ap (λ (b : List ℕ). get_or b 0 0) c.to_le_bytes.ensures

high : (c : goal.After-to_le_bytes) → get_or c.to_le_bytes.result 1 0 ≡ c.args.word / 256 % 256
high c = ap (λ (b : List ℕ). get_or b 1 0) c.to_le_bytes.ensures

pub returns-clause-after : goal.returns-clause-after
returns-clause-after c =
    let s = c.args.self.now in
    let start = c.in_ok-start.ensures in
    word_after s.places s.bytes.now s.meters c.args.node c.args.place _ _ _ _ start.0 start.1 (omega (arith, start.2)) (omega (arith, start.2)) c.args.word (omega (arith, low c, high c))

pub returns-clause-stays : goal.returns-clause-stays
returns-clause-stays c =
    let s = c.args.self.now in
    let start = c.in_ok-start.ensures in
    (refl, length-set _ _ _ ∙ length-set s.bytes.now _ _, refl, word_formed s.places s.bytes.now s.meters c.args.node c.args.place _ _ _ _ start.0 start.1 (omega (arith, start.2)) (omega (arith, start.2)) (omega (arith, low c)) (omega (arith, high c)))
