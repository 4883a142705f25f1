use Rattle.std.proofs.Common.{◌*◌, ◌^◌, ◌∙◌, arith}
use Rattle.code.proofs.Codes.{front_codes}
use Rattle.code.proofs.array.Array.all_codes.Goals as goal

pub returns : goal.returns
returns g c =
    let s = c.args.self.now.shape in
    let r = c.args.self.now.room in
    c.all_codes.ensures ∙ front_codes g.F.Field.arith c.args.self.now.words.now (s.q * s.t * s.q ^ s.t) _ r (omega arith)
