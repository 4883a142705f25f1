use Rattle.shape.specs.Listing.{outages}
use Rattle.shape.proofs.Among.{list_any_among}
use Rattle.shape.proofs.outages.OutageList.contains.Goals as goal

pub returns : goal.returns
returns c = cc (list_any_among (outages c.args.self.now) c.args.node)
