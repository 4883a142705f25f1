use Rattle.std.proofs.Common.{◌<◌, not, sym, ap, ◌∙◌, subst}
use Rattle.vault_calls.proofs.Listing.{listed_same, standing_flag}
use Rattle.vault_calls.proofs.Refusing.{right_size}
use Rattle.vault_calls.proofs.small.tell.Goals as goal

pub returns : goal.returns
returns g c =
    let m = g.R.Rack.model c.args.rack.now in
    let fits = c.in_ok-fits.ensures in
    let size = right_size c.args.shape.q c.args.shape.t m fits in (
      fits,
      c.outages.ensures.count,
      c.outages.ensures.list ∙ listed_same _ _ _ (λ i l. ap not (standing_flag m i (subst (λ n. i < n) (sym size.0) l))),
    )
