-- What holds of the list that an `OutageList` is. Assumes nothing.
use Rattle.std.proofs.Common.{◌≡◌, ℕ, ◌<◌, ◌≤◌, true, [], ◌∷◌, ◌++◌, length, arith}
use Rattle.std.proofs.lemmas.List.{length_push, length-take-le}
use Rattle.shape.specs.declared.outages.OutageList.{OutageList}
use Rattle.shape.specs.Listing.{outages}
use Rattle.shape.specs.Outages.{rising}
use Rattle.shape.proofs.Rising.{rising_length}

module _ (l : OutageList) where
  pub outages_rise : rising l.count (outages l) ≡ true
  outages_rise = l.rises

  pub outages_length : length (outages l) ≤ l.count
  outages_length = rising_length l.count (outages l) outages_rise

  -- a list that takes one number more has room for it
  pub outages_room : (x : ℕ) → l.len ≤ length l.numbers → rising l.count (outages l ++ x ∷ []) ≡ true → l.len < 16
  outages_room x h e =
      let a = length-take-le l.len l.numbers h in
      let b = length_push (outages l) x in
      omega (arith, l.few, rising_length l.count (outages l ++ x ∷ []) e)
