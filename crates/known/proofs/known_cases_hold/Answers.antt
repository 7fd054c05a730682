use Rattle.known.proofs.Values.{two_inverse, beyond, least, weighs, pushes, pushes_twice, by_factor, nothing}
use Rattle.known.proofs.Groupings.{equivalents, separate}
use Rattle.known.proofs.known_cases_hold.Goals as goal

pub returns : goal.returns
returns c = (two_inverse, (beyond, (least, (weighs, (pushes, (pushes_twice, (by_factor, (equivalents, (separate, (nothing, tt))))))))))
