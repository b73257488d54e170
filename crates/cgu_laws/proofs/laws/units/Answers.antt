use Rattle.cgu_laws.proofs.Sharing.{only_homes, one_home}
use Rattle.cgu_laws.proofs.Whole.{items_inside, items_once, callee_there}
use Rattle.cgu_laws.proofs.laws.units.Goals as goal

pub returns : goal.returns
returns c = record {
  homes = λ tree graph limit plans p x g units at h. one_home tree graph limit plans g units p x at h;
  only = λ tree graph limit plans k p g units h. only_homes tree graph limit plans g units k p h;
  callees = λ tree graph limit plans k p t plan g units at own called. callee_there tree graph limit plans g units k plan at p t called own;
  once = λ tree graph limit plans k plan g units at. items_once tree graph limit plans g units k plan at;
  inside = λ tree graph limit plans k p plan g units at own. items_inside tree graph limit plans g units k plan at p own;
}
