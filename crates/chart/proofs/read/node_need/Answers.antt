use Rattle.std.proofs.Common.{refl}
use Rattle.chart.specs.Place.{nodes_of}
use Rattle.chart.proofs.read.node_need.Goals as goal

pub returns : goal.returns
unfolding nodes_of
returns c = refl
