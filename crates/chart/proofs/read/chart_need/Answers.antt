use Rattle.std.proofs.Common.{◌≡◌, ℕ, ◌+◌, ◌-◌, ◌*◌, ◌/◌, ap, arith}
use Rattle.chart.specs.Place.{tri}
use Rattle.chart.proofs.Places.{tri-is}
use Rattle.chart.proofs.read.chart_need.Goals as goal

pub returns : goal.returns
returns c =
    let k : ℕ = c.args.count in
    let e : (k + 1) - 1 ≡ k = omega arith in
    let t : (k + 1) * k / 2 ≡ tri (k + 1) = rw e at (tri-is (k + 1) (omega arith)) in
    ap (λ (x : ℕ). x * c.args.n) t
