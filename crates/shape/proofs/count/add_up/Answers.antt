use Rattle.std.proofs.Common.{◌+◌, refl, arith}
use Rattle.shape.proofs.count.add_up.Goals as goal

pub returns : goal.returns
returns g c =
    let x = c.count-in-Three.result in
    let y = c.count-in-Three-2.result in
    let z = c.count-in-Three-3.result in
    rw c.in-Three.is (
      x,
      y + z,
      c.count-in-Three.ensures,
      (y, z, c.count-in-Three-2.ensures, (z, 0, c.count-in-Three-3.ensures, refl, omega arith), refl),
      omega arith,
    )
