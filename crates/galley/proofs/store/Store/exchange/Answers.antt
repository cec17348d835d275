use Rattle.std.proofs.Common.{arith}
use Rattle.galley.proofs.Splicing.{exchanged}
use Rattle.galley.proofs.store.Store.exchange.Goals as goal

pub returns-clause-front : goal.returns-clause-front
returns-clause-front g c =
    let s = c.args.self.now in
    exchanged s.memory.now c.copy_within.new.self c.args.new.now s.used c.args.gone.at
    c.args.gone.count _ c.requires.within s.fit c.requires.fits (omega arith) c.copy_within.ensures.after
    c.copy_from_slice.new.self c.copy_from_slice.ensures.after
