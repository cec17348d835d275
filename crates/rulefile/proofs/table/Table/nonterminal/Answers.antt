use Rattle.std.proofs.Common.{refl}
use Rattle.rulefile.specs.Spelled.{spelled}
use Rattle.rulefile.specs.Places.{same_name}
use Rattle.rulefile.specs.Symbols.{name-gives}
use Rattle.rulefile.proofs.Numbered.{numbers-seen}
use Rattle.rulefile.proofs.table.Table.nonterminal.Goals as goal

pub returns : goal.returns
returns c =
    name-gives c.args.self.now _ (spelled c.args.name) c.number.result
    (numbers-seen spelled same_name _ (λ x y. refl) 16 c.args.self.now.names.items c.args.name c.number.result c.number.new.known.items
    c.number.ensures.numbered)
    refl refl
