use Rattle.std.proofs.Common.{map}
use Rattle.rulefile.specs.Loaded.{read}
use Rattle.rulefile.specs.Parts.{parts}
use Rattle.rulefile.specs.Reading.{row_of}
use Rattle.rulefile.proofs.Built.{Goes}
use Rattle.rulefile.proofs.header.Header.build.Given as goal

-- with the lines that are left, the tables come to hold what all lines mean
abbrev pub invariant-loop-line : goal.invariant-loop-line
invariant-loop-line l =
    let row = row_of l.self.names.now in
    Goes (read (map row (parts 10 l.lines))) l.table
    (read (map row (parts l.line-iterator.separator l.line-iterator.rest.now)))
