use Rattle.std.proofs.Common.{◌≡◌, ◌+◌, ◌≤◌, length}
use Rattle.std.specs.List.{list_all}
use Rattle.rulefile.specs.Parts.{parts, values, filled}
use Rattle.rulefile.proofs.parts.has_seven_values.Given as goal

-- so many values were filled, and those that are left decide of the others
abbrev pub invariant-loop-value : goal.invariant-loop-value
invariant-loop-value l =
    let left = parts l.value-iterator.separator l.value-iterator.rest.now in
    (l.count ≤ 7) × (length (values l.line) ≡ l.count + length left) × (list_all filled (values l.line) ≡ list_all filled left)
