-- A text as long as the limit.
use Rattle.std.proofs.Common.{ℕ, zero, suc, ◌<◌, Bool, true, false, List, ◌∷◌, replicate, refl, arith}
use Rattle.std.proofs.lemmas.Bool.{both_ways}
use Rattle.tree.specs.declared.piece.PieceRecord.{PieceRecord}
use Rattle.layout.proofs.Widths.{text_wide}
use Rattle.spacing.specs.Laws.{Longest}
use Rattle.spacing.specs.Spacing.{Apart, Limits}
use Rattle.spacing.proofs.Short.{apart_short}

-- 32 bytes in column 63
abbrev widest : Bool → PieceRecord
widest opens = record { length = 32; terminal = 0; column = 63; opens_line = opens }

-- 128 of them, each on a line of its own
abbrev pieces : List PieceRecord
pieces = widest false ∷ replicate 127 (widest true)

-- all of them names
abbrev bytes : List ℕ
bytes = replicate 4096 97

lines_apart : (n cursor : ℕ) → 0 < cursor → Apart cursor (replicate n (widest true))
lines_apart zero cursor some = tt
lines_apart (suc n) cursor some =
    (omega arith, (λ e. absurd (both_ways true e refl)), (λ e. absurd (omega arith)), lines_apart n 96 (omega arith))

pieces_apart : Apart 0 pieces
pieces_apart = (omega arith, (λ e. omega arith), (λ e. refl), lines_apart 127 96 (omega arith))

pieces-limited : Limits bytes pieces
pieces-limited = record { alone = refl; whole = refl; few = omega arith; short = omega arith }

pub longest-is : Longest 12288
longest-is = (
  (λ ps bs apart limits. apart_short ps bs apart limits.few limits.short limits.whole),
  (pieces, bytes, pieces_apart, pieces-limited, text_wide 0 pieces bytes (omega arith)),
)
