-- Pieces whose bytes are joined without gaps.
use Rattle.std.proofs.Common.{◌≡◌, ℕ, true, List, [], ◌∷◌, ◌++◌, map, length, take, drop, refl, ap, ◌∙◌}
use Rattle.std.specs.List.{flat_map, AllByRecursion}
use Rattle.std.proofs.lemmas.List.{take_at, drop_at}
use Rattle.std.proofs.lemmas.Bool.{and_from}
use Rattle.pieces.specs.Alone.{one_piece}
use Rattle.tree.specs.declared.piece.PieceRecord.{PieceRecord}
use Rattle.tree.specs.Pieces.{all_one_piece}

-- each is one piece, and its record has its length
pub joined_alone : {X : Type 0} (bytes : X → List ℕ) (record_of : X → PieceRecord) (xs : List X)
    → AllByRecursion (λ x. length (bytes x) ≡ (record_of x).length) xs → AllByRecursion (λ x. one_piece (bytes x) ≡ true) xs
    → all_one_piece (flat_map bytes xs) (map record_of xs) ≡ true
joined_alone bytes record_of [] long one = refl
joined_alone bytes record_of (x ∷ xs) long one =
    let n = (record_of x).length in
    let t : take n (bytes x ++ flat_map bytes xs) ≡ bytes x = take_at (bytes x) (flat_map bytes xs) n long.0 in
    let d : drop n (bytes x ++ flat_map bytes xs) ≡ flat_map bytes xs = drop_at (bytes x) (flat_map bytes xs) n long.0 in
    let first = ap one_piece t ∙ one.0 in
    let rest = ap (λ (bs : List ℕ). all_one_piece bs (map record_of xs)) d ∙ joined_alone bytes record_of xs long.1 one.1 in
    and_from (one_piece (take n (bytes x ++ flat_map bytes xs))) (all_one_piece (drop n (bytes x ++ flat_map bytes xs)) (map record_of xs))
    first rest
