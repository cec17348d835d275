-- Bytes that are written behind others.
use Rattle.std.proofs.Common.{◌≡◌, ℕ, ◌+◌, ◌-◌, ◌≤◌, List, ◌++◌, length, take, drop, ap, ◌∙◌, arith}
use borrow.Rule.Slice.PartMut.{put_mid}
use Rattle.std.proofs.lemmas.List.{length-drop, length-append, length-take-le}
use Rattle.std.proofs.lemmas.Slice.{take-put_mid, drop-put_mid}

pub part-long : {X : Type 0} (out : List X) (i n : ℕ) → i + n ≤ length out → length (take (i + n - i) (drop i out)) ≡ n
part-long out i n fits =
    let d = length-drop i out in
    let t = length-take-le (i + n - i) (drop i out) (omega arith) in
    omega arith

module _ {X : Type 0} (out wrote xs : List X) (i n : ℕ) (fits : i + n ≤ length out) (is : wrote ≡ xs) (long : length xs ≡ n) where
  wrote_long : length wrote ≡ n
  wrote_long = ap length is ∙ long

  pub many_front : take (i + n) (put_mid i (i + n - i) out wrote) ≡ take i out ++ xs
  many_front = let w = wrote_long in take-put_mid i (i + n - i) out wrote (i + n) (omega arith) (omega arith)
      ∙ ap (λ (ys : List X). take i out ++ ys) is

  pub many_rest : drop (i + n) (put_mid i (i + n - i) out wrote) ≡ drop (i + n) out
  many_rest = let w = wrote_long in drop-put_mid i (i + n - i) out wrote (i + n) (omega arith) (omega arith) (omega arith)

  pub many_room : length (put_mid i (i + n - i) out wrote) ≡ length out
  many_room =
      let w = wrote_long in
      let a = length-append (take i out) (wrote ++ drop (i + n - i) (drop i out)) in
      let b = length-append wrote (drop (i + n - i) (drop i out)) in
      let c = length-drop (i + n - i) (drop i out) in
      let d = length-drop i out in
      let e = length-take-le i out (omega arith) in
      omega arith
