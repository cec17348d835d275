-- Taking over the tokens of a text, one by one.
use Rattle.std.proofs.Common.{◌≡◌, ℕ, ◌+◌, ◌<◌, ◌≤◌, List, [], ◌++◌, length, get_or, take, drop, sym, ap, ◌∙◌, arith}
use borrow.Rule.Slice.PartMut.{put_mid}
use Rattle.std.specs.List.{flat_map}
use Rattle.std.proofs.lemmas.List.{take_more, flat_map_more, length-take-le, length-drop}
use Rattle.std.proofs.lemmas.Slice.{take-put_mid}
use Rattle.std.proofs.lemmas.List.Sums.{sum_by_more, sum_by-take-le}
use Rattle.std.proofs.ByRecursion.{All-get_or}
use Rattle.text.specs.declared.token.Token.{Token}
use Rattle.text.specs.Inside.{bytes_at, InText, Inside}
use Rattle.galley.specs.Loads.{bytes_of, byte_count}

abbrev pub blank : Token
blank = record { start = 0; length = 0; line = 0; column = 0; terminal = 0 }

module _ (ts : List Token) (i : ℕ) (h : i < length ts) where
  pub count_more : byte_count (take (i + 1) ts) ≡ byte_count (take i ts) + (get_or ts i blank).length
  count_more = sum_by_more (λ (t : Token). t.length) ts i blank h

  -- what the tokens so far and the next one have is not more than what all have
  pub count-below : byte_count (take i ts) + (get_or ts i blank).length ≤ byte_count ts
  count-below = omega (arith, count_more, sum_by-take-le (λ (t : Token). t.length) ts (i + 1))

  pub token-inside : (text : List ℕ) → Inside text ts → InText text (get_or ts i blank)
  token-inside text all = All-get_or (InText text) ts i blank h all

  pub bytes_more : (text : List ℕ) → bytes_of text (take (i + 1) ts) ≡ bytes_of text (take i ts) ++ bytes_at text (get_or ts i blank)
  bytes_more text =
      ap (λ (us : List Token). flat_map (bytes_at text) us) (take_more ts i blank h)
      ∙ sym (flat_map_more (bytes_at text) [] (take i ts) (get_or ts i blank))

  module _ (text xs : List ℕ) (all : Inside text ts) (is : xs ≡ bytes_at text (get_or ts i blank)) where
    pub bytes_long : length xs ≡ (get_or ts i blank).length
    bytes_long =
        let t = get_or ts i blank in
        let in' = token-inside text all in
        let d = length-drop t.start text in
        let l : length (bytes_at text t) ≡ t.length = length-take-le t.length (drop t.start text) (omega (arith, in'.1)) in
        ap (λ (ys : List ℕ). length ys) is ∙ l

    -- the next token's bytes, xs, behind those so far
    pub loaded_more : (memory new : List ℕ) (end k : ℕ) → end ≤ length memory → take end memory ≡ bytes_of text (take i ts) → new ≡ xs
        → take (end + length xs) (put_mid end k memory new) ≡ bytes_of text (take (i + 1) ts)
    loaded_more memory new end k fits before same =
        let long : length new ≡ length xs = ap (λ (ys : List ℕ). length ys) same in
        let p = take-put_mid end k memory new (end + length xs) (omega arith) fits in
        let b = bytes_more text in
        cc
