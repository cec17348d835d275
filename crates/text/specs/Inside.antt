-- Where tokens lie in their text.
--   bytes_at   the bytes of a token in its text
--   InText     a token is short enough, and within the text
--   Inside     every token is
use Rattle.std.specs.Prelude.{ℕ, ◌+◌, ◌≤◌, List, length, take, drop}
use Rattle.std.specs.Coded.{×_prop, le_prop}
use Rattle.std.specs.List.{AllByRecursion, AllByRecursion-prop}
use Rattle.text.specs.declared.token.Token.{Token}

abbrev pub bytes_at : List ℕ → Token → List ℕ
bytes_at text t = take t.length (drop t.start text)

abbrev pub InText : List ℕ → Token → Type 0
InText text t = (t.length ≤ 32) × (t.start + t.length ≤ length text)

abbrev pub Inside : List ℕ → List Token → Type 0
Inside text ts = AllByRecursion (InText text) ts

pub InText-prop : (text : List ℕ) (t : Token) → IsProp (InText text t)
InText-prop text t = ×_prop le_prop le_prop

pub Inside-prop : (text : List ℕ) (ts : List Token) → IsProp (Inside text ts)
Inside-prop text ts = AllByRecursion-prop (InText text) (InText-prop text) ts
