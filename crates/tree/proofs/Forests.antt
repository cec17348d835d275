-- Laws of forests: how they end, how long they are, what stops them.
use Rattle.std.proofs.Common.{◌≡◌, ℕ, ◌≤◌, List, [], ◌∷◌, ◌++◌, length, Some, sym, refl, ◌∙◌, subst, arith}
use Rattle.std.specs.List.{slice_get}
use Rattle.std.proofs.lemmas.List.{length-append}
use Rattle.grammar.specs.declared.rule.Symbol.{Symbol}
use Rattle.grammar.specs.declared.rule.Symbol.TheVariants.{Terminal, Nonterminal}
use Rattle.grammar.specs.declared.rule.Item.{Item}
use Rattle.grammar.specs.Model.{Items}
use Rattle.grammar.specs.declared.several.Several.TheVariants.{One, Two, Three}
use Rattle.grammar.specs.declared.rule.Rule.{Rule}
use Rattle.grammar.specs.Model.{Model}
use Rattle.grammar.specs.Several.{listed}
use Rattle.tree.specs.Forest.{Forest}
use Rattle.tree.specs.Forest.Forest.{none, piece, node}
use Rattle.tree.specs.Covering.{Blocked}

pub some-items : (is : Items) → 1 ≤ length (listed is)
some-items (One x) = omega arith
some-items (Two x y) = omega arith
some-items (Three x y z) = omega arith

module _ {G : Model} where
  pub ended : {rs ts : List ℕ} → Forest G [] rs ts → (rs ≡ []) × (ts ≡ [])
  ended none = (refl, refl)

  -- each item covers a piece at least
  pub covers : {xs : List Item} {rs ts : List ℕ} → Forest G xs rs ts → length xs ≤ length ts
  covers none = omega arith
  covers (piece e f) = let h = covers f in omega arith
  covers (node {x} {xs} {rs} {ts} {r} {rule} known e f) =
      let h = covers f in
      let s = some-items rule.items in
      let l = length-append (listed rule.items) xs in
      omega arith

  pub stopped : {x : Item} {xs : List Item} {rs ts : List ℕ} → Blocked G x.symbol rs ts → Forest G (x ∷ xs) rs ts → ⊥
  stopped {x} {xs} {rs} {ts} b (piece {ts = us} e f) = subst (λ (s : Symbol). Blocked G s rs ts) e b us refl
  stopped {x} {xs} {rs} {ts} b (node {rs = ss} {r = r} {rule = rule} known e f)
      = subst (λ (s : Symbol). Blocked G s rs ts) e b r ss rule refl known refl

  -- a forest without its first piece
  pub less_piece : {x : Item} {xs : List Item} {rs ts : List ℕ} {t : ℕ} → x.symbol ≡ Terminal t → Forest G (x ∷ xs) rs (t ∷ ts)
      → Forest G xs rs ts
  less_piece is (piece e f) = f
  less_piece is (node known e f) = cc

  -- a forest without its first node, whose items come in its place
  pub less_node : {x : Item} {xs : List Item} {rs ts : List ℕ} {r a : ℕ} (rule : Rule) → x.symbol ≡ Nonterminal a
      → slice_get G.rules r ≡ Some rule → Forest G (x ∷ xs) (r ∷ rs) ts → Forest G (listed rule.items ++ xs) rs ts
  less_node rule is found (piece e f) = cc
  less_node {xs = xs} {rs = rs} {ts = ts} rule is found (node {rule = other} known e f) =
      let o : Some other ≡ Some rule = sym known ∙ found in
      let s : other ≡ rule = cc in
      subst (λ (u : Rule). Forest G (listed u.items ++ xs) rs ts) s f
