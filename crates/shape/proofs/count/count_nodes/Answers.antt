use Rattle.std.proofs.Common.{◌≡◌, ℕ, suc, ◌+◌, ◌-◌, ◌<◌, true, List, [], length, get_or, drop, ap, ◌∙◌, subst, arith}
use Rattle.std.proofs.lemmas.List.{drop_more, drop_all, length-drop}
use Rattle.tree.specs.declared.node.Node.{Node}
use Rattle.shape.specs.Children.{closes, kids, under}
use Rattle.shape.specs.Counted.{span}
use Rattle.shape.proofs.Counts.{blank, closes-few, closes-step, span-step, span_zero}
use Rattle.shape.proofs.count.count_nodes.Goals as goal

-- one node more, of which there are kids below
module _ (ns : List Node) (i o k : ℕ) (h : i < length ns) (some : o ≡ 0 → ⊥) where
  closed : closes (o + k) (drop i ns) ≡ true → closes (o - 1 + kids (under (get_or ns i blank)) + k) (drop (i + 1) ns) ≡ true
  closed e =
      closes-step o k (get_or ns i blank) (drop (i + 1) ns) some
      (subst (λ (xs : List Node). closes (o + k) xs ≡ true) (drop_more ns i blank h) e)

  spanned : span o (drop i ns) ≡ suc (span (o - 1 + kids (under (get_or ns i blank))) (drop (i + 1) ns))
  spanned = ap (span o) (drop_more ns i blank h) ∙ span-step o (get_or ns i blank) (drop (i + 1) ns) some

pub returns-then-owed-eq0 : goal.returns-then-owed-eq0
returns-then-owed-eq0 c =
    let e = ap (λ (o : ℕ). span o (drop c.loop-i.i c.args.nodes.now)) c.if-owed-eq0.true
    ∙ span_zero (drop c.loop-i.i c.args.nodes.now) in
    omega (arith, c.loop-i.invariant.0)

pub overflow_add-owed : goal.overflow_add-owed
overflow_add-owed c =
    let ns = c.args.nodes.now in
    let k = c.loop-i.invariant.1.0 in
    let e = closed ns c.loop-i.i c.loop-i.owed k c.loop-i-test.true c.if-owed-eq0.false c.loop-i.invariant.1.1 in
    let f = closes-few (c.loop-i.owed - 1 + kids (under (get_or ns c.loop-i.i blank)) + k) (drop (c.loop-i.i + 1) ns) e in
    let l = length-drop (c.loop-i.i + 1) ns in
    omega (arith, c.kid_count.ensures.0)

pub loop-i-preserved : goal.loop-i-preserved
loop-i-preserved c =
    let ns = c.args.nodes.now in
    let k = c.loop-i.invariant.1.0 in
    let e = closed ns c.loop-i.i c.loop-i.owed k c.loop-i-test.true c.if-owed-eq0.false c.loop-i.invariant.1.1 in
    let s = spanned ns c.loop-i.i c.loop-i.owed k c.loop-i-test.true c.if-owed-eq0.false in
    rw c.kid_count.ensures.0 (omega (arith, c.loop-i.invariant.0), (k, e))

pub returns : goal.returns
returns c =
    let ns = c.args.nodes.now in
    let d : drop c.loop-i.i ns ≡ [] = drop_all c.loop-i.i ns c.loop-i-test.false in
    let e : span c.loop-i.owed (drop c.loop-i.i ns) ≡ 0 = ap (span c.loop-i.owed) d in
    omega (arith, c.loop-i.invariant.0)
