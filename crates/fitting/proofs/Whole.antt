-- The laws of laying out, of whole trees.
use Rattle.std.proofs.Common.{ℕ, List, [], ◌∷◌, ◌++◌, length, Ok, Err, sym, refl, ap, ◌∙◌, subst, arith}
use Rattle.std.specs.List.{slice_get}
use Rattle.std.proofs.lemmas.List.{append-nil, length-map}
use Rattle.faults.specs.declared.fault.Fault.{Fault}
use Rattle.grammar.specs.declared.rule.Rule.{Rule}
use Rattle.grammar.specs.Model.{Model}
use Rattle.grammar.specs.Several.{listed}
use Rattle.policy.specs.declared.question.Question.{Question}
use Rattle.policy.specs.declared.question.Answer.{Answer}
use Rattle.policy.specs.Policies.{minimal}
use Rattle.text.specs.declared.token.Token.{Token}
use Rattle.tree.specs.Forest as numbers
use Rattle.tree.specs.Slots.{Slot, slots}
use Rattle.layout.specs.declared.placement.Placement.{Placement}
use Rattle.layout.specs.Layouts.{Lays, LaysOut, start}
use Rattle.chart.specs.Trees.{Tree, preorder, preorders, Covers}
use Rattle.chart.specs.Fits.{Fits, Under}
use Rattle.chart.proofs.Rows.{same_some}
use Rattle.chart.proofs.Numbers.{all_trees}
use Rattle.fitting.specs.Fitting.{Fitting, Obeys, Short, TreeOf, columns_of}
use Rattle.fitting.specs.Laws.{LaidFits, LayoutReads, LinesBreak, MinimalExact, OnlyDeep}
use Rattle.fitting.specs.Turns.{Breaks, Turn, Turns, TurnsOut}
use Rattle.fitting.proofs.Breaking.{lays_places, lays_turns, placements_break}
use Rattle.fitting.proofs.Meeting.{Met, met_under, under_met}
use Rattle.fitting.proofs.Laid.{lays_met, slots-low}
use Rattle.fitting.proofs.Least.{minimal_obeys}
use Rattle.fitting.proofs.Exact.{lays-deep, never_deep, slots-left}

tree-fits : (G : Model) (P : Question → Answer) → Obeys P → (ts ls : List ℕ) (places : List Placement) (t : Tree) (A : ℕ)
    → Covers G ts t A 0 → Short ls → LaysOut G P (preorder t) ls (Ok places) → Fits G (columns_of places) t 0 0
tree-fits G P obeys ts ls places (Tree.node r cs) A (rule, n, l, c) short (other, m, lays) =
    let ds = columns_of places in
    let y = same_some (slice_get G.rules r) other rule m n in
    let top = slots r 0 0 (listed rule.items) in
    let again = subst (λ (x : Rule). Lays G P start (slots r 0 0 (listed x.items)) (preorders cs) ls (Ok places)) y lays in
    let low = slots-low r 0 0 (listed rule.items) (omega arith) in
    let met : Met G ds top (preorders cs) 0 = lays_met G P obeys ds again 0 places refl refl (omega arith) short low in
    let wide = subst (λ (ss : List Slot). Met G ds ss (preorders cs) 0) (sym (append-nil top)) met in
    let all = subst (λ (rs : List ℕ). Met G ds (top ++ []) rs 0) (sym (append-nil (preorders cs))) wide in
    (omega arith, (rule, n, (met_under G ts ds cs (listed rule.items) r 0 0 [] [] 0 c all).0))

tree_shallow : (G : Model) (ts ls : List ℕ) (f : Fault) (t : Tree) (A : ℕ) → Covers G ts t A 0 → LaysOut G minimal (preorder t) ls (Err f)
    → Fitting G t → ⊥
tree_shallow G ts ls f (Tree.node r cs) A (rule, n, l, c) (other, m, lays) (ds, d, (low, (third, k, under))) =
    let y = same_some (slice_get G.rules r) other rule m n in
    let z = same_some (slice_get G.rules r) third rule k n in
    let top = slots r 0 0 (listed rule.items) in
    let u = subst (λ (x : Rule). Under G ds cs (listed x.items) 0 d) z under in
    let met = under_met G ts ds cs (listed rule.items) r d 0 [] [] 0 c u Met.end in
    let again = subst (λ (x : Rule). Lays G minimal start (slots r 0 0 (listed x.items)) (preorders cs) ls (Err f)) y lays in
    let wide = subst (λ (ss : List Slot). Lays G minimal start ss (preorders cs) ls (Err f)) (sym (append-nil top)) again in
    let all = subst (λ (rs : List ℕ). Lays G minimal start (top ++ []) rs ls (Err f)) (sym (append-nil (preorders cs))) wide in
    never_deep G ds all met (slots-left r 0 d 0 (listed rule.items) [] [] (omega arith) tt) f refl

pub laid-fits : LaidFits
laid-fits G P obeys rules ts ls places short lays t A of =
    tree-fits G P obeys ts ls places t A of.covers short
    (subst (λ (rs : List ℕ). LaysOut G P rs ls (Ok places)) (sym of.numbers) lays)

tree_of : (G : Model) (rules ts : List ℕ) → numbers.Tree G rules ts → (t : Tree) × (A : ℕ) × TreeOf G rules ts t A
tree_of G rules ts tree =
    let q = all_trees G ts rules tree in
    (q.0, q.1, record { covers = q.2; all = q.3; numbers = q.4 })

pub laid-reads : LayoutReads
laid-reads G P obeys rules ts ls places short lays tree =
    let q = tree_of G rules ts tree in
    let fits = laid-fits G P obeys rules ts ls places short lays q.0 q.1 q.2 in (
      q.0,
      q.1,
      q.2,
      λ tokens same at. record {
        covers = subst (λ (us : List ℕ). Covers G us q.0 q.1 0) (sym same) q.2.covers;
        all = q.2.all ∙ ap length (sym same) ∙ length-map tokens (λ (x : Token). x.terminal);
        fits = (0, subst (λ (us : List ℕ). Fits G us q.0 0 0) (sym at) fits);
      },
    )

pub only-deep : OnlyDeep
only-deep G P [] ls f lays = absurd lays
only-deep G P (r ∷ rs) ls f (rule, n, lays) = lays-deep G P lays f refl

pub minimal_exact : MinimalExact
minimal_exact G rules ts ls short tree =
    let q = tree_of G rules ts tree in (
      λ places lays.
          (q.0, q.1, q.2, (columns_of places, 0, laid-fits G minimal minimal_obeys rules ts ls places short lays q.0 q.1 q.2)),
      λ f lays fittable.
          let of = fittable.2 in
          tree_shallow G ts ls f fittable.0 fittable.1 of.covers
          (subst (λ (rs : List ℕ). LaysOut G minimal rs ls (Err f)) (sym of.numbers) lays) fittable.3,
    )

turns_break : (G : Model) (P : Question → Answer) (rules ls : List ℕ) (places : List Placement) → LaysOut G P rules ls (Ok places)
    → (ns : List Turn) → TurnsOut G P rules ls ns → Breaks ns places
turns_break G P [] ls places lays ns turns = absurd lays
turns_break G P (r ∷ rs) ls places (rule, n, lays) ns (other, m, turns) =
    let y = same_some (slice_get G.rules r) other rule m n in
    let again = subst (λ (x : Rule). Turns G P 0 (slots r 0 0 (listed x.items)) rs ls ns) y turns in
    subst (Breaks ns) (sym (lays_places G P lays again places refl)) (placements_break ns)

pub lines_break : LinesBreak
lines_break G P [] ls places lays = absurd lays
lines_break G P (r ∷ rs) ls places (rule, n, lays) =
    let q = lays_turns G P lays places refl in
    ((q.0, (rule, n, q.1)), turns_break G P (r ∷ rs) ls places (rule, n, lays))
