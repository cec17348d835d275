-- Taking over the first reading of a text's tokens.
use Rattle.std.proofs.Common.{◌≡◌, ℕ, ◌+◌, ◌≤◌, true, List, [], ◌∷◌, length, sum_by, Some, None, Ok, Err, Option, sym, refl, ap, ◌∙◌}
use Rattle.std.proofs.Common.{subst, arith, MutBor}
use Rattle.std.specs.Coded.{le_prop}
use Rattle.std.proofs.Math.Bool.{Bool-set}
use Rattle.std.proofs.Math.Nat.{ℕ_set}
use borrow.Rule.Slice.Mut.{set_vals}
use Rattle.std.proofs.lemmas.Bool.{le-ltb}
use Rattle.std.proofs.lemmas.List.Sums.{sum_by-cons}
use Rattle.faults.specs.declared.fault.Fault.{Fault}
use Rattle.grammar.specs.Model.{Model}
use Rattle.text.specs.declared.token.Token.{Token}
use Rattle.tree.specs.declared.node.Node.{Node}
use Rattle.tree.specs.declared.piece.PieceRecord.{PieceRecord}
use Rattle.tree.specs.Pieces.{total, longest}
use Rattle.shape.specs.Children.{one_tree, pieces_in}
use Rattle.chart.specs.Answer.{unfit, Judged}
use Rattle.galley.specs.declared.store.Store.{Store}
use Rattle.galley.specs.declared.held.Held.{Held}
use Rattle.galley.specs.Stores.{front, room}
use Rattle.text.specs.Inside.{Inside}
use Rattle.galley.specs.Loads.{byte_count, records_of}
use Rattle.galley.specs.Reads.{FirstHeld, Read, Took, short}
use Rattle.galley.proofs.Shapes.{first_shaped}

-- a memory with nothing changed is the same store, whatever proves that the used part fits
same_store : {X : Type 0} (s : Store X) (m : MutBor (List X)) (fit : s.used ≤ length m.now) → m ≡ s.memory
    → record { memory = m; used = s.used; fit = fit } ≡ s
same_store s m fit e =
    subst (λ (k : MutBor (List _)). (p : s.used ≤ length k.now) → record { memory = k; used = s.used; fit = p } ≡ s) (sym e)
    (λ p. ap (λ (q : s.used ≤ length s.memory.now). record { memory = s.memory; used = s.used; fit = q }) (le_prop p s.fit)) fit

-- a refusal leaves the nodes, so it leaves the store
pub read-refused : (o : Option Fault) (G : Model) (A : ℕ) (ts : List Token) (s : Store Node) (new : List Node) (f : Fault)
    (fit : s.used ≤ length new) → Judged o G ts A s.memory.now new (Err f)
    → Read o G A ts s (Err f) (record { memory = set_vals new s.memory; used = s.used; fit = fit })
read-refused (Some e) G A ts s new f fit (is, same) =
    let e' : f ≡ e = cc in
    (ap Err e', same_store s (set_vals new s.memory) fit (ap (λ (xs : List Node). set_vals xs s.memory) same))
read-refused None G A ts s new f fit (none, at, same) =
    (record { none = none; place = at }, same_store s (set_vals new s.memory) fit (ap (λ (xs : List Node). set_vals xs s.memory) same))

-- the lengths of pieces, added up
pub total_sum : (ps : List PieceRecord) → sum_by (λ (p : PieceRecord). p.length) ps ≡ total ps
total_sum [] = refl
total_sum (p ∷ ps) = sum_by-cons (λ (q : PieceRecord). q.length) p ps ∙ ap (λ (n : ℕ). p.length + n) (total_sum ps)

total_records : (ts : List Token) → total (records_of ts) ≡ byte_count ts
total_records [] = refl
total_records (t ∷ ts) = let e = total_records ts in omega (arith, sum_by-cons (λ (u : Token). u.length) t ts)

longest_records : (text : List ℕ) (ts : List Token) → Inside text ts → longest (records_of ts) ≤ 32
longest_records text [] all = omega arith
longest_records text (t ∷ ts) all = let e = longest_records text ts all.1 in omega (arith, all.0.0)

-- these are the nodes of the first reading
read_first : (o : Option Fault) (G : Model) (A : ℕ) (ts : List Token) (s t : Store Node) → Read o G A ts s (Ok tt) t
    → FirstHeld G A ts (front t)
read_first (Some e) G A ts s t (is, same) = absurd (cc)
read_first None G A ts s t (room, first) = first

-- what is held of a text's tokens is one tree over just its pieces, each of at most 32 bytes
pub well_held : (G : Model) (A : ℕ) (text : List ℕ) (ts : List Token) (bytes : Store ℕ) (pieces : Store PieceRecord)
    (nodes : Store Node) (o : Option Fault) (s : Store Node) → Inside text ts → length ts ≤ 128
    → bytes.used ≡ byte_count ts → pieces.used ≡ length ts → front pieces ≡ records_of ts → Read o G A ts s (Ok tt) nodes
    → (pieces.used ≤ 128) × (longest (front pieces) ≤ 32) × (total (front pieces) ≡ bytes.used)
    × (one_tree (front nodes) ≡ true) × (pieces_in (front nodes) ≡ pieces.used)
well_held G A text ts bytes pieces nodes o s inside few count long held read =
    let tree = first_shaped G A ts (front nodes) (read_first o G A ts s nodes read) in
    (omega arith, rw held (longest_records text ts inside), rw held (total_records ts ∙ sym count), tree.0, tree.1 ∙ sym long)

-- where the tokens were not read, nothing is taken over
refused_by : (o : Option Fault) (G : Model) (A : ℕ) (text : List ℕ) (ts : List Token) (h k : Held) (t : Store Node) (f : Fault)
    → Read o G A ts h.nodes (Err f) t → (t ≡ h.nodes → k ≡ h) → Took o G A text ts h (Err f) k
refused_by (Some e) G A text ts h k t f (is, same) kept = (is, kept same)
refused_by None G A text ts h k t f (at, same) kept = (at, kept same)

-- nodes like those that are held, whatever proves what a galley keeps of them
pub same_held : (h : Held) (t : Store Node) (few : h.pieces.used ≤ 128) (short : longest (front h.pieces) ≤ 32)
    (whole : total (front h.pieces) ≡ h.bytes.used) (tree : one_tree (front t) ≡ true) (over : pieces_in (front t) ≡ h.pieces.used)
    → t ≡ h.nodes
    → ◌≡◌ {A = Held} (record {
      bytes = h.bytes;
      pieces = h.pieces;
      nodes = t;
      few = few;
      short = short;
      whole = whole;
      tree = tree;
      over = over;
    }) h
same_held h t few short whole tree over e =
    let held : (a : h.pieces.used ≤ 128) (b : longest (front h.pieces) ≤ 32) (d : total (front h.pieces) ≡ h.bytes.used)
    (p : one_tree (front h.nodes) ≡ true) (q : pieces_in (front h.nodes) ≡ h.pieces.used) → Held
    = λ a b d p q. record { bytes = h.bytes; pieces = h.pieces; nodes = h.nodes; few = a; short = b; whole = d; tree = p; over = q } in
    subst (λ (u : Store Node). (p : one_tree (front u) ≡ true) (q : pieces_in (front u) ≡ h.pieces.used)
    → ◌≡◌ {A = Held} (record {
      bytes = h.bytes;
      pieces = h.pieces;
      nodes = u;
      few = few;
      short = short;
      whole = whole;
      tree = p;
      over = q;
    }) h) (sym e)
    (λ p q.
    ap (λ (a : h.pieces.used ≤ 128). held a short whole p q) (le_prop few h.few)
    ∙ ap (λ (b : longest (front h.pieces) ≤ 32). held h.few b whole p q) (le_prop short h.short)
    ∙ ap (λ (d : total (front h.pieces) ≡ h.bytes.used). held h.few h.short d p q) (ℕ_set _ _ whole h.whole)
    ∙ ap (λ (r : one_tree (front h.nodes) ≡ true). held h.few h.short h.whole r q) (Bool-set _ _ p h.tree)
    ∙ ap (λ (r : pieces_in (front h.nodes) ≡ h.pieces.used). held h.few h.short h.whole h.tree r) (ℕ_set _ _ q h.over))
    tree over

pub not_taken : (G : Model) (A cells : ℕ) (text : List ℕ) (ts : List Token) (h k : Held) (t : Store Node) (f : Fault)
    → byte_count ts ≤ room h.bytes → length ts ≤ room h.pieces
    → Read (unfit G A (length ts) (room h.nodes) cells) G A ts h.nodes (Err f) t → (t ≡ h.nodes → k ≡ h)
    → Took (short G A h ts cells) G A text ts h (Err f) k
not_taken G A cells text ts h k t f bytes pieces read kept =
    let a = le-ltb (room h.bytes) (byte_count ts) bytes in
    let d = le-ltb (room h.pieces) (length ts) pieces in
    rw (a, d) (refused_by (unfit G A (length ts) (room h.nodes) cells) G A text ts h k t f read kept)
