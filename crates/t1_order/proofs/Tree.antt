-- The winner tree: its first node has the least of the leaves.
use Rattle.std.proofs.Common.{◌≡◌, ◌≢◌, ℕ, zero, suc, ◌+◌, ◌-◌, ◌*◌, ◌/◌, ◌<◌, ◌≤◌, ◌⊎◌, ◌==◌, ◌&&◌, ◌||◌, Bool, true, false, cond, nat_lt, List, map, length, get_or, set, drop, replicate, Option, Some, None, refl, sym, ap, ◌∙◌, subst, inl, inr, arith}
use Rattle.std.specs.Bool.{Decides}
use Rattle.std.proofs.lemmas.Bool.{cases_lt}
use Rattle.std.proofs.lemmas.Bool.Decides.{Decides-or, Decides-and, Decides-eqb, Decides-ltb, not_from_Decides}
use Rattle.std.proofs.lemmas.List.{get_or-drop, get_or_past, get_or-set_same, get_or-set_other, get_or-replicate, length-replicate, length-drop, drop-set-add, map-set}
use Rattle.std.proofs.lemmas.Option.{none-some, same_Some}
use Rattle.std.proofs.Math.ListN.{get_or-map}
use Rattle.t1_order.specs.declared.heads.Head.{Head}
use Rattle.t1_order.specs.Heads.{is_before, lesser, head_time, times_of, IsTree, AreLeaves, IsFirst, head_at}

-- ---- the order of heads

-- x comes no later than y
abbrev pub ComesFirst : Option Head → Option Head → Type 0
ComesFirst x None = Unit {0}
ComesFirst None (Some y) = ⊥
ComesFirst (Some x) (Some y) = (x.time < y.time) ⊎ ((x.time ≡ y.time) × (x.strand ≤ y.strand))

first_self : (x : Option Head) → ComesFirst x x
first_self None = tt
first_self (Some x) = inr (refl, omega arith)

first_trans : (x y z : Option Head) → ComesFirst x y → ComesFirst y z → ComesFirst x z
first_trans x y None f g = tt
first_trans x None (Some z) f g = absurd g
first_trans None (Some y) (Some z) f g = absurd f
first_trans (Some x) (Some y) (Some z) f g =
    elim f [
      | inl a ↦ elim g [ inl b ↦ inl (omega arith) | inr b ↦ inl (omega (arith, b.0)) ]
      | inr a ↦ elim g [ inl b ↦ inl (omega (arith, a.0)) | inr b ↦ inr (a.0 ∙ b.0, omega (arith, a.1, b.1)) ]
    ]

record IsLesser (x y z : Option Head) : Type 0 where
  one : (z ≡ x) ⊎ (z ≡ y)
  left : ComesFirst z x
  right : ComesFirst z y

before_decides : (t u s r : ℕ) → Decides (nat_lt t u || ((t == u) && nat_lt s r)) ((t < u) ⊎ ((t ≡ u) × (s < r)))
before_decides t u s r =
    Decides-or (nat_lt t u) ((t == u) && nat_lt s r) (Decides-ltb t u) (Decides-and (t == u) (nat_lt s r) (Decides-eqb t u) (Decides-ltb s r))

not_before : (t u s r : ℕ) → ((t < u) ⊎ ((t ≡ u) × (s < r)) → ⊥) → (u < t) ⊎ ((u ≡ t) × (r ≤ s))
not_before t u s r not =
    elim (cases_lt u t) [
      | inl below ↦ inl below
      | inr at ↦ elim (cases_lt t u) [
        | inl above ↦ absurd (not (inl above))
        | inr same ↦ let e : t ≡ u = omega arith in
            elim (cases_lt s r) [ inl low ↦ absurd (not (inr (e, low))) | inr high ↦ inr (sym e, high) ]
      ]
    ]

lesser_is : (x y : Option Head) → IsLesser x y (lesser x y)
lesser_is None None = record { one = inl refl; left = tt; right = tt }
lesser_is None (Some y) = record { one = inr refl; left = tt; right = inr (refl, omega arith) }
lesser_is (Some x) None = record { one = inl refl; left = inr (refl, omega arith); right = tt }
lesser_is (Some x) (Some y) = by (is_before (Some y) (Some x)) (before_decides y.time x.time y.strand x.strand)
  where
    by : (b : Bool) → Decides b ((y.time < x.time) ⊎ ((y.time ≡ x.time) × (y.strand < x.strand))) → IsLesser (Some x) (Some y) (cond b (Some y) (Some x))
    by true d = record {
      one = inr refl;
      left = elim (d.0 refl) [ inl l ↦ inl l | inr s ↦ inr (s.0, omega (arith, s.1)) ];
      right = inr (refl, omega arith);
    }
    by false d = record {
      one = inl refl;
      left = inr (refl, omega arith);
      right = not_before y.time x.time y.strand x.strand (not_from_Decides false d refl);
    }

-- ---- the tree

-- a node comes no later than the two above it
above : (nodes : List (Option Head)) (low node : ℕ) → IsTree nodes → 0 < low → low < 64 → (node ≡ 2 * low) ⊎ (node ≡ 2 * low + 1)
    → ComesFirst (get_or nodes low None) (get_or nodes node None)
above nodes low node tree some small which =
    let is = tree.inner low some small in
    let l = lesser_is (get_or nodes (2 * low) None) (get_or nodes (2 * low + 1) None) in
    elim which [
      | inl even ↦ subst (λ n. ComesFirst (get_or nodes low None) (get_or nodes n None)) (sym even) (subst (λ x. ComesFirst x (get_or nodes (2 * low) None)) (sym is) l.left)
      | inr odd ↦ subst (λ n. ComesFirst (get_or nodes low None) (get_or nodes n None)) (sym odd) (subst (λ x. ComesFirst x (get_or nodes (2 * low + 1) None)) (sym is) l.right)
    ]

halves : (node : ℕ) → (node ≡ 2 * (node / 2)) ⊎ (node ≡ 2 * (node / 2) + 1)
halves node = elim (cases_lt (2 * (node / 2)) node) [ inl odd ↦ inr (omega arith) | inr even ↦ inl (omega arith) ]

-- the head of node 1 comes no later than that of any node
least_below : (nodes : List (Option Head)) → IsTree nodes → (most node : ℕ) → node ≤ most → 0 < node → node < 128
    → ComesFirst (get_or nodes 1 None) (get_or nodes node None)
least_below nodes tree zero node few some small = absurd (omega arith)
least_below nodes tree (suc most) node few some small =
    elim (cases_lt 1 node) [
      | inr one ↦ let e : 1 ≡ node = omega arith in subst (λ n. ComesFirst (get_or nodes 1 None) (get_or nodes n None)) e (first_self (get_or nodes 1 None))
      | inl more ↦
          first_trans (get_or nodes 1 None) (get_or nodes (node / 2) None) (get_or nodes node None)
          (least_below nodes tree most (node / 2) (omega arith) (omega arith) (omega arith)) (above nodes (node / 2) node tree (omega arith) (omega arith) (halves node))
    ]

record IsLeafOf (nodes : List (Option Head)) (node : ℕ) : Type 0 where
  strand : ℕ
  within : strand < 64
  same : get_or nodes node None ≡ get_or nodes (64 + strand) None

-- a node has the head of a leaf
leaf_of : (nodes : List (Option Head)) → IsTree nodes → (most node : ℕ) → 128 ≤ node + most → 0 < node → node < 128 → IsLeafOf nodes node
leaf_of nodes tree zero node few some small = absurd (omega arith)
leaf_of nodes tree (suc most) node few some small =
    elim (cases_lt node 64) [
      | inr leaf ↦ record {
        strand = node - 64;
        within = omega arith;
        same = let e : node ≡ 64 + (node - 64) = omega arith in ap (λ n. get_or nodes n None) e;
      }
      | inl inner ↦
          let is = tree.inner node some inner in
          elim (lesser_is (get_or nodes (2 * node) None) (get_or nodes (2 * node + 1) None)).one [
            | inl left ↦
                let up = leaf_of nodes tree most (2 * node) (omega arith) (omega arith) (omega arith) in
                record { strand = up.strand; within = up.within; same = is ∙ left ∙ up.same }
            | inr right ↦
                let up = leaf_of nodes tree most (2 * node + 1) (omega arith) (omega arith) (omega arith) in
                record { strand = up.strand; within = up.within; same = is ∙ right ∙ up.same }
          ]
    ]

-- ---- the times of the leaves

pub time_at : (nodes : List (Option Head)) (strand : ℕ) → get_or (times_of nodes) strand None ≡ head_time (get_or nodes (64 + strand) None)
time_at nodes strand = get_or-map head_time (drop 64 nodes) strand None ∙ ap head_time (get_or-drop 64 nodes strand None)

record HasTime (x : Option Head) (time : ℕ) : Type 0 where
  head : Head
  is : x ≡ Some head
  time_is : head.time ≡ time

has_time : (x : Option Head) (time : ℕ) → head_time x ≡ Some time → HasTime x time
has_time None time e = absurd (none-some time e)
has_time (Some h) time e = record { head = h; is = refl; time_is = same_Some h.time time e }

no_time : (x : Option Head) → ComesFirst None x → head_time x ≡ None
no_time None f = refl
no_time (Some h) f = absurd f

-- the first node has the head that comes first
pub first_is : (nodes : List (Option Head)) → IsTree nodes → AreLeaves nodes → IsFirst (times_of nodes) (get_or nodes 1 None)
first_is nodes tree leaves = by (get_or nodes 1 None) refl
  where
    least : (strand : ℕ) → strand < 64 → ComesFirst (get_or nodes 1 None) (get_or nodes (64 + strand) None)
    least strand small = least_below nodes tree (64 + strand) (64 + strand) (omega arith) (omega arith) (omega arith)

    past : (strand : ℕ) → 64 ≤ strand → get_or nodes (64 + strand) None ≡ None
    past strand large = get_or_past nodes (64 + strand) None (omega (arith, tree.all))

    by : (x : Option Head) → get_or nodes 1 None ≡ x → IsFirst (times_of nodes) x
    by None e = λ strand.
        time_at nodes strand
        ∙ elim (cases_lt strand 64) [
          | inl small ↦ no_time (get_or nodes (64 + strand) None) (subst (λ y. ComesFirst y (get_or nodes (64 + strand) None)) e (least strand small))
          | inr large ↦ ap head_time (past strand large)
        ]
    by (Some h) e =
        let leaf = leaf_of nodes tree 128 1 (omega arith) (omega arith) (omega arith) in
        let at : get_or nodes (64 + leaf.strand) None ≡ Some h = sym leaf.same ∙ e in
        let strand = leaves leaf.strand h at in
        record {
          strand = omega (arith, strand, leaf.within);
          time = ap (λ s. get_or (times_of nodes) s None) strand ∙ time_at nodes leaf.strand ∙ ap head_time at;
          least = λ other time is.
              let t = has_time (get_or nodes (64 + other) None) time (sym (time_at nodes other) ∙ is) in
              elim (cases_lt other 64) [
                | inr large ↦ absurd (none-some t.head (sym (past other large) ∙ t.is))
                | inl small ↦
                    let f : ComesFirst (Some h) (Some t.head) = subst (λ y. ComesFirst (Some h) y) t.is (subst (λ y. ComesFirst y (get_or nodes (64 + other) None)) e (least other small)) in
                    elim f [
                      | inl earlier ↦ inl (omega (arith, t.time_is))
                      | inr same ↦ inr (same.0 ∙ t.time_is, omega (arith, same.1, leaves other t.head t.is))
                    ]
              ];
        }

-- ---- writes

-- each inner node but one has the lesser of the two above it
abbrev pub IsTreeBut : List (Option Head) → ℕ → Type 0
IsTreeBut nodes hole =
    (node : ℕ) → 0 < node → node < 64 → node ≢ hole → get_or nodes node None ≡ lesser (get_or nodes (2 * node) None) (get_or nodes (2 * node + 1) None)

-- a node whose own and upper nodes are not written
kept : (nodes : List (Option Head)) (at : ℕ) (x : Option Head) (node : ℕ) → node ≢ at → 2 * node ≢ at → 2 * node + 1 ≢ at
    → get_or nodes node None ≡ lesser (get_or nodes (2 * node) None) (get_or nodes (2 * node + 1) None)
    → get_or (set nodes at x) node None ≡ lesser (get_or (set nodes at x) (2 * node) None) (get_or (set nodes at x) (2 * node + 1) None)
kept nodes at x node a b c e = rw (get_or-set_other nodes at node x None a, get_or-set_other nodes at (2 * node) x None b, get_or-set_other nodes at (2 * node + 1) x None c) e

pub leaf_written : (nodes : List (Option Head)) (leaf : ℕ) (x : Option Head) → 64 ≤ leaf → IsTree nodes → IsTreeBut (set nodes leaf x) (leaf / 2)
leaf_written nodes leaf x large tree = λ node some inner other.
    kept nodes leaf x node (omega arith) (omega arith) (omega arith) (tree.inner node some inner)

pub node_written : (nodes : List (Option Head)) (at : ℕ) → length nodes ≡ 128 → 0 < at → at < 64 → IsTreeBut nodes at
    → IsTreeBut (set nodes at (lesser (get_or nodes (2 * at) None) (get_or nodes (2 * at + 1) None))) (at / 2)
node_written nodes at all some inner tree = λ node some' inner' other.
    let x = lesser (get_or nodes (2 * at) None) (get_or nodes (2 * at + 1) None) in
    elim (cases_lt node at) [
      | inl below ↦ kept nodes at x node (omega arith) (omega arith) (omega arith) (tree node some' inner' (omega arith))
      | inr above ↦ elim (cases_lt at node) [
        | inl up ↦ kept nodes at x node (omega arith) (omega arith) (omega arith) (tree node some' inner' (omega arith))
        | inr same ↦
            let e : node ≡ at = omega arith in
            rw (e, get_or-set_same nodes at x None (omega (arith, all)), get_or-set_other nodes at (2 * at) x None (omega arith), get_or-set_other nodes at (2 * at + 1) x None (omega arith)) refl
      ]
    ]

pub leaves_at : (nodes : List (Option Head)) (leaf : ℕ) (x : Option Head) → 64 ≤ leaf → drop 64 (set nodes leaf x) ≡ set (drop 64 nodes) (leaf - 64) x
leaves_at nodes leaf x large =
    let e : leaf ≡ 64 + (leaf - 64) = omega arith in
    ap (λ n. drop 64 (set nodes n x)) e ∙ drop-set-add 64 nodes (leaf - 64) x

-- ---- no heads

no_head : (count node : ℕ) → get_or {A = Option Head} (replicate count None) node None ≡ None
no_head count node =
    elim (cases_lt node count) [
      | inl within ↦ get_or-replicate count node None None within
      | inr past ↦ get_or_past (replicate count None) node None (let e = length-replicate {A = Option Head} count None in omega (arith, e))
    ]

pub no_heads : (count : ℕ) → count ≡ 128 → IsTree (replicate count None)
no_heads count e = record {
  all = length-replicate count None ∙ e;
  inner = λ node some small.
      no_head count node ∙ sym (ap (λ x. lesser x (get_or (replicate count None) (2 * node + 1) None)) (no_head count (2 * node)) ∙ ap (λ x. lesser None x) (no_head count (2 * node + 1)));
}

pub no_leaves : (count : ℕ) → AreLeaves (replicate count None)
no_leaves count = λ strand head is. absurd (none-some head (sym (no_head count (64 + strand)) ∙ is))

-- ---- a leaf written whole

leaf_head : (strand : ℕ) (time : Option ℕ) (head : Head) → head_at strand time ≡ Some head → head.strand ≡ strand
leaf_head strand None head e = absurd (none-some head e)
leaf_head strand (Some time) head e = sym (ap (λ (h : Head). h.strand) (same_Some (record { time = time; strand = strand }) head e))

at_leaf : (nodes : List (Option Head)) (strand : ℕ) → get_or nodes (64 + strand) None ≡ get_or (drop 64 nodes) strand None
at_leaf nodes strand = sym (get_or-drop 64 nodes strand None)

pub leaves_stay : (before after : List (Option Head)) (strand : ℕ) (time : Option ℕ) → length before ≡ 128 → strand < 64
    → drop 64 after ≡ set (drop 64 before) strand (head_at strand time) → AreLeaves before → AreLeaves after
leaves_stay before after strand time all small e leaves = λ other head is.
    let here : get_or (set (drop 64 before) strand (head_at strand time)) other None ≡ Some head = sym (at_leaf after other ∙ ap (λ xs. get_or xs other None) e) ∙ is in
    let long : strand < length (drop 64 before) = simp length-drop (omega (arith, all)) in
    let elsewhere : (other ≢ strand) → head.strand ≡ other =
    λ ne. leaves other head (at_leaf before other ∙ sym (get_or-set_other (drop 64 before) strand other (head_at strand time) None ne) ∙ here) in
    elim (cases_lt other strand) [
      | inl below ↦ elsewhere (omega arith)
      | inr above ↦ elim (cases_lt strand other) [
        | inl up ↦ elsewhere (omega arith)
        | inr same ↦
            let e' : other ≡ strand = omega arith in
            let at : head_at strand time ≡ Some head =
            sym (ap (λ s. get_or (set (drop 64 before) strand (head_at strand time)) s None) e' ∙ get_or-set_same (drop 64 before) strand (head_at strand time) None long) ∙ here in
            leaf_head strand time head at ∙ sym e'
      ]
    ]

head_time_at : (strand : ℕ) (time : Option ℕ) → head_time (head_at strand time) ≡ time
head_time_at strand None = refl
head_time_at strand (Some time) = refl

pub times_set : (before after : List (Option Head)) (strand : ℕ) (time : Option ℕ)
    → drop 64 after ≡ set (drop 64 before) strand (head_at strand time) → times_of after ≡ set (times_of before) strand time
times_set before after strand time e =
    ap (map head_time) e ∙ map-set head_time (drop 64 before) strand (head_at strand time) ∙ ap (λ t. set (times_of before) strand t) (head_time_at strand time)
