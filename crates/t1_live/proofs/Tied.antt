-- Ties one after another.
use Rattle.std.proofs.Common.{◌≡◌, ◌<◌, ◌∙◌, ℕ, zero, suc, List, [], ◌∷◌, length, get_or, set, Option, Some, None, ap, sym, subst, arith}
use Rattle.std.specs.List.{slice_get}
use Rattle.std.proofs.lemmas.List.{set-get_or}
use Rattle.t1_joint.specs.Lists.{IsPrefix}
use Rattle.t1_joint.specs.Start.{Setup}
use Rattle.t1_crew.specs.Slots.{ids}
use Rattle.t1_live.specs.Sides.{CoreSide, DestinationSide, CrossbarSide, core_id, destination_id, crossbar_id, CoreKeeps, DestinationKeeps, CrossbarKeeps}
use Rattle.t1_live.specs.Wires.{AreWired}
use Rattle.t1_live.specs.Whole.{AreTied, AreFitting}
use Rattle.t1_live.specs.Tying.{RequestEndsMeet, RowMeets, RowsMeet, ServedEndsMeet, PacketEndsMeet, RowTied, RowsTied, DestinationStands, ServedTied, PacketsTied}
use Rattle.t1_live.proofs.Fitting.{id_there, ids_length, fits}

-- ---- an element of a list, and the list with it put back

pub set_back : {A : Type 0} (xs : List A) (i : ℕ) (x y : A) → x ≡ y → y ≡ get_or xs i y → set xs i x ≡ xs
set_back xs i x y e f = ap (set xs i) (e ∙ f) ∙ set-get_or xs i y

pub some_at : {A : Type 0} (xs : List A) (i : ℕ) (x : A) → x ≡ get_or xs i x → i < length xs → slice_get xs i ≡ Some x
some_at [] i x e l = absurd (omega (arith, l))
some_at {A} (y ∷ ys) zero x e l = ap (λ (v : A). Some v) (sym e)
some_at (y ∷ ys) (suc i) x e l = some_at ys i x e (omega (arith, l))

same_some : {A : Type 0} (a b : A) → Some a ≡ Some b → a ≡ b
same_some a b e = cc

pub same_at : {A : Type 0} (xs : List A) (i : ℕ) (x y : A) → slice_get xs i ≡ Some x → slice_get xs i ≡ Some y → x ≡ y
same_at xs i x y e f = same_some x y (sym e ∙ f)

-- ---- the next tie

module _ (core now : CoreSide) (dest was : DestinationSide) (dests all : List DestinationSide) (c d : ℕ) where
  pub row_here : core ≡ now → dest ≡ was → was ≡ get_or dests d was → dests ≡ all → d < length dests
      → IsPrefix (get_or dest.received c []) (get_or core.sent d []) → (x : DestinationSide) → slice_get all d ≡ Some x → IsPrefix (get_or x.received c []) (get_or now.sent d [])
  row_here e f g h l p x is =
      let q : dest ≡ x = f ∙ same_at dests d was x (some_at dests d was g l) (ap (λ (xs : List DestinationSide). slice_get xs d) h ∙ is) in
      subst (λ (y : DestinationSide). IsPrefix (get_or y.received c []) (get_or now.sent d [])) q (subst (λ (y : CoreSide). IsPrefix (get_or dest.received c []) (get_or y.sent d [])) e p)

pub rows_here : (core : CoreSide) (cores all : List CoreSide) (dests every : List DestinationSide) (c n : ℕ) → core ≡ get_or cores c core → cores ≡ all → dests ≡ every → c < length cores
    → n ≡ length every → RowTied core dests c n → (x : CoreSide) → slice_get all c ≡ Some x → RowTied x every c (length every)
rows_here core cores all dests every c n e f g l h t x is =
    let q : core ≡ x = same_at cores c core x (some_at cores c core e l) (ap (λ (xs : List CoreSide). slice_get xs c) f ∙ is) in
    subst (λ (y : CoreSide). RowTied y every c (length every)) q (subst (λ (m : ℕ). RowTied core every c m) h (subst (λ (ds : List DestinationSide). RowTied core ds c n) g t))

pub served_here : (crossbar now : CrossbarSide) (dest was : DestinationSide) (dests all : List DestinationSide) (d : ℕ) → crossbar ≡ now → dest ≡ was → was ≡ get_or dests d was → dests ≡ all
    → d < length dests → IsPrefix (get_or crossbar.received d []) dest.served → DestinationStands dest
    → (x : DestinationSide) → slice_get all d ≡ Some x → IsPrefix (get_or now.received d []) x.served × DestinationStands x
served_here crossbar now dest was dests all d e f g h l p k x is =
    let q : dest ≡ x = f ∙ same_at dests d was x (some_at dests d was g l) (ap (λ (xs : List DestinationSide). slice_get xs d) h ∙ is) in
    subst (λ (y : DestinationSide). IsPrefix (get_or now.received d []) y.served × DestinationStands y) q
    (subst (λ (y : CrossbarSide). IsPrefix (get_or y.received d []) dest.served) e p, k)

pub packets_here : (crossbar now : CrossbarSide) (core was : CoreSide) (cores all : List CoreSide) (c : ℕ) → crossbar ≡ now → core ≡ was → was ≡ get_or cores c was → cores ≡ all
    → c < length cores → IsPrefix core.received (get_or crossbar.posted c []) → CoreKeeps core
    → (x : CoreSide) → slice_get all c ≡ Some x → IsPrefix x.received (get_or now.posted c []) × CoreKeeps x
packets_here crossbar now core was cores all c e f g h l p k x is =
    let q : core ≡ x = f ∙ same_at cores c was x (some_at cores c was g l) (ap (λ (xs : List CoreSide). slice_get xs c) h ∙ is) in
    subst (λ (y : CoreSide). IsPrefix y.received (get_or now.posted c []) × CoreKeeps y) q
    (subst (λ (y : CrossbarSide). IsPrefix core.received (get_or y.posted c [])) e p, k)

-- ---- ends that meet, by the wires

module _ (w : Setup) (cores : List CoreSide) (dests : List DestinationSide) (crossbar : CrossbarSide) (wired : AreWired w (ids core_id cores) (ids destination_id dests) (crossbar_id crossbar)) where
  within : {A : Type 0} (xs : List A) (i : ℕ) (x : A) → slice_get xs i ≡ Some x → i < length xs
  within {A} [] i x e = absurd (let clash : ◌≡◌ {A = Option A} None (Some x) = e in cc)
  within (y ∷ ys) zero x e = omega arith
  within (y ∷ ys) (suc i) x e = let l = within ys i x e in omega (arith, l)

  pub rows_meet : length cores ≡ w.config.cores → RowsMeet cores dests
  rows_meet full c core is d dest has =
      let a = id_there core_id cores c core is in
      let b = id_there destination_id dests d dest has in
      let n = wired.core_to c (core_id core) a in
      let m = wired.dest_from d (destination_id dest) b in
      let all = wired.all_dests in
      let lc = within cores c core is in
      let ld = within dests d dest has in
      let xd = ids_length destination_id dests in
      record { here = omega (arith, n, all, ld, xd); there = omega (arith, m, lc, full); meet = wired.requests c d (core_id core) (destination_id dest) a b }

  pub served_meet : ServedEndsMeet dests crossbar
  served_meet d dest has =
      let ld = within dests d dest has in
      let all = wired.all_dests in
      let xd = ids_length destination_id dests in
      let from = wired.crossbar_from in
      (omega (arith, ld, all, xd, from), wired.served d (destination_id dest) (id_there destination_id dests d dest has))

  pub packets_meet : length cores ≡ w.config.cores → PacketEndsMeet cores crossbar
  packets_meet full c core is =
      let lc = within cores c core is in
      let to = wired.crossbar_to in
      (omega (arith, lc, to, full), wired.packets c (core_id core) (id_there core_id cores c core is))

  -- ---- all ties

  pub ties_fit : length cores ≡ w.config.cores → RowsTied cores dests (length cores) → ServedTied dests crossbar (length dests) → PacketsTied cores crossbar (length cores)
      → CrossbarKeeps crossbar → AreFitting w cores dests crossbar
  ties_fit full rows served packets keeps =
      let tied : AreTied cores dests crossbar = record {
        to_destination = λ c d core dest is has. rows c (within cores c core is) core is d (within dests d dest has) dest has;
        to_crossbar = λ d dest has. (served d (within dests d dest has) dest has).0;
        to_core = λ c core is. (packets c (within cores c core is) core is).0;
      } in
      let core_keeps : (c : ℕ) (core : CoreSide) → slice_get cores c ≡ Some core → CoreKeeps core = λ c core is. (packets c (within cores c core is) core is).1 in
      let dest_keeps : (d : ℕ) (dest : DestinationSide) → slice_get dests d ≡ Some dest → DestinationKeeps dest = λ d dest has. (served d (within dests d dest has) dest has).1.0 in
      record {
        tied = tied;
        core_keeps = core_keeps;
        dest_keeps = dest_keeps;
        crossbar_keeps = keeps;
        fits = fits w cores dests crossbar wired full tied core_keeps dest_keeps keeps (λ d dest has. (served d (within dests d dest has) dest has).1.1);
      }

-- ---- ends that meet, at an element of a list

pub row_meets : (core now : CoreSide) (was : DestinationSide) (dests all : List DestinationSide) (c d : ℕ) → core ≡ now → was ≡ get_or dests d was → dests ≡ all → d < length dests
    → RowMeets now all c → RequestEndsMeet core was c d
row_meets core now was dests all c d e g h l meets =
    subst (λ (y : CoreSide). RequestEndsMeet y was c d) (sym e) (meets d was (ap (λ (xs : List DestinationSide). slice_get xs d) (sym h) ∙ some_at dests d was g l))

pub row_of : (was : CoreSide) (cores all : List CoreSide) (dests every : List DestinationSide) (c : ℕ) → was ≡ get_or cores c was → cores ≡ all → dests ≡ every → c < length cores
    → RowsMeet all every → RowMeets was dests c
row_of was cores all dests every c g h e l meet =
    subst (λ (ds : List DestinationSide). RowMeets was ds c) (sym e) (meet c was (ap (λ (xs : List CoreSide). slice_get xs c) (sym h) ∙ some_at cores c was g l))

pub served_of : (crossbar now : CrossbarSide) (was : DestinationSide) (dests all : List DestinationSide) (d : ℕ) → crossbar ≡ now → was ≡ get_or dests d was → dests ≡ all → d < length dests
    → ServedEndsMeet all now → (d < length crossbar.from) × (slice_get was.to 0 ≡ slice_get crossbar.from d)
served_of crossbar now was dests all d e g h l meet =
    subst (λ (y : CrossbarSide). (d < length y.from) × (slice_get was.to 0 ≡ slice_get y.from d)) (sym e)
    (meet d was (ap (λ (xs : List DestinationSide). slice_get xs d) (sym h) ∙ some_at dests d was g l))

pub packets_of : (crossbar now : CrossbarSide) (was : CoreSide) (cores all : List CoreSide) (c : ℕ) → crossbar ≡ now → was ≡ get_or cores c was → cores ≡ all → c < length cores
    → PacketEndsMeet all now → (c < length crossbar.to) × (slice_get crossbar.to c ≡ slice_get was.from 0)
packets_of crossbar now was cores all c e g h l meet =
    subst (λ (y : CrossbarSide). (c < length y.to) × (slice_get y.to c ≡ slice_get was.from 0)) (sym e)
    (meet c was (ap (λ (xs : List CoreSide). slice_get xs c) (sym h) ∙ some_at cores c was g l))
