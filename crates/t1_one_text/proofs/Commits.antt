-- The lines of commits and of the memory order are cut in one way.
use Rattle.std.proofs.Common.{◌≡◌, ℕ, ◌+◌, ◌^◌, ◌<◌, ◌≤◌, List, [], ◌∷◌, ◌++◌, drop, get_or, codes, decimal, Option, Some, None, refl, sym, ap, ◌∙◌, append_assoc, arith}
use Rattle.std.specs.List.{slice_get}
use Rattle.std.proofs.lemmas.Option.{same_Some}
use Rattle.t1_packet.specs.declared.cache.Cache.{Cache}
use Rattle.t1_packet.specs.declared.cache.Cache.TheVariants.{Dcache, Icache}
use Rattle.t1_packet.specs.Data.{KillData}
use Rattle.t1_event.specs.declared.item.Item.{Item}
use Rattle.t1_event.specs.declared.item.How.{How}
use Rattle.t1_event.specs.declared.item.How.TheVariants as how
use Rattle.t1_event.specs.declared.commit.Commit.{Commit}
use Rattle.t1_event.specs.declared.report.Place.{Place}
use Rattle.t1_event.specs.Records.{op_of, old_of}
use Rattle.t1_log.specs.Lines.{place_line_of}
use Rattle.t1_log.specs.Log.{cache_letter, kill_field_of, kill_fields_of, way_field_of, evicted_field_of, commit_head_of, commit_line_of}
use Rattle.t1_take.specs.Taken.{EndsDigits}
use Rattle.t1_take.specs.WellFormed.{IsGoodKill, IsGoodWay, IsGoodEvicted, IsGoodCommit, IsNamed, IsGoodPlace}
use Rattle.t1_take.proofs.Finding.{not_dash, hex_no_dash}
use Rattle.t1_take.proofs.Leaving.{kills_end}
use Rattle.t1_one_text.proofs.Fields.{letter, past, decimal_cut, number_cut, hex_cut}
use Rattle.t1_one_text.proofs.Lists.{Each, Cuts, each_all}

-- ---- kills

cache_cut : (c d : Cache) (x y : List ℕ) → cache_letter c ++ x ≡ cache_letter d ++ y → (c ≡ d) × (x ≡ y)
cache_cut Dcache Dcache x y e = (refl, ap (drop 1) e)
cache_cut Icache Icache x y e = (refl, ap (drop 1) e)
cache_cut Dcache Icache x y e = absurd (let l : 100 ≡ 105 = letter 0 e in omega (arith, l))
cache_cut Icache Dcache x y e = absurd (let l : 105 ≡ 100 = letter 0 e in omega (arith, l))

-- a copy's set and way, its cache before them, and its core before that
abbrev pub set_tail : KillData → List ℕ
set_tail kill = codes "." ++ decimal kill.way

abbrev pub cache_tail : KillData → List ℕ
cache_tail kill = codes "." ++ (decimal kill.set ++ set_tail kill)

abbrev pub core_tail : KillData → List ℕ
core_tail kill = codes "." ++ (cache_letter kill.cache ++ cache_tail kill)

kill_cut : (cores : ℕ) (a b : KillData) (x y : List ℕ) → cores < 2 ^ 32 → IsGoodKill cores a → IsGoodKill cores b → EndsDigits x → EndsDigits y → kill_field_of a ++ x ≡ kill_field_of b ++ y → (a ≡ b) × (x ≡ y)
unfolding kill_field_of
kill_cut cores a b x y few f g l k e =
    let fc = f.core in
    let gc = g.core in
    let fs = f.set in
    let gs = g.set in
    let fw = f.way in
    let gw = g.way in
    let core = number_cut a.core b.core (core_tail a) (core_tail b) x y (omega (arith, fc, few)) (omega (arith, gc, few)) refl refl (ap (drop 1) e) in
    let cache = cache_cut a.cache b.cache (cache_tail a ++ x) (cache_tail b ++ y)
    (sym (append_assoc (cache_letter a.cache) (cache_tail a) x) ∙ (ap (drop 1) core.1 ∙ append_assoc (cache_letter b.cache) (cache_tail b) y)) in
    let set = number_cut a.set b.set (set_tail a) (set_tail b) x y (omega (arith, fs)) (omega (arith, gs)) refl refl (ap (drop 1) cache.1) in
    let way = decimal_cut a.way b.way x y (omega (arith, fw)) (omega (arith, gw)) l k (ap (drop 1) set.1) in
    (λ i. record { core = core.0 i; cache = cache.0 i; set = set.0 i; way = way.0 i }, way.1)

kills_cut : (cores n : ℕ) (ks ls : List KillData) (x y : List ℕ) → cores < 2 ^ 32 → Each (λ (i : ℕ) (kill : KillData). IsGoodKill cores kill) n ks → Each (λ (i : ℕ) (kill : KillData). IsGoodKill cores kill) n ls
    → kill_fields_of ks ++ (codes "\n" ++ x) ≡ kill_fields_of ls ++ (codes "\n" ++ y) → (ks ≡ ls) × (x ≡ y)
unfolding kill_fields_of kill_field_of
kills_cut cores n [] [] x y few f g e = (refl, ap (drop 1) e)
kills_cut cores n (a ∷ ks) [] x y few f g e = absurd (let l : 32 ≡ 10 = letter 0 e in omega (arith, l))
kills_cut cores n [] (b ∷ ls) x y few f g e = absurd (let l : 10 ≡ 32 = letter 0 e in omega (arith, l))
kills_cut cores n (a ∷ ks) (b ∷ ls) x y few f g e =
    let one = kill_cut cores a b (kill_fields_of ks ++ (codes "\n" ++ x)) (kill_fields_of ls ++ (codes "\n" ++ y)) few f.0 g.0 (kills_end ks x) (kills_end ls y)
    (sym (append_assoc (kill_field_of a) (kill_fields_of ks) (codes "\n" ++ x)) ∙ (e ∙ append_assoc (kill_field_of b) (kill_fields_of ls) (codes "\n" ++ y))) in
    let rest = kills_cut cores (n + 1) ks ls x y few f.1 g.1 one.1 in
    (λ i. one.0 i ∷ rest.0 i, rest.1)

-- ---- ways and addresses, or dashes

way_cut : (v w : Option ℕ) (x y : List ℕ) → IsGoodWay v → IsGoodWay w → EndsDigits x → EndsDigits y → way_field_of v ++ x ≡ way_field_of w ++ y → (v ≡ w) × (x ≡ y)
way_cut None None x y f g l k e = (refl, ap (drop 1) e)
way_cut (Some v) (Some w) x y f g l k e = (let cut = decimal_cut v w x y (omega (arith, f)) (omega (arith, g)) l k e in (ap (λ (n : ℕ). Some n) cut.0, cut.1))
way_cut (Some v) None x y f g l k e = absurd (not_dash v x y (omega (arith, f)) e)
way_cut None (Some w) x y f g l k e = absurd (not_dash w y x (omega (arith, g)) (sym e))

evicted_cut : (v w : Option ℕ) (x y : List ℕ) → IsGoodEvicted v → IsGoodEvicted w → evicted_field_of v ++ x ≡ evicted_field_of w ++ y → (v ≡ w) × (x ≡ y)
evicted_cut None None x y f g e = (refl, ap (drop 1) e)
evicted_cut (Some v) (Some w) x y f g e = (let cut = hex_cut 10 v w x y f g e in (ap (λ (n : ℕ). Some n) cut.0, cut.1))
evicted_cut (Some v) None x y f g e = absurd (hex_no_dash 10 v x y (omega arith) e)
evicted_cut None (Some w) x y f g e = absurd (hex_no_dash 10 w y x (omega arith) (sym e))

-- ---- commits

pub record SameHead (a b : Commit) (x y : List ℕ) : Type 0 where
  pub dest : a.dest ≡ b.dest
  pub strand : a.strand ≡ b.strand
  pub item : a.item ≡ b.item
  pub rest : x ≡ y

heads_cut : (index : ℕ) (a b : Commit) (x y : List ℕ) → a.dest ≤ 4 → b.dest ≤ 4 → IsNamed a → IsNamed b → commit_head_of index a ++ x ≡ commit_head_of index b ++ y → SameHead a b x y
unfolding commit_head_of
heads_cut index a b x y l k f g e =
    let fs = f.strand in
    let gs = g.strand in
    let fi = f.item in
    let gi = g.item in
    let after = past (decimal index) _ _ x y (ap (drop 2) e) in
    let dest = number_cut a.dest b.dest _ _ x y (omega (arith, l)) (omega (arith, k)) refl refl (ap (drop 1) after) in
    let strand = number_cut a.strand b.strand _ _ x y (omega (arith, fs)) (omega (arith, gs)) refl refl (ap (drop 1) dest.1) in
    let item = number_cut a.item b.item (codes " ") (codes " ") x y (omega (arith, fi)) (omega (arith, gi)) refl refl (ap (drop 1) strand.1) in
    record { dest = dest.0; strand = strand.0; item = item.0; rest = ap (drop 1) item.1 }

-- what the text has of a commit
pub record SameFields (a b : Commit) (x y : List ℕ) : Type 0 where
  pub dest : a.dest ≡ b.dest
  pub strand : a.strand ≡ b.strand
  pub item : a.item ≡ b.item
  pub way : a.way ≡ b.way
  pub evicted : a.evicted ≡ b.evicted
  pub kills : a.kills ≡ b.kills
  pub rest : x ≡ y

abbrev pub kills_tail : Commit → List ℕ
kills_tail commit = kill_fields_of commit.kills ++ codes "\n"

abbrev pub evicted_tail : Commit → List ℕ
evicted_tail commit = codes " " ++ (evicted_field_of commit.evicted ++ kills_tail commit)

fields_cut : (cores index : ℕ) (traces others : List (List Item)) (a b : Commit) (x y : List ℕ) → cores < 2 ^ 32 → IsGoodCommit cores traces index a → IsNamed a → IsGoodCommit cores others index b → IsNamed b
    → commit_line_of index a ++ x ≡ commit_line_of index b ++ y → SameFields a b x y
unfolding commit_line_of
fields_cut cores index traces others a b x y few f m g n e =
    let head = heads_cut index a b ((way_field_of a.way ++ evicted_tail a) ++ x) ((way_field_of b.way ++ evicted_tail b) ++ y) f.dest g.dest m n
    (sym (append_assoc (commit_head_of index a) (way_field_of a.way ++ evicted_tail a) x) ∙ (e ∙ append_assoc (commit_head_of index b) (way_field_of b.way ++ evicted_tail b) y)) in
    let way = way_cut a.way b.way (evicted_tail a ++ x) (evicted_tail b ++ y) f.way g.way refl refl
    (sym (append_assoc (way_field_of a.way) (evicted_tail a) x) ∙ (head.rest ∙ append_assoc (way_field_of b.way) (evicted_tail b) y)) in
    let evicted = evicted_cut a.evicted b.evicted (kills_tail a ++ x) (kills_tail b ++ y) f.evicted g.evicted
    (sym (append_assoc (evicted_field_of a.evicted) (kills_tail a) x) ∙ (ap (drop 1) way.1 ∙ append_assoc (evicted_field_of b.evicted) (kills_tail b) y)) in
    let kills = kills_cut cores 0 a.kills b.kills x y few (each_all (IsGoodKill cores) 0 a.kills f.kills) (each_all (IsGoodKill cores) 0 b.kills g.kills)
    (sym (append_assoc (kill_fields_of a.kills) (codes "\n") x) ∙ (evicted.1 ∙ append_assoc (kill_fields_of b.kills) (codes "\n") y)) in
    record { dest = head.dest; strand = head.strand; item = head.item; way = way.0; evicted = evicted.0; kills = kills.0; rest = kills.1 }

abbrev pub seen_in : How → ℕ
seen_in how.Unplaced = 0
seen_in (how.Forward time) = 0
seen_in (how.Hit time) = 0
seen_in (how.Commit index seen) = seen

-- what the text has names the item, and the item says the rest
commit_same : (cores index : ℕ) (traces : List (List Item)) (a b : Commit) (x y : List ℕ) → IsGoodCommit cores traces index a → IsGoodCommit cores traces index b → SameFields a b x y → a ≡ b
commit_same cores index traces a b x y f g s =
    let strand = s.strand in
    let number = s.item in
    let way = s.way in
    let named : slice_get (get_or traces a.strand []) a.item ≡ slice_get (get_or traces b.strand []) b.item = λ i. slice_get (get_or traces (strand i) []) (number i) in
    let item : f.item ≡ g.item = same_Some f.item g.item (sym f.names ∙ (named ∙ g.names)) in
    let seen : a.seen ≡ b.seen = ap seen_in (sym f.placed ∙ (ap (λ (k : Item). k.how) item ∙ g.placed)) in
    let op : op_of f.item a.way f.item.kind ≡ op_of g.item b.way g.item.kind = λ i. op_of (item i) (way i) (item i).kind in
    let old : old_of f.item f.item.kind ≡ old_of g.item g.item.kind = λ i. old_of (item i) (item i).kind in
    λ i. record {
      dest = s.dest i;
      strand = strand i;
      item = number i;
      op = (f.op ∙ (op ∙ sym g.op)) i;
      seen = seen i;
      old = (f.old ∙ (old ∙ sym g.old)) i;
      way = way i;
      evicted = s.evicted i;
      kills = s.kills i;
    }

-- a commit of these traces, whose numbers have the sizes of their fields
abbrev pub IsCommit : ℕ → List (List Item) → ℕ → Commit → Type 0
IsCommit cores traces index commit = IsGoodCommit cores traces index commit × IsNamed commit

pub commits_cut : (cores : ℕ) (traces : List (List Item)) → cores < 2 ^ 32 → Cuts commit_line_of (IsCommit cores traces)
commits_cut cores traces few index a b x y f g e =
    let s = fields_cut cores index traces traces a b x y few f.0 f.1 g.0 g.1 e in
    (commit_same cores index traces a b x y f.0 g.0 s, s.rest)

-- ---- the memory order

pub order_cut : (strands : ℕ) → strands < 2 ^ 32 → Cuts (λ (n : ℕ) (place : Place). place_line_of place) (λ (n : ℕ) (place : Place). IsGoodPlace strands place)
unfolding place_line_of
order_cut strands few n a b x y f g e =
    let fs = f.strand in
    let gs = g.strand in
    let fi = f.item in
    let gi = g.item in
    let strand = number_cut a.strand b.strand _ _ x y (omega (arith, fs, few)) (omega (arith, gs, few)) refl refl (ap (drop 2) e) in
    let item = number_cut a.item b.item (codes "\n") (codes "\n") x y (omega (arith, fi)) (omega (arith, gi)) refl refl (ap (drop 1) strand.1) in
    (λ i. record { strand = strand.0 i; item = item.0 i }, ap (drop 1) item.1)
