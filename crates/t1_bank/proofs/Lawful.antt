-- The laws of a sound bank, and of every bank that was made.
use Rattle.std.proofs.Common.{◌≡◌, ℕ, ◌*◌, ◌/◌, ◌%◌, ◌<◌, ◌≤◌, ◌==◌, List, length, map, Option, Some, None, refl, ap, sym, ◌∙◌, subst, inl, inr, arith}
use Rattle.std.proofs.lemmas.Bool.{cond_both, cond-true, cond-false}
use Rattle.std.proofs.lemmas.List.{take_all}
use Rattle.std.specs.List.{filter}
use Rattle.t1_bank.proofs.Rule.{way_for_fill}
use Rattle.t1_bank.specs.Copies.{AreOfCaches, copies_below}
use Rattle.t1_bank.specs.FlatMemory.{flat_after}
use Rattle.t1_bank.specs.Laws.{Always, Among, BytesAreMemory, EvictsItsOwn, FillsRightly, IsFillAt, IsLawful, IsShown, IsStart, KillsInOrder, KillsWhatIsShown, MakesFewKills, MirrorsTheImage, RefusesQuietly, Rises, SoundIsLawful, StaysSound, kill_key}
use Rattle.t1_bank.specs.Sound.{IsSound}
use Rattle.t1_dir.specs.Directory.{DirectoryState, tags_at}
use Rattle.t1_event.specs.BankRule.{BankState, bank_after, bank_start, bank_well, bank_with, evicted_of, is_fit, kills_of, old_of, refused, served_by, served_well, ways_for}
use Rattle.t1_event.specs.Kills.{effect, way_for}
use Rattle.t1_event.specs.Posts.{reply_line}
use Rattle.t1_l2.proofs.Kept.{length-lines_of_bank}
use Rattle.t1_l2.specs.Array.{lines_of_bank}
use Rattle.t1_packet.specs.Caches.{filled_line, layout, line_of}
use Rattle.t1_packet.specs.Data.{KillData, RequestData}
use Rattle.t1_packet.specs.Ops.{asked_way, op_addr}
use Rattle.t1_packet.specs.declared.cache.Cache.{Cache}
use Rattle.t1_packet.specs.declared.cache.Cache.TheVariants.{Dcache, Icache}
use Rattle.t1_packet.specs.declared.op.Op.{Op}
use Rattle.t1_packet.specs.declared.op.Op.TheVariants.{Cas, Fetch, Load, Store, Swap}
use Rattle.t1_packet.specs.declared.served.Served.{Served}
use Rattle.t1_shape.proofs.Slots.{set_of_slot, slot_some, slot_split}
use Rattle.t1_shape.specs.Numbers.{bank_at, banks}
use Rattle.t1_shape.specs.Shapes.{Shape}
use Rattle.t1_shape.specs.Slots.{Layout, slot_of}
use Rattle.t1_bank.proofs.Fit.{IsFit, fit}
use Rattle.t1_bank.proofs.Start.{start_sound}
use Rattle.t1_bank.proofs.Steps.{sound_step}
use Rattle.t1_bank.proofs.Flat.{After, after_all, alike_step, mirrors_step, old_flat, fill_flat, no_reply}
use Rattle.t1_bank.proofs.Few.{few_copies, few_all}
use Rattle.t1_bank.proofs.Agree.{kills_are_copies, kills_ranged, sound_apart, evicted_line}
use Rattle.t1_bank.proofs.Shown.{shown_below, kills_rise}
use Rattle.t1_bank.proofs.Link.{follows}

-- ---- states

pub stays_sound : StaysSound
stays_sound b r s = (sound_step b r s, alike_step b r)

pub started : (shape : Shape) (bank cores sets : ℕ) (image : List ℕ) (rs : List RequestData) → IsStart shape bank cores sets image
    → After (bank_start shape bank cores sets image) (bank_after (bank_start shape bank cores sets image) rs) (flat_after shape cores (length image) bank image rs)
started shape bank cores sets image rs s =
    after_all rs (bank_start shape bank cores sets image) image (start_sound shape bank cores sets image s.bank_is s.few s.some s.many s.even s.small)
    (record {
      size = refl;
      lines = ap (λ (n : ℕ). lines_of_bank shape bank image n) (sym (length-lines_of_bank shape bank image (length image / 64 / banks shape)));
    })

pub mirrors_the_image : MirrorsTheImage
mirrors_the_image shape bank cores sets image rs s = (started shape bank cores sets image rs s).mirrors

-- ---- an access is served well or refused

served_either : (b : BankState) (r : RequestData) (P : Served → Type 0) → (IsFit b r → P (served_well b r)) → P (refused r) → P (served_by b r)
unfolding served_by
served_either b r P well none = cond_both (is_fit b r) (served_well b r) (refused r) P (λ t. well (fit b r t)) (λ t. none)

-- ---- kills

-- the core's kills, by look-ups, are at most six
six_copies : (d : DirectoryState) (own : ℕ) (v : Option ℕ) (op : Op) (core cores : ℕ) → length (filter (λ k. k.core == core) (copies_below d own v op cores)) ≤ 6
six_copies d own v op core cores = elim (few_copies d own v op core cores) [
  | inl p ↦ p.1
  | inr p ↦ omega (arith, p.1)
]

copies_are : (b : BankState) (r : RequestData) → IsSound b → copies_below b.directory r.core (evicted_of b r) (effect r.op (old_of b r)) b.cores ≡ kills_of b r
copies_are b r s =
    kills_are_copies b.directory r.core (evicted_of b r) (effect r.op (old_of b r)) b.cores (λ c cache l. sound_apart b r s c cache l)

six : (b : BankState) (r : RequestData) (core : ℕ) → IsSound b → length (filter (λ k. k.core == core) (served_by b r).kills) ≤ 6
six b r core s =
    served_either b r (λ v. length (filter (λ k. k.core == core) v.kills) ≤ 6)
    (λ f. subst (λ (ks : List KillData). length (filter (λ k. k.core == core) ks) ≤ 6) (copies_are b r s)
    (six_copies b.directory r.core (evicted_of b r) (effect r.op (old_of b r)) core b.cores))
    (omega arith)

few : (b : BankState) → IsSound b → MakesFewKills b
few b s = record {
  ranges = λ r. served_either b r (λ v. AreOfCaches b.directory.shape b.cores v.kills) (λ f. kills_ranged b r s) tt;
  six = λ r core. six b r core s;
  posted = λ r core. take_all 8 (filter (λ k. k.core == core) (served_by b r).kills) (omega (arith, six b r core s));
  all = λ r. served_either b r (λ v. length v.kills ≤ 6 * b.cores)
      (λ f. subst (λ (ks : List KillData). length ks ≤ 6 * b.cores) (copies_are b r s) (few_all b.directory r.core (evicted_of b r) (effect r.op (old_of b r)) b.cores))
      (omega arith);
}

shown : (b : BankState) → KillsWhatIsShown b
shown b r k =
    served_either b r (λ v. Among k v.kills → IsShown b r k)
    (λ f i. let x = shown_below b.directory r.core (evicted_of b r) (effect r.op (old_of b r)) b.cores k i in record { line = x.line; at = x.at; doomed = x.doomed })
    (λ i. absurd i)

order : (b : BankState) → IsSound b → KillsInOrder b
order b s r =
    served_either b r (λ v. Rises 0 (map (kill_key b.directory.shape) v.kills))
    (λ f. kills_rise b.directory r.core (evicted_of b r) (effect r.op (old_of b r)) b.cores s.once)
    tt

-- ---- bytes

pub bytes_are_memory : BytesAreMemory
unfolding served_by
bytes_are_memory b m s is = record {
  old = λ r t. ap (λ (v : Served). v.old) (cond-true (is_fit b r) (served_well b r) (refused r) t) ∙ old_flat b m s is r (fit b r t);
  line = λ r. served_either b r (λ v. v.line ≡ reply_line m r.op v.way) (λ f. fill_flat b m s is r f) (no_reply m r.op);
  after = λ r. mirrors_step b m s is r;
}

-- ---- fills and evictions

fill_at : (b : BankState) (r : RequestData) (cache : Cache) (line way : ℕ) (o : Option ℕ) → asked_way r.op < (layout b.directory.shape cache).ways
    → slot_of (layout b.directory.shape cache) (tags_at b.directory r.core cache) line ≡ o → way_for (layout b.directory.shape cache) o (asked_way r.op) ≡ way
    → IsFillAt b r cache line way o
fill_at b r cache line way None l e w = (sym w, omega (arith, l, w))
fill_at b r cache line way (Some slot) l e w =
    let g : Layout = layout b.directory.shape cache in
    let f = slot_some g (tags_at b.directory r.core cache) line slot e in
    let set = set_of_slot g (line % g.sets) slot f.above f.below in
    let n = ap (λ (s : ℕ). g.ways * s) set in
    omega (arith, slot_split g slot, n, w)

fill_of : (b : BankState) (r : RequestData) (cache : Cache) (line way : ℕ) (op : Op) → op ≡ r.op → asked_way op < ways_for b.directory.shape op
    → filled_line cache op ≡ Some line → way_for_fill b.directory r.core op ≡ Some way
    → IsFillAt b r cache line way (slot_of (layout b.directory.shape cache) (tags_at b.directory r.core cache) line)
fill_of b r Icache line way (Fetch addr asked) is l e w =
    let q : line_of Icache addr ≡ line = cc in
    let v : way_for (layout b.directory.shape Icache) (slot_of (layout b.directory.shape Icache) (tags_at b.directory r.core Icache) (line_of Icache addr)) asked ≡ way = cc in
    let same : asked ≡ asked_way r.op = ap asked_way is in
    fill_at b r Icache line way (slot_of (layout b.directory.shape Icache) (tags_at b.directory r.core Icache) line) (omega (arith, l, same)) refl
    (ap (λ (n : ℕ). way_for (layout b.directory.shape Icache) (slot_of (layout b.directory.shape Icache) (tags_at b.directory r.core Icache) n) (asked_way r.op)) (sym q)
    ∙ (ap (λ (n : ℕ). way_for (layout b.directory.shape Icache) (slot_of (layout b.directory.shape Icache) (tags_at b.directory r.core Icache) (line_of Icache addr)) n) (sym same) ∙ v))
fill_of b r Dcache line way (Load addr size asked) is l e w =
    let q : line_of Dcache addr ≡ line = cc in
    let v : way_for (layout b.directory.shape Dcache) (slot_of (layout b.directory.shape Dcache) (tags_at b.directory r.core Dcache) (line_of Dcache addr)) asked ≡ way = cc in
    let same : asked ≡ asked_way r.op = ap asked_way is in
    fill_at b r Dcache line way (slot_of (layout b.directory.shape Dcache) (tags_at b.directory r.core Dcache) line) (omega (arith, l, same)) refl
    (ap (λ (n : ℕ). way_for (layout b.directory.shape Dcache) (slot_of (layout b.directory.shape Dcache) (tags_at b.directory r.core Dcache) n) (asked_way r.op)) (sym q)
    ∙ (ap (λ (n : ℕ). way_for (layout b.directory.shape Dcache) (slot_of (layout b.directory.shape Dcache) (tags_at b.directory r.core Dcache) (line_of Dcache addr)) n) (sym same) ∙ v))
fill_of b r Dcache line way (Fetch addr asked) is l e w = absurd (let clash : ◌≡◌ {A = Option ℕ} None (Some line) = e in cc)
fill_of b r Icache line way (Load addr size asked) is l e w = absurd (let clash : ◌≡◌ {A = Option ℕ} None (Some line) = e in cc)
fill_of b r cache line way (Store addr size value) is l e w = absurd (let clash : ◌≡◌ {A = Option ℕ} None (Some line) = e in cc)
fill_of b r cache line way (Swap addr size new) is l e w = absurd (let clash : ◌≡◌ {A = Option ℕ} None (Some line) = e in cc)
fill_of b r cache line way (Cas addr size expect new) is l e w = absurd (let clash : ◌≡◌ {A = Option ℕ} None (Some line) = e in cc)

fills : (b : BankState) → IsSound b → FillsRightly b
fills b s r cache line way e =
    served_either b r (λ v. v.way ≡ Some way → IsFillAt b r cache line way (slot_of (layout b.directory.shape cache) (tags_at b.directory r.core cache) line))
    (λ f w. fill_of b r cache line way r.op refl (subst (λ (q : Shape). asked_way r.op < ways_for q r.op) s.shapes f.way) e w)
    (λ w. absurd (let clash : ◌≡◌ {A = Option ℕ} None (Some way) = w in cc))

evicts : (b : BankState) → IsSound b → EvictsItsOwn b
evicts b s r addr =
    served_either b r (λ v. v.evicted ≡ Some addr → (bank_at b.array.shape addr ≡ b.array.bank) × (addr % 64 ≡ 0))
    (λ f e.
    let x = evicted_line b.array (op_addr r.op / 64) addr e in
    let at = x.at in
    let line : addr / 64 ≡ x.line = omega (arith, at) in
    (ap (λ (n : ℕ). n % banks b.array.shape) line ∙ s.array.mine x.there.0 x.line x.there.1, omega (arith, at)))
    (λ e. absurd (let clash : ◌≡◌ {A = Option ℕ} None (Some addr) = e in cc))

-- ---- all of it

pub sound_is_lawful : SoundIsLawful
sound_is_lawful b s = record {
  sound = s;
  few = few b s;
  shown = shown b;
  order = order b s;
  fills = fills b s;
  evicts = evicts b s;
  follows = λ r core cache. follows b r core cache s;
}

pub always_lawful : Always IsLawful
always_lawful shape bank cores sets image rs s =
    sound_is_lawful (bank_after (bank_start shape bank cores sets image) rs) (started shape bank cores sets image rs s).sound

pub refuses_quietly : RefusesQuietly
unfolding served_by bank_with
refuses_quietly b r t = (cond-false (is_fit b r) (bank_well b r) b t, cond-false (is_fit b r) (served_well b r) (refused r) t)
