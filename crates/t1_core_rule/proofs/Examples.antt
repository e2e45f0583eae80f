-- Caches by packets, and a history whose packets are proper.
use Rattle.std.proofs.Common.{◌≡◌, ℕ, [], ◌∷◌, Option, Some, None, refl, ap, sym, ◌∙◌, subst, inl, inr, arith}
use Rattle.t1_shape.specs.Shapes.{Shape}
use Rattle.t1_packet.specs.declared.cache.Cache.TheVariants.{Dcache}
use Rattle.t1_packet.specs.declared.packet.Packet.{Packet}
use Rattle.t1_packet.specs.Data.{KillData, ReplyData}
use Rattle.t1_joint.specs.Lists.{IsIn}
use Rattle.t1_joint.specs.Proper.{IsKillOf, AreProper}
use Rattle.t1_packet.proofs.Caches.{ways_are, sets_are}
use Rattle.t1_core_rule.specs.Histories.{History, after_calls}
use Rattle.t1_core_rule.specs.Laws.{CachesAreOfPackets, CachesFollowPackets, PacketsCanBeProper, history_of}
use Rattle.t1_core_rule.specs.Fitting.{IsFitting}
use Rattle.t1_core_rule.proofs.Walks.{history_steady}
use Rattle.t1_core_rule.proofs.Fits.{history_fits}

pub caches_follow_packets : CachesFollowPackets
caches_follow_packets w core calls whole some lines proper =
    let h : History = history_of w core calls in
    let f : IsFitting w h = (history_fits w core calls whole some lines proper).fitting in
    let steady = history_steady w core calls whole in
    subst (λ (chip : Shape). CachesAreOfPackets chip core h) steady.chip
    (subst (λ (c : ℕ). CachesAreOfPackets h.core.chip c h) steady.number (record { dcache = f.dcache; icache = f.icache }))

abbrev packet : ℕ → Packet
packet core = record { index = 5; reply = None; kills = (record { core = core; cache = Dcache; set = 0; way = 0 }) ∷ [] }

one_packet : (chip : Shape) (core : ℕ) → AreProper chip core (λ d. []) (packet core ∷ [])
one_packet chip core = record {
  ascend = (omega arith, tt);
  small = λ p h. elim h [ inl e ↦ (let i : p.index ≡ 5 = ap (λ (v : Packet). v.index) e in omega (arith, i)) | inr n ↦ absurd n ];
  kills = λ p kill h g. elim h [
    | inl e ↦ elim (subst (λ (v : Packet). IsIn kill v.kills) e g) [
      | inl k ↦ subst (λ (v : KillData). IsKillOf chip core v) (sym k) (record { core_is = refl; set_is = (sets_are chip Dcache).0; way_is = (ways_are chip Dcache).0 })
      | inr n ↦ absurd n
    ]
    | inr n ↦ absurd n
  ];
  replies = λ p r h is. elim h [
    | inl e ↦ absurd (none_some r (sym (ap (λ (v : Packet). v.reply) e) ∙ is))
    | inr n ↦ absurd n
  ];
  order = λ d. ([], refl);
}
  where
    none_some : (r : ReplyData) → None ≡ Some r → ⊥
    none_some r e = let clash : ◌≡◌ {A = Option ReplyData} None (Some r) = e in cc

pub packets_can_be_proper : PacketsCanBeProper
unfolding after_calls
packets_can_be_proper w core = (((λ r e. absurd (none_some r e)), tt), one_packet w.config.chip core)
  where
    none_some : (r : ReplyData) → None ≡ Some r → ⊥
    none_some r e = let clash : ◌≡◌ {A = Option ReplyData} None (Some r) = e in cc
