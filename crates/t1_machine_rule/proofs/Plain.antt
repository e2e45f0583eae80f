-- Packets as the log has them: the posts of commits are those of the accesses, in the plain form.
use Rattle.std.proofs.Common.{◌≡◌, ℕ, suc, ◌+◌, ◌*◌, ◌%◌, ◌==◌, Bool, true, false, if◌then◌else◌, List, [], ◌∷◌, length, map, Option, Some, None, refl, ap, sym, ◌∙◌, arith}
use Rattle.std.specs.List.{slice_get}
use Rattle.std.proofs.lemmas.Nat.{div-mul-add, mod-mul-add}
use Rattle.t1_packet.specs.declared.packet.Packet.{Packet}
use Rattle.t1_packet.specs.declared.served.Served.{Served}
use Rattle.t1_packet.specs.Data.{KillData, ReplyData}
use Rattle.t1_packet.specs.Packets.{kills_to, reply_to, packet_of, packet_to}
use Rattle.t1_event.specs.declared.commit.Commit.{Commit}
use Rattle.t1_event.specs.Log.{plain_op, kept_old, core_of, memory_at}
use Rattle.t1_event.specs.Posts.{reply_line, reply_of, post_by, post_at}
use Rattle.t1_joint.specs.Start.{Setup}
use Rattle.t1_joint.specs.Parts.{posted_before, posts_from}
use Rattle.t1_joint.specs.Fit.{log_of}
use Rattle.t1_fit.proofs.Logs.{record_of, log_at, plain_line}
use Rattle.t1_fit.proofs.Came.{IsPosted}
use Rattle.t1_machine_rule.specs.Stands.{plain_reply, plain_packet, posts_of}

abbrev plain_post : Option Packet → Option Packet
plain_post None = None
plain_post (Some packet) = Some (plain_packet packet)

plain_before : (o : Option Packet) (ps : List Packet) → map plain_packet (posted_before o ps) ≡ posted_before (plain_post o) (map plain_packet ps)
plain_before None ps = refl
plain_before (Some packet) ps = refl

plain_of : (n : ℕ) (o : Option ReplyData) (ks : List KillData) → plain_post (packet_of n o ks) ≡ packet_of n (plain_reply o) ks
plain_of n (Some reply) ks = refl
plain_of n None [] = refl
plain_of n None (k ∷ ks) = refl

plain_if : (b : Bool) (reply : ReplyData) → plain_reply (if b then Some reply else None) ≡ (if b then plain_reply (Some reply) else None)
plain_if true reply = refl
plain_if false reply = refl

module _ (w : Setup) (all : List Served) (right : (n : ℕ) (a : Served) → slice_get all n ≡ Some a → IsPosted w all n a) where
  -- the reply of an access, in the plain form, is that of its record
  reply_plain : (n : ℕ) (a : Served) → slice_get all n ≡ Some a → plain_reply (Some (reply_to a)) ≡ Some (reply_of w.config.strands (memory_at w.image.ram (log_of w all) n) (record_of w a))
  reply_plain n a is =
      let memory : List ℕ = memory_at w.image.ram (log_of w all) n in
      let below = (right n a is).strand in
      let strand : (a.request.core * w.config.strands + a.request.strand) % w.config.strands ≡ a.request.strand = mod-mul-add a.request.core w.config.strands a.request.strand below in
      let line : reply_line memory (plain_op a.request.op a.old a.way) a.way ≡ a.line = plain_line memory a.request.op a.old a.way ∙ sym (right n a is).line in
      let made : ℕ → List ℕ → Option ReplyData = λ s bytes. Some (record {
        strand = s;
        item = a.request.item;
        seen = a.request.seen;
        op = plain_op a.request.op a.old a.way;
        old = kept_old a.request.op a.old;
        way = a.way;
        line = bytes;
      }) in
      ap (λ (s : ℕ). made s a.line) (sym strand) ∙ ap (λ (bytes : List ℕ). made ((a.request.core * w.config.strands + a.request.strand) % w.config.strands) bytes) (sym line)

  post_plain : (n c : ℕ) (a : Served) → slice_get all n ≡ Some a → plain_post (packet_to c n a) ≡ post_at w.config.strands w.image.ram (log_of w all) c n
  post_plain n c a is =
      let memory : List ℕ = memory_at w.image.ram (log_of w all) n in
      let below = (right n a is).strand in
      let core : core_of w.config.strands (record_of w a) ≡ a.request.core = div-mul-add a.request.core w.config.strands a.request.strand below in
      plain_of n (if a.request.core == c then Some (reply_to a) else None) (kills_to c a.kills)
      ∙ (ap (λ (o : Option ReplyData). packet_of n o (kills_to c a.kills)) (plain_if (a.request.core == c) (reply_to a))
      ∙ (ap (λ (o : Option ReplyData). packet_of n (if a.request.core == c then o else None) (kills_to c a.kills)) (reply_plain n a is)
      ∙ (ap (λ (k : ℕ). packet_of n (if k == c then Some (reply_of w.config.strands memory (record_of w a)) else None) (kills_to c a.kills)) (sym core)
      ∙ ap (λ (o : Option Commit). post_by w.config.strands memory n c o) (sym (log_at w all n a is)))))

  -- the packets of accesses from an index on
  pub posts_plain : (c n : ℕ) (xs : List Served) → ((i : ℕ) (a : Served) → slice_get xs i ≡ Some a → slice_get all (n + i) ≡ Some a)
      → map plain_packet (posts_from c n xs) ≡ posts_of w (log_of w all) c n (length xs)
  posts_plain c n [] at = refl
  posts_plain c n (a ∷ xs) at =
      let here : slice_get all n ≡ Some a = ap (λ (k : ℕ). slice_get all k) (let z : n ≡ n + 0 = omega arith in z) ∙ at 0 a refl in
      let more : map plain_packet (posts_from c (suc n) xs) ≡ posts_of w (log_of w all) c (suc n) (length xs) =
      posts_plain c (suc n) xs (λ i b e. ap (λ (k : ℕ). slice_get all k) (let z : suc n + i ≡ n + suc i = omega arith in z) ∙ at (suc i) b e) in
      plain_before (packet_to c n a) (posts_from c (suc n) xs)
      ∙ (ap (λ (o : Option Packet). posted_before o (map plain_packet (posts_from c (suc n) xs))) (post_plain n c a here)
      ∙ ap (λ (ps : List Packet). posted_before (post_at w.config.strands w.image.ram (log_of w all) c n) ps) more)
