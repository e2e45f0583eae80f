use Rattle.std.proofs.Common.{◌≡◌, ◌∙◌, ◌+◌, ◌<◌, ◌∷◌, ℕ, List, None, drop, get_or, length, ap, sym, subst, arith}
use Rattle.std.proofs.lemmas.List.{drop_more}
use Rattle.t1_bank.specs.Copies.{AreOfCaches}
use Rattle.t1_dir.specs.Directory.{DirectoryState, HasCore, directory_with, without_kills}
use Rattle.t1_packet.specs.Caches.{layout, slot_killed}
use Rattle.t1_packet.specs.Data.{KillData}
use Rattle.t1_shape.specs.Shapes.{Shape}
use Rattle.t1_bank.proofs.DirTags.{core_with}
use Rattle.t1_bank.proofs.copies.drop_copies.Goals as goal

pub clear-requires : goal.clear-requires
clear-requires c =
    let kills = c.args.kills.now in
    let i : ℕ = c.loop-kill.kill-index in
    let x : KillData = c.kill-item.result in
    let item : x ≡ get_or kills i x = c.kill-item.is ∙ ap (λ (ks : List KillData). get_or ks i x) c.as_slice-kill-items.ensures.value in
    let low : i < length kills = (let t = c.loop-kill-test.true in let e = ap (λ (ks : List KillData). length ks) c.as_slice-kill-items.ensures.value in omega (arith, t, e)) in
    let e : drop i kills ≡ x ∷ drop (i + 1) kills = drop_more kills i x low ∙ ap (λ (k : KillData). k ∷ drop (i + 1) kills) (sym item) in
    let p : AreOfCaches c.loop-kill.directory.shape c.args.cores (x ∷ drop (i + 1) kills) = subst (λ (ks : List KillData). AreOfCaches c.loop-kill.directory.shape c.args.cores ks) e c.loop-kill.invariant.rest in
    let core : c.kill.inside.core ≡ x.core = ap (λ (k : KillData). k.core) c.kill.view_is in
    let d : DirectoryState = c.loop-kill.directory in
    record {
      core = c.loop-kill.invariant.cores c.kill.inside.core (let q = p.0.0 in omega (arith, q, core));
      set = subst (λ (k : KillData). k.set < (layout d.shape k.cache).sets) (sym c.kill.view_is) p.0.1;
      way = subst (λ (k : KillData). k.way < (layout d.shape k.cache).ways) (sym c.kill.view_is) p.0.2;
    }

pub loop-kill-preserved : goal.loop-kill-preserved
loop-kill-preserved c =
    let kills = c.args.kills.now in
    let i : ℕ = c.loop-kill.kill-index in
    let x : KillData = c.kill-item.result in
    let d : DirectoryState = c.loop-kill.directory in
    let item : x ≡ get_or kills i x = c.kill-item.is ∙ ap (λ (ks : List KillData). get_or ks i x) c.as_slice-kill-items.ensures.value in
    let low : i < length kills = (let t = c.loop-kill-test.true in let e = ap (λ (ks : List KillData). length ks) c.as_slice-kill-items.ensures.value in omega (arith, t, e)) in
    let e : drop i kills ≡ x ∷ drop (i + 1) kills = drop_more kills i x low ∙ ap (λ (k : KillData). k ∷ drop (i + 1) kills) (sym item) in
    let p : AreOfCaches c.loop-kill.directory.shape c.args.cores (x ∷ drop (i + 1) kills) = subst (λ (ks : List KillData). AreOfCaches c.loop-kill.directory.shape c.args.cores ks) e c.loop-kill.invariant.rest in
    let new : c.clear.new.self ≡ directory_with d x.core x.cache (slot_killed d.shape x) None =
    c.clear.ensures ∙ ap (λ (k : KillData). directory_with d k.core k.cache (slot_killed d.shape k) None) c.kill.view_is in
    record {
      value =
          ap (λ (s : DirectoryState). without_kills s (drop (i + 1) kills)) new
          ∙ (sym (ap (λ (ks : List KillData). without_kills d ks) e) ∙ c.loop-kill.invariant.value);
      cores = λ core l. subst (λ (s : DirectoryState). HasCore s core) (sym new) (core_with d x.core x.cache (slot_killed d.shape x) None core (c.loop-kill.invariant.cores core l));
      shape = ap (λ (s : DirectoryState). s.shape) new ∙ c.loop-kill.invariant.shape;
      rest = subst (λ (q : Shape). AreOfCaches q c.args.cores (drop (i + 1) kills)) (sym (ap (λ (s : DirectoryState). s.shape) new)) p.1;
    }
